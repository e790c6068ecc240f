use Rattle.std.proofs.Common.{sym, ◌∙◌}
use Rattle.line_mem.specs.PlacesSound.{len-lines}
use Rattle.line_mem.proofs.flat_store.FlatStoreLineMem.live.Goals as goal

pub returns : goal.returns
returns g c = c.args.self.now.live_count ∙ sym (len-lines c.args.self.now.slots.items)
