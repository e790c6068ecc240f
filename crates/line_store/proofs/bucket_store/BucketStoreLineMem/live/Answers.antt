use Rattle.std.proofs.Common.{sym, ◌∙◌}
use Rattle.line_mem.specs.PlacesSound.{len-lines}
use Rattle.line_store.proofs.bucket_store.BucketStoreLineMem.live.Goals as goal

pub returns : goal.returns
returns g c = c.args.self.now.stored.taken ∙ sym (len-lines c.args.self.now.slots.slots)
