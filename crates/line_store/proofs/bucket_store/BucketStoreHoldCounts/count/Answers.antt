use Rattle.std.proofs.Common.{sym, arith}
use Rattle.line_store.proofs.StoreCalls.{live_slot, slot_holds}
use Rattle.line_store.proofs.bucket_store.BucketStoreHoldCounts.count.Goals as goal

pub count-requires : goal.count-requires
count-requires g c = (omega arith, live_slot c.args.self.now.slots c.args.id c.get.result c.get.ensures.value c.requires)

pub returns : goal.returns
returns g c = sym (slot_holds c.args.self.now.slots c.args.id c.get.result c.count.result c.get.ensures.value c.count.ensures)
