use Rattle.std.proofs.Common.{rules, arith}
use Rattle.line_store.proofs.StoreCalls.{line_read, live_slot}
use Rattle.line_store.proofs.bucket_store.BucketStoreLineMem.line.Goals as goal

pub read-requires : goal.read-requires
read-requires g c = let wide = c.args.self.now.wide in (omega arith, (search rules, live_slot c.args.self.now.slots c.args.id c.get.result c.get.ensures.value c.requires))

pub returns-clause-line : goal.returns-clause-line
returns-clause-line g c = line_read c.args.self.now.slots c.args.id c.get.result c.read.result c.get.ensures.value c.read.ensures.line
