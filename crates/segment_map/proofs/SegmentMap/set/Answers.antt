use Rattle.std.proofs.Common.{length, ap, arith}
use Rattle.segment_map.proofs.Rooted.{root_set, root_was}
use Rattle.segment_map.proofs.SegmentMap.set.Goals as goal

pub returns-clause-segments : goal.returns-clause-segments
returns-clause-segments c = rw (c.replace.ensures.after, ← c.self.view_is) (root_set c.self.inside.segments.items c.args.vsid c.args.root c.index_mut.result.now (omega (arith, ap length c.self.view_is, c.requires)) c.index_mut.ensures.value)

pub returns-clause-former : goal.returns-clause-former
returns-clause-former c = rw (c.replace.ensures.value, ← c.self.view_is) (root_was c.self.inside.segments.items c.args.vsid c.index_mut.result.now (omega (arith, ap length c.self.view_is, c.requires)) c.index_mut.ensures.value)
