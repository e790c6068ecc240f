use Rattle.std.proofs.Common.{[]}
use Rattle.seg_read.proofs.Examples.{empty_is}
use Rattle.form_rows.proofs.differences.answers.Goals as goal

pub found-requires-clause-before : goal.found-requires-clause-before
found-requires-clause-before g c = (_, c.low_root-low.ensures _)

pub found-requires-2-clause-after : goal.found-requires-2-clause-after
found-requires-2-clause-after g c = (_, c.low_root-low.ensures _)

pub found-requires-4-clause-before : goal.found-requires-4-clause-before
found-requires-4-clause-before g c = ([], empty_is _ _ (c.empty.ensures.stands 4 _))

pub found-requires-5-clause-before : goal.found-requires-5-clause-before
found-requires-5-clause-before g c = (_, c.low_root-low.ensures _)

pub found-requires-5-clause-after : goal.found-requires-5-clause-after
found-requires-5-clause-after g c = ([], empty_is _ _ (c.empty-2.ensures.stands 4 _))

pub found-requires-6-clause-before : goal.found-requires-6-clause-before
found-requires-6-clause-before g c = ([], empty_is _ _ (c.empty-3.ensures.stands 4 _))

pub found-requires-6-clause-after : goal.found-requires-6-clause-after
found-requires-6-clause-after g c = ([], empty_is _ _ (c.empty-4.ensures.stands 4 _))
