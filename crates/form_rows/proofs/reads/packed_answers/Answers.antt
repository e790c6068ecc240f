use Rattle.std.proofs.Common.{[]}
use Rattle.seg_read.proofs.Examples.{empty_is}
use Rattle.form_rows.proofs.reads.packed_answers.Goals as goal

pub read-requires : goal.read-requires
read-requires g c = (_, c.packed-root.ensures _)

pub read-requires-2 : goal.read-requires-2
read-requires-2 g c = (_, c.packed-root.ensures _)

pub read-requires-3 : goal.read-requires-3
read-requires-3 g c = (_, c.packed-root.ensures _)

pub next_from-requires : goal.next_from-requires
next_from-requires g c = (_, c.packed-root.ensures _)

pub next_from-requires-2 : goal.next_from-requires-2
next_from-requires-2 g c = (_, c.packed-root.ensures _)

pub next_from-requires-3 : goal.next_from-requires-3
next_from-requires-3 g c = (_, c.packed-root.ensures _)

pub next_from-requires-4 : goal.next_from-requires-4
next_from-requires-4 g c = ([], empty_is _ _ (c.empty.ensures.stands 4 _))
