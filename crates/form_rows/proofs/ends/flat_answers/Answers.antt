use Rattle.ref_counts.proofs.Linked.{empty_holds}
use Rattle.form_rows.proofs.ends.flat_answers.Goals as goal

pub made_answers-requires : goal.made_answers-requires
made_answers-requires g c = empty_holds _ _ c.in_ok-mem.ensures
