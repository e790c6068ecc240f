-- What becomes of an iterator register after a commit of its writes.
use Rattle.std.specs.Prelude.{Option}
use Rattle.hic_word.specs.declared.Word.{Word}
use Rattle.segment_map.specs.declared.merged.Merged.{Merged}
use Rattle.segment_map.specs.declared.merged.Merged.TheVariants as answers
use Rattle.iter_regs.specs.declared.opened.Open.{Open}
use Rattle.iter_regs.specs.Iters.{renewed}

-- it is renewed on the new array of its segment, or stays where there is none
abbrev pub renewed_by : Merged → Option Open → Word → Option Open
renewed_by answers.Swapped r root = renewed r root
renewed_by answers.Merged r root = renewed r root
renewed_by answers.Conflict r root = r
renewed_by answers.Wide r root = r
