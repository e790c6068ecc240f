use Rattle.std.proofs.Common.{take}
use Rattle.hic_word.specs.Parts.{values}
use Rattle.hic_word.specs.Stands.{Lookup, WordsFor}
use Rattle.hic_word.specs.Values.{Array, IsArray}
use Rattle.seg_write.specs.Puts.{FallInto, put_at}
use Rattle.seg_write.proofs.changes.words_after.Given as goal

abbrev pub invariant-loop-change : goal.invariant-loop-change
invariant-loop-change l = (m : Lookup) (A L : Array) → IsArray A → FallInto m 1 l.base 1 l.changes L → WordsFor 4 m l.fn.words (values 4 0 A) → WordsFor 4 m l.after (values 4 0 (put_at 1 l.base A (take l.change-index L)))
