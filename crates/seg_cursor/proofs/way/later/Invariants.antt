use Rattle.std.proofs.Common.{◌≡◌, ◌+◌, ◌*◌, ◌/◌, ◌^◌, Some}
use Rattle.hic_word.specs.declared.Word.{Word}
use Rattle.hic_word.specs.Values.{Array, IsBelow, Number, at}
use Rattle.hic_word.specs.Stands.{Lookup}
use Rattle.seg_cursor.specs.Pieces.{IsBlank}
use Rattle.seg_cursor.specs.Trails.{KeptFor}
use Rattle.seg_cursor.proofs.way.later.Given as goal

abbrev pub invariant-loop-height : goal.invariant-loop-height
invariant-loop-height l = (m : Lookup) (root : Word) (A : Array) → IsBelow (4 ^ l.fn.top) A → root.height ≡ l.fn.top → KeptFor m root A l.lines l.fn.end (Some l.offset)
    → at A l.offset ≡ Number 0 → IsBlank A l.offset ((l.offset / 4 ^ l.height + 1) * 4 ^ l.height)
