use Rattle.std.proofs.Common.{◌≤◌, length}
use Rattle.hic_word.specs.Values.{Array}
use Rattle.hic_word.specs.Canon.{IsPart}
use Rattle.hic_word.specs.Stands.{Lookup, Unique}
use Rattle.seg_changes.specs.ChangeList.{most_changes}
use Rattle.seg_changes.specs.Differing.{Adds, differ_from, raised_at}
use Rattle.seg_changes.specs.Withins.{WithinFor}
use Rattle.seg_changes.proofs.words.differ_words.Given as goal

-- the differences before the place are there
abbrev pub invariant-loop-place : goal.invariant-loop-place
invariant-loop-place l = record {
  differences : (m : Lookup) (A B : Array) → Unique m → IsPart 4 1 A → IsPart 4 1 B → WithinFor m 1 l.before A → WithinFor m 1 l.after B
      → Adds m l.fn.out l.out (raised_at l.base B (differ_from 0 l.place A B));
  few : length l.out ≤ most_changes;
}
