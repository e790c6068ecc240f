use Rattle.std.proofs.Common.{◌≡◌, ◌-◌, length, take}
use Rattle.hic_word.specs.Values.{Array}
use Rattle.hic_word.specs.Changes.{AreChanges, with}
use Rattle.hic_word.specs.Canon.{IsPart}
use Rattle.hic_word.specs.InMemory.{ChangesFor}
use Rattle.hic_word.specs.Stands.{Lookup}
use Rattle.seg_write.proofs.whole.needed.Given as goal

abbrev pub invariant-loop-gone : goal.invariant-loop-gone
invariant-loop-gone l = (m : Lookup) (A L : Array) → IsPart 4 l.height A → ChangesFor 4 m l.changes L → AreChanges 0 L → with A (take (length l.changes - l.gone) L) ≡ with A L
