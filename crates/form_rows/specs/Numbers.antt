-- Changes of numbers, as the tests make them.
use Rattle.std.specs.Prelude.{ℕ, ◌≤◌, List, length, map}
use Rattle.hic_word.specs.declared.Word.{Word}
use Rattle.hic_word.specs.Values.{Array, Number}
use Rattle.hic_word.specs.Changes.{AreChanges}
use Rattle.hic_word.specs.Stands.{Lookup}
use Rattle.hic_word.specs.InMemory.{ChangesFor}

-- the numbers of words, at their offsets
abbrev pub numbers : List (ℕ × Word) → Array
numbers cs = map (λ c. (c.0, Number c.1.bits)) cs

-- the words are those of the numbers, in every memory; the offsets strictly ascend; the changes are few
pub record NumberChanges (cs : List (ℕ × Word)) : Type 0 where
  pub few : length cs ≤ 4096
  pub changes : (w : ℕ) (m : Lookup) → ChangesFor w m cs (numbers cs)
  pub ascend : AreChanges 0 (numbers cs)
