-- What a search for the next word that is not 0 finds, and how many looks it takes.
use Rattle.std.specs.Prelude.{◌≡◌, ◌≢◌, ℕ, ◌*◌, ◌<◌, ◌≤◌, List, Option, Some, None, slice_index_or}
use Rattle.hic_word.specs.declared.Kind.TheVariants.{Num}
use Rattle.hic_word.specs.declared.Word.{Word}
use Rattle.hic_word.specs.Values.{Array, Number, at}
use Rattle.hic_word.specs.View.{next_of}
use Rattle.hic_word.specs.ArrayLaws.{IsNext}
use Rattle.hic_word.specs.InMemory.{WordIn}
use Rattle.hic_word.specs.Memory.{Memory}
use Rattle.hic_word.specs.Stands.{Lookup, WordFor, word_of}
use Rattle.line_mem.specs.Looks.{LooksUpTo}

-- the next offset from i on and a word for what is there; none exactly where there is none
abbrev pub NextFor : Memory → Array → ℕ → Option (ℕ × Word) → Type 0
NextFor m A i None = next_of A i ≡ None
NextFor m A i (Some found) = (next_of A i ≡ Some found.0) × WordIn m found.1 (at A found.0)

-- the same by what is at the offsets
abbrev pub FoundFor : Lookup → Array → ℕ → Option (ℕ × Word) → Type 0
FoundFor m A i None = (j : ℕ) → i ≤ j → at A j ≡ Number 0
FoundFor m A i (Some found) = IsNext A i found.0 × WordFor 4 m found.1 (at A found.0)

-- from `old` to `new` looks, n being the part's levels: a search that finds nothing, or that begins at 0, goes down once
abbrev pub NextLooks : ℕ → Option (ℕ × Word) → ℕ → ℕ → ℕ → Type 0
NextLooks i None n old new = LooksUpTo n old new
NextLooks i (Some found) n old new = LooksUpTo (2 * n) old new × (i ≡ 0 → LooksUpTo n old new)

-- the word at a place
abbrev pub word_in : List Word → ℕ → Word
word_in words i = slice_index_or words i (word_of Num 0 0)

-- the words from place i up to but not including n are 0
abbrev pub AreZero : List Word → ℕ → ℕ → Type 0
AreZero words i n = (j : ℕ) → i ≤ j → j < n → word_in words j ≡ word_of Num 0 0

-- place p is the first from i on with a word that is not 0
pub record IsFirst (words : List Word) (i p : ℕ) : Type 0 where
  pub from : i ≤ p
  pub low : p < 4
  pub zeros : AreZero words i p
  pub some : word_in words p ≢ word_of Num 0 0

-- the first place from i on with a word that is not 0, and that word
abbrev pub WordFound : List Word → ℕ → ℕ × Word → Type 0
WordFound words i found = IsFirst words i found.0 × (found.1 ≡ word_in words found.0)
