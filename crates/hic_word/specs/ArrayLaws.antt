-- Laws on arrays, their values and their slices.
use Rattle.std.specs.Prelude.{◌≡◌, ◌≢◌, ◌↔◌, ℕ, ◌+◌, ◌^◌, ◌<◌, ◌≤◌, Some, None}
use Rattle.hic_word.specs.Values.{Array, HasNoZero, HasValues, IsArray, IsBelow, Number, RisesFrom, at}
use Rattle.hic_word.specs.Changes.{AreChanges, with}
use Rattle.hic_word.specs.View.{next_of}
use Rattle.hic_word.specs.Parts.{slice}

-- an array is valid exactly where its offsets strictly ascend below 2^32, no value is the number 0 and each is valid
pub record IsOrdered (A : Array) : Type 0 where
  pub rises : RisesFrom 0 A
  pub below : IsBelow (2 ^ 32) A
  pub no_zero : HasNoZero A
  pub values : HasValues A

abbrev pub ArraysAreOrdered : Type 0
ArraysAreOrdered = (A : Array) → IsArray A ↔ IsOrdered A

-- valid arrays with the same value at each offset below 2^32 are one array
abbrev pub ValuesTellArrays : Type 0
ValuesTellArrays = (A B : Array) → IsArray A → IsArray B → ((i : ℕ) → i < 2 ^ 32 → at A i ≡ at B i) → A ≡ B

-- o is the least offset at or above i with a value that is not 0
pub record IsNext (A : Array) (i o : ℕ) : Type 0 where
  pub from : i ≤ o
  pub some : at A o ≢ Number 0
  pub least : (j : ℕ) → i ≤ j → j < o → at A j ≡ Number 0

-- what `next_of` finds, and where it finds nothing
pub record NextIs (A : Array) (i : ℕ) : Type 0 where
  pub found : (o : ℕ) → next_of A i ≡ Some o → IsNext A i o
  pub none : next_of A i ≡ None → (j : ℕ) → i ≤ j → at A j ≡ Number 0

abbrev pub NextIsLeast : Type 0
NextIsLeast = (A : Array) (i : ℕ) → IsArray A → NextIs A i

-- a slice is a valid array, below its size, with the values from its first offset on
pub record IsSlice (b s : ℕ) (A : Array) : Type 0 where
  pub valid : IsArray (slice b s A)
  pub below : IsBelow s (slice b s A)
  pub values : (i : ℕ) → i < s → at (slice b s A) i ≡ at A (b + i)

abbrev pub SlicesAreArrays : Type 0
SlicesAreArrays = (b s : ℕ) (A : Array) → IsArray A → IsSlice b s A

-- a slice of a slice is a slice
abbrev pub SlicesNest : Type 0
SlicesNest = (b s c t : ℕ) (A : Array) → c + t ≤ s → slice c t (slice b s A) ≡ slice (b + c) t A

-- a slice of a changed array is the slice, changed by the slice of the changes
abbrev pub SlicesAreChanged : Type 0
SlicesAreChanged = (b s c : ℕ) (A L : Array) → IsArray A → AreChanges c L → slice b s (with A L) ≡ with (slice b s A) (slice b s L)
