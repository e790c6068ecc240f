-- Laws on changes and differences.
use Rattle.std.specs.Prelude.{◌≡◌, ◌↔◌, ℕ, List}
use Rattle.hic_word.specs.Lists.{In}
use Rattle.hic_word.specs.Values.{Array, IsArray, Value, at}
use Rattle.hic_word.specs.Changes.{AreChanges, ChangeNothing, value_after, with}
use Rattle.hic_word.specs.Differences.{Ascend, differ, changes_at}

-- a changed array is valid, and has the values of the changes and else its own
abbrev pub ChangesAreMade : Type 0
ChangesAreMade = (A : Array) (cs : List (ℕ × Value)) → IsArray A → AreChanges 0 cs → IsArray (with A cs) × ((i : ℕ) → at (with A cs) i ≡ value_after cs i (at A i))

-- changes that change nothing
abbrev pub NothingIsChanged : Type 0
NothingIsChanged = (A : Array) (cs : List (ℕ × Value)) → IsArray A → AreChanges 0 cs → ChangeNothing A cs → with A cs ≡ A

-- `differ` is ascending, has exactly the offsets with different values, and these make the one array the other
pub record Differs (A B : Array) : Type 0 where
  pub ascend : Ascend 0 (differ A B)
  pub exact : (i : ℕ) → In i (differ A B) ↔ (at A i ≡ at B i → ⊥)
  pub valid : AreChanges 0 (changes_at B (differ A B))
  pub makes : with A (changes_at B (differ A B)) ≡ B

abbrev pub DifferencesAreExact : Type 0
DifferencesAreExact = (A B : Array) → IsArray A → IsArray B → Differs A B
