-- Words that stand for something in one map of lines or in two.
use Rattle.std.specs.Prelude.{◌≡◌, ◌⊎◌, ℕ, List, [], ◌∷◌, Some}
use Rattle.hic_word.specs.declared.Word.{Word}
use Rattle.hic_word.specs.Values.{Value}
use Rattle.hic_word.specs.Entries.{Entry}
use Rattle.hic_word.specs.Stands.{EntryFor, Lookup, WordFor}

-- a word stands for a value or for an entry
abbrev pub IsStanding : ℕ → Lookup → Word → Type 0
IsStanding w m x = ((v : Value) × WordFor w m x v) ⊎ ((e : Entry) × EntryFor w m x e)

-- each word of a list stands for a value or for an entry
abbrev pub StandEach : ℕ → Lookup → List Word → Type 0
StandEach w m [] = Unit {0}
StandEach w m (x ∷ xs) = IsStanding w m x × StandEach w m xs

-- whatever a word stands for in m, it stands for in n
pub record StandsAlike (w : ℕ) (m n : Lookup) (x : Word) : Type 0 where
  pub value : (v : Value) → WordFor w m x v → WordFor w n x v
  pub entry : (e : Entry) → EntryFor w m x e → EntryFor w n x e

-- whatever each word of a list stands for in m, it stands for in n
abbrev pub StandAlike : ℕ → Lookup → Lookup → List Word → Type 0
StandAlike w m n [] = Unit {0}
StandAlike w m n (x ∷ xs) = StandsAlike w m n x × StandAlike w m n xs

-- the lines of m are lines of n under the same ids
abbrev pub IsWithin : Lookup → Lookup → Type 0
IsWithin m n = (id : ℕ) (line : List Word) → m id ≡ Some line → n id ≡ Some line
