-- What words and lines stand for in a memory, whose lines have its width.
use Rattle.std.specs.Prelude.{◌≡◌, ℕ, List, [], ◌∷◌}
use Rattle.hic_word.specs.declared.Word.{Word}
use Rattle.hic_word.specs.Values.{Array, IsArray, Ref, Value, pairs}
use Rattle.hic_word.specs.Changes.{AreChanges}
use Rattle.hic_word.specs.Entries.{Entry, LineValue}
use Rattle.hic_word.specs.Canon.{IsMade}
use Rattle.hic_word.specs.Memory.{Memory, line_at, width}
use Rattle.hic_word.specs.Stands.{EntryFor, LineFor, Lookup, WordFor}

-- the word stands for the value
abbrev pub WordIn : Memory → Word → Value → Type 0
WordIn m word value = WordFor (width m) (line_at m) word value

-- the word stands for the entry
abbrev pub EntryIn : Memory → Word → Entry → Type 0
EntryIn m word entry = EntryFor (width m) (line_at m) word entry

-- the line stands for a line value of the canonical form
abbrev pub LineIn : Memory → List Word → LineValue → Type 0
LineIn m line value = LineFor (width m) (line_at m) line value × IsMade (width m) value

-- a root stands for a valid array
pub record RootIn (m : Memory) (root : Word) (A : Array) : Type 0 where
  pub valid : IsArray A
  pub word : WordIn m root (Ref (pairs A))

-- offsets with words stand for the same offsets with values
abbrev pub ChangesFor : ℕ → Lookup → List (ℕ × Word) → Array → Type 0
ChangesFor w m [] [] = Unit {0}
ChangesFor w m [] (p ∷ L) = ⊥
ChangesFor w m (c ∷ cs) [] = ⊥
ChangesFor w m (c ∷ cs) (p ∷ L) = (c.0 ≡ p.0) × WordFor w m c.1 p.1 × ChangesFor w m cs L

-- a root stands for an array, and changes for pairs with ascending offsets
pub record CanApply (m : Memory) (root : Word) (changes : List (ℕ × Word)) (A L : Array) : Type 0 where
  pub root_for : RootIn m root A
  pub changes_for : ChangesFor (width m) (line_at m) changes L
  pub ascend : AreChanges 0 L
