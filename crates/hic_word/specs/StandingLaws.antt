-- Laws on what words and lines stand for.
use Rattle.std.specs.Prelude.{◌≡◌, ◌↔◌, ℕ, Bool, true, List, Some}
use Rattle.hic_word.specs.declared.Word.{Word}
use Rattle.hic_word.specs.Width.{IsWidth}
use Rattle.hic_word.specs.Values.{Array, IsValue, Value}
use Rattle.hic_word.specs.Entries.{Entries, Entry, Inner, Leaf, LineValue}
use Rattle.hic_word.specs.Canon.{IsMade, IsPart, enc}
use Rattle.hic_word.specs.Names.{Names, named_id}
use Rattle.hic_word.specs.Stands.{EntryFor, IdFor, LineFor, Lookup, Unique, WordFor}
use Rattle.hic_word.specs.Standing.{IsWithin, StandsAlike}

-- no line stands for a leaf and for an inner line value
abbrev pub NoLineIsBoth : Type 0
NoLineIsBoth = (w : ℕ) (m : Lookup) (line : List Word) (vs : List Value) (es : Entries) → IsWidth w → IsMade w (Leaf vs)
    → LineFor w m line (Leaf vs) → LineFor w m line (Inner es) → ⊥

-- a line stands for at most one line value that `enc` makes
abbrev pub LinesTellValues : Type 0
LinesTellValues = (w : ℕ) (m : Lookup) (line : List Word) (L K : LineValue) → IsWidth w → IsMade w L → IsMade w K
    → LineFor w m line L → LineFor w m line K → L ≡ K

-- among lines that differ, words that stand for values are the same exactly where the values are
abbrev pub WordsTellValues : Type 0
WordsTellValues = (w : ℕ) (m : Lookup) (x y : Word) (v u : Value) → IsWidth w → Unique m → IsValue v → IsValue u
    → WordFor w m x v → WordFor w m y u → (x ≡ y) ↔ (v ≡ u)

-- among lines that differ, words that stand for the entries of parts of one height are the same exactly where the parts are
abbrev pub EntriesTellParts : Type 0
EntriesTellParts = (w h : ℕ) (m : Lookup) (x y : Word) (A B : Array) → IsWidth w → Unique m → IsPart w h A → IsPart w h B
    → EntryFor w m x (enc w h A) → EntryFor w m y (enc w h B) → (x ≡ y) ↔ (A ≡ B)

-- what stands on the kept ids in m stands on them in n
pub record Keeps (m n : Lookup) (kept : ℕ → Bool) : Type 0 where
  pub line : (id : ℕ) (line : List Word) → kept id ≡ true → m id ≡ Some line → n id ≡ Some line
  pub closed : (id j : ℕ) (line : List Word) → kept id ≡ true → m id ≡ Some line → Names j line → kept j ≡ true

pub record StandingKept (w : ℕ) (m n : Lookup) (kept : ℕ → Bool) : Type 0 where
  pub id_for : (id : ℕ) (L : LineValue) → kept id ≡ true → IdFor w m id L → IdFor w n id L
  pub word_for : (x : Word) (v : Value) → ((j : ℕ) → named_id x ≡ Some j → kept j ≡ true) → WordFor w m x v → WordFor w n x v
  pub entry_for : (x : Word) (e : Entry) → ((j : ℕ) → named_id x ≡ Some j → kept j ≡ true) → EntryFor w m x e → EntryFor w n x e

-- what stands for a value stands for it in any map that keeps the lines that are reached from it
abbrev pub StandingIsKept : Type 0
StandingIsKept = (w : ℕ) (m n : Lookup) (kept : ℕ → Bool) → Keeps m n kept → StandingKept w m n kept

-- what stands, stands in any map that has the lines and more
abbrev pub StandingGrows : Type 0
StandingGrows = (w : ℕ) (m n : Lookup) (x : Word) → IsWithin m n → StandsAlike w m n x
