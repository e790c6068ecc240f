-- A part that has all words of a greater one, or all changes that fall into it.
use Rattle.std.specs.Prelude.{◌≡◌, ℕ, zero, suc, ◌+◌, ◌-◌, ◌*◌, ◌/◌, ◌%◌, ◌^◌, ◌<◌, List, [], ◌∷◌, set}
use Rattle.hic_word.specs.declared.Word.{Word}
use Rattle.hic_word.specs.Values.{Array}
use Rattle.hic_word.specs.Changes.{AreChanges}
use Rattle.hic_word.specs.Entries.{Entry, Inner, Named, Pack, Zero, inner}
use Rattle.hic_word.specs.Parts.{slice}
use Rattle.hic_word.specs.Canon.{IsPart}
use Rattle.hic_word.specs.InMemory.{ChangesFor}
use Rattle.hic_word.specs.Stands.{Lookup}
use Rattle.seg_canon.specs.declared.parts.Part.{Part}
use Rattle.seg_canon.specs.Parts.{PartFor}
use Rattle.seg_write.specs.declared.changes.Numbered.{Numbered}
use Rattle.seg_write.specs.Puts.{FallInto}

-- all changes fall into the part of this number, of those of its height beside one another from offset b on
abbrev pub TakesAll : Numbered → ℕ → List (ℕ × Word) → Type 0
TakesAll p b cs = (m : Lookup) (c : ℕ) (L : Array) → ChangesFor 4 m cs L → AreChanges c L → FallInto m p.height (b + p.number * 4 ^ p.height) 1 cs L

-- an array cut into parts of height k: part n
abbrev pub piece : ℕ → Array → ℕ → Array
piece k A n = slice (n * 4 ^ k) (4 ^ k) A

-- an array of height h has no words before its part n of height k, and none past it
pub record LiesIn (k n h : ℕ) (A : Array) : Type 0 where
  pub is_part : IsPart 4 h A
  pub inside : n < 4 ^ (h - k)
  pub before : slice 0 (n * 4 ^ k) A ≡ []
  pub past : slice (n * 4 ^ k + 4 ^ k) (4 ^ h - (n * 4 ^ k + 4 ^ k)) A ≡ []

-- the array lies in its part n of a part's lower height, which the part's entry is of
pub record CanLift (m : Lookup) (p : Part) (n : ℕ) (A : Array) : Type 0 where
  pub part : PartFor 4 m p (piece p.at A n)
  pub lies : LiesIn p.at n p.top A

-- the entry of a part of which quarter q alone may have words, by that quarter's entry: a line's path has one number more,
-- packed numbers have a line
abbrev pub led : ℕ → Entry → Entry
led q Zero = Zero
led q (Pack ns) = Named (Inner (inner (set (Zero ∷ Zero ∷ Zero ∷ Zero ∷ []) q (Pack ns)))) []
led q (Named L p) = Named L (q ∷ p)

-- the entry so many levels higher, by that of the part of this number, which alone may have words
abbrev pub lifted : ℕ → ℕ → Entry → Entry
lifted zero n e = e
lifted (suc levels) n e = lifted levels (n / 4) (led (n % 4) e)
