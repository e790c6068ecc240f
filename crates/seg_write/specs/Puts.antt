-- Changes, and what they make of arrays that lie beside one another.
use Rattle.std.specs.Prelude.{ℕ, ◌+◌, ◌*◌, ◌^◌, ◌≤◌, List, [], ◌∷◌, map, length}
use Rattle.std.specs.List.{range_with_len}
use Rattle.hic_word.specs.declared.Word.{Word}
use Rattle.hic_word.specs.Values.{Array, IsBelow}
use Rattle.hic_word.specs.Changes.{AreChanges, with}
use Rattle.hic_word.specs.Parts.{part, slice, values}
use Rattle.hic_word.specs.Canon.{IsPart, enc}
use Rattle.hic_word.specs.InMemory.{ChangesFor}
use Rattle.hic_word.specs.Stands.{Lookup, WordsFor}
use Rattle.seg_canon.specs.declared.parts.Part.{Part}
use Rattle.seg_canon.specs.Parts.{PartFor, whole_part}
use Rattle.seg_read.specs.Levels.{levels}

-- an array of height k that begins at offset b, with those of the changes that fall into it
abbrev pub put_at : ℕ → ℕ → Array → Array → Array
put_at k b A L = with A (slice b (4 ^ k) L)

-- arrays of height k, beside one another from offset b on, each with the changes that fall into it
abbrev pub put_each : ℕ → ℕ → List Array → Array → List Array
put_each k b [] L = []
put_each k b (A ∷ As) L = put_at k b A L ∷ put_each k (b + 4 ^ k) As L

-- the quarters of an array of a height
abbrev pub quarters_of : ℕ → Array → List Array
quarters_of h A = map (part 4 A h) (range_with_len 0 4)

-- changes, all of which fall into n arrays of height k that lie beside one another from offset b on
pub record FallInto (m : Lookup) (k b n : ℕ) (cs : List (ℕ × Word)) (L : Array) : Type 0 where
  pub changes : ChangesFor 4 m cs L
  pub ascend : AreChanges b L
  pub below : IsBelow (b + n * 4 ^ k) L

-- an entry of a height, and changes that fall into its part, which begins at offset b
pub record CanPut (m : Lookup) (h : ℕ) (x : Word) (b : ℕ) (cs : List (ℕ × Word)) (A L : Array) : Type 0 where
  pub part : PartFor 4 m (whole_part h x) A
  pub changes : FallInto m h b 1 cs L

-- the words of a lowest part, and changes that fall into it, which begins at offset b
pub record CanPutWords (m : Lookup) (words : List Word) (b : ℕ) (cs : List (ℕ × Word)) (A L : Array) : Type 0 where
  pub is_part : IsPart 4 1 A
  pub words_for : WordsFor 4 m words (values 4 0 A)
  pub changes : FallInto m 1 b 1 cs L

-- the entries of arrays at a height
abbrev pub AreEntries : Lookup → ℕ → List Word → List Array → Type 0
AreEntries m h [] [] = Unit {0}
AreEntries m h [] (A ∷ As) = ⊥
AreEntries m h (x ∷ xs) [] = ⊥
AreEntries m h (x ∷ xs) (A ∷ As) = PartFor 4 m (whole_part h x) A × AreEntries m h xs As

-- entries of parts beside one another, and changes that fall into them, of which the first begins at offset b
pub record CanPutEach (m : Lookup) (h : ℕ) (xs : List Word) (b : ℕ) (cs : List (ℕ × Word)) (As : List Array) (L : Array) : Type 0 where
  pub entries : AreEntries m h xs As
  pub changes : FallInto m h b (length As) cs L

-- a part whose words may lie below its height, and changes that fall into it, which begins at offset 0
pub record CanGrow (m : Lookup) (p : Part) (cs : List (ℕ × Word)) (A L : Array) : Type 0 where
  pub part : PartFor 4 m p A
  pub changes : FallInto m p.top 0 1 cs L

-- no way down from the entry of an array at height h reads more than n lines
abbrev pub HaveLevels : ℕ → ℕ → List Array → Type 0
HaveLevels n h [] = Unit {0}
HaveLevels n h (A ∷ As) = (levels (enc 4 h A) ≤ n) × HaveLevels n h As

-- there are changes, and this is so of the last of them
abbrev pub IsLast : List (ℕ × Word) → ((ℕ × Word) → Type 0) → Type 0
IsLast [] P = ⊥
IsLast (c ∷ []) P = P c
IsLast (c ∷ d ∷ cs) P = IsLast (d ∷ cs) P
