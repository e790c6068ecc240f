-- The canonical form of an array: the entry of a part, and the root of the whole.
use Rattle.std.specs.Prelude.{◌≡◌, ℕ, zero, suc, ◌^◌, ◌≤◌, Bool, true, false, ltb, List, [], ◌∷◌, map, Option, Some, None}
use Rattle.hic_word.specs.Width.{pack_limit, greatest}
use Rattle.hic_word.specs.Heights.{height}
use Rattle.hic_word.specs.Values.{Value, Number, Ref, Array, IsArray, IsBelow}
use Rattle.hic_word.specs.Entries.{Entry, Zero, Pack, Named, LineValue, Leaf, Inner, inner}
use Rattle.hic_word.specs.Parts.{slices, values}

-- n before the numbers that follow, if it is small
abbrev pub small_more : Bool → ℕ → Option (List ℕ) → Option (List ℕ)
small_more true n (Some ns) = Some (n ∷ ns)
small_more true n None = None
small_more false n o = None

-- the numbers of values that are all numbers below l
abbrev pub small : ℕ → List Value → Option (List ℕ)
small l [] = Some []
small l (Ref H ∷ vs) = None
small l (Number n ∷ vs) = small_more (ltb n l) n (small l vs)

-- the entry of a part of values that are not all 0: packed if they are small, else a leaf
abbrev pub lowest : Option (List ℕ) → List Value → Entry
lowest (Some ns) vs = Pack ns
lowest None vs = Named (Leaf vs) []

abbrev pub all_zero : List Entry → Bool
all_zero [] = true
all_zero (Zero ∷ es) = all_zero es
all_zero (_ ∷ es) = false

-- which entries are not `Zero`: none, one alone at a place, or several
pub data Sole : Type 0 where
  AllZero : Sole
  Alone : ℕ → Entry → Sole
  Several : Sole

abbrev pub next : Sole → Sole
next AllZero = AllZero
next (Alone q e) = Alone (suc q) e
next Several = Several

abbrev pub alone : Bool → Entry → Sole
alone true e = Alone 0 e
alone false e = Several

abbrev pub sole : List Entry → Sole
sole [] = AllZero
sole (Zero ∷ es) = next (sole es)
sole (Pack ns ∷ es) = alone (all_zero es) (Pack ns)
sole (Named L p ∷ es) = alone (all_zero es) (Named L p)

-- the entry of a part whose parts have these entries: where one alone is not `Zero` and names a line, its number is
-- put before the path; else an inner line is made
abbrev pub joined : Sole → List Entry → Entry
joined (Alone q (Named L p)) es = Named L (q ∷ p)
joined (Alone q Zero) es = Named (Inner (inner es)) []
joined (Alone q (Pack ns)) es = Named (Inner (inner es)) []
joined AllZero es = Named (Inner (inner es)) []
joined Several es = Named (Inner (inner es)) []

-- the entry of a part k levels above the lowest, lines having w words
abbrev pub above : ℕ → ℕ → Array → Entry
above w zero [] = Zero
above w zero (p ∷ A) = lowest (small (pack_limit w) (values w 0 (p ∷ A))) (values w 0 (p ∷ A))
above w (suc k) [] = Zero
above w (suc k) (p ∷ A) = let es = map (above w k) (slices w 0 (w ^ suc k) (p ∷ A)) in joined (sole es) es

-- the entry of a part of height h
abbrev pub enc : ℕ → ℕ → Array → Entry
enc w zero A = Zero
enc w (suc k) A = above w k A

-- where `enc` is defined
pub record IsPart (w h : ℕ) (A : Array) : Type 0 where
  pub positive : 1 ≤ h
  pub low : h ≤ greatest w
  pub valid : IsArray A
  pub below : IsBelow (w ^ h) A

-- `enc` makes the line value of some part
pub record IsMade (w : ℕ) (L : LineValue) : Type 0 where
  pub height : ℕ
  pub array : Array
  pub path : List ℕ
  pub is_part : IsPart w height array
  pub made : enc w height array ≡ Named L path

-- the entry of an array at its height
abbrev pub root_entry : ℕ → Array → Entry
root_entry w A = enc w (height w A) A

-- the height of an array, and its entry
abbrev pub root : ℕ → Array → ℕ × Entry
root w A = (height w A, root_entry w A)
