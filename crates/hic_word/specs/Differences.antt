-- Where two arrays differ.
use Rattle.std.specs.Prelude.{ℕ, suc, ◌≤◌, Bool, true, false, eqb, ltb, List, [], ◌∷◌, map}
use Rattle.hic_word.specs.Values.{Value, Array, at}
use Rattle.hic_word.specs.Same.{same_value}

-- o in front, unless b
abbrev pub skip_if : Bool → ℕ → List ℕ → List ℕ
skip_if true o os = os
skip_if false o os = o ∷ os

-- an offset at its place among ascending ones, each once
abbrev pub placed_at : Bool → Bool → ℕ → ℕ → List ℕ → List ℕ → List ℕ
placed_at true _ x y ys rest = x ∷ y ∷ ys
placed_at false true x y ys rest = y ∷ ys
placed_at false false x y ys rest = y ∷ rest

abbrev pub insert : ℕ → List ℕ → List ℕ
insert x [] = x ∷ []
insert x (y ∷ ys) = placed_at (ltb x y) (eqb x y) x y ys (insert x ys)

-- the offsets of an array, put among others
abbrev pub offsets : Array → List ℕ → List ℕ
offsets [] os = os
offsets (p ∷ A) os = insert p.0 (offsets A os)

-- those of some offsets at which two arrays have different values
abbrev pub differ_at : Array → Array → List ℕ → List ℕ
differ_at A B [] = []
differ_at A B (o ∷ os) = skip_if (same_value (at A o) (at B o)) o (differ_at A B os)

-- the offsets, ascending, at which two arrays have different values
abbrev pub differ : Array → Array → List ℕ
differ A B = differ_at A B (offsets A (offsets B []))

-- the offsets strictly ascend, from b on
abbrev pub Ascend : ℕ → List ℕ → Type 0
Ascend b [] = Unit {0}
Ascend b (o ∷ os) = (b ≤ o) × Ascend (suc o) os

-- the values of A at offsets, as changes
abbrev pub changes_at : Array → List ℕ → List (ℕ × Value)
changes_at A os = map (λ o. (o, at A o)) os
