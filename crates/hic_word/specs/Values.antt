-- Values: numbers, and references to arrays of values.
use Rattle.std.specs.Prelude.{◌≡◌, ℕ, suc, ◌^◌, ◌<◌, ◌≤◌, Bool, false, cond, eqb, List, [], ◌∷◌, max, refl}

mutual
  -- a number, or a reference to an array
  pub data Value : Type 0 where
    Number : ℕ → Value
    Ref : Pairs → Value

  -- the pairs of a referenced array, a copy of `List (ℕ × Value)`
  pub data Pairs : Type 0 where
    NoPair : Pairs
    Pair : ℕ → Value → Pairs → Pairs

-- pairs of an offset and a value
abbrev pub Array : Type 0
Array = List (ℕ × Value)

-- the array of the pairs in a reference
abbrev pub array : Pairs → Array
array NoPair = []
array (Pair o v ps) = (o, v) ∷ array ps

-- the pairs of an array: `Ref (pairs A)` is a reference to A
abbrev pub pairs : Array → Pairs
pairs [] = NoPair
pairs (p ∷ A) = Pair p.0 p.1 (pairs A)

pub array-pairs : (A : Array) → array (pairs A) ≡ A
array-pairs [] = refl
array-pairs (p ∷ A) = λ i. p ∷ array-pairs A i

pub pairs-array : (H : Pairs) → pairs (array H) ≡ H
pairs-array NoPair = refl
pairs-array (Pair o v H) = λ i. Pair o v (pairs-array H i)

-- the number 0
abbrev pub is_zero : Value → Bool
is_zero (Number n) = eqb n 0
is_zero (Ref H) = false

-- the value at an offset
abbrev pub at : Array → ℕ → Value
at [] i = Number 0
at (p ∷ A) i = cond (eqb p.0 i) p.1 (at A i)

-- a valid value, and the valid pairs of a reference, whose offsets strictly ascend from b on
unfoldable mutual
  pub IsValue : Value → Type 0
  IsValue (Number n) = n < 2 ^ 64
  IsValue (Ref H) = ArePairs 0 H

  pub ArePairs : ℕ → Pairs → Type 0
  ArePairs b NoPair = Unit {0}
  ArePairs b (Pair o v H) = (b ≤ o) × (o < 2 ^ 32) × (is_zero v ≡ false) × IsValue v × ArePairs (suc o) H

-- a valid array: strictly ascending offsets below 2^32, valid values, no number 0
abbrev pub IsArray : Array → Type 0
IsArray A = ArePairs 0 (pairs A)

-- each value of a list is valid
abbrev pub AreValues : List Value → Type 0
AreValues [] = Unit {0}
AreValues (v ∷ vs) = IsValue v × AreValues vs

-- the offsets strictly ascend, from b on
abbrev pub RisesFrom : ℕ → Array → Type 0
RisesFrom b [] = Unit {0}
RisesFrom b (p ∷ A) = (b ≤ p.0) × RisesFrom (suc p.0) A

-- each offset is below n
abbrev pub IsBelow : ℕ → Array → Type 0
IsBelow n [] = Unit {0}
IsBelow n (p ∷ A) = (p.0 < n) × IsBelow n A

-- no value is the number 0
abbrev pub HasNoZero : Array → Type 0
HasNoZero [] = Unit {0}
HasNoZero (p ∷ A) = (is_zero p.1 ≡ false) × HasNoZero A

-- each value of an array is valid
abbrev pub HasValues : Array → Type 0
HasValues [] = Unit {0}
HasValues (p ∷ A) = IsValue p.1 × HasValues A

-- how deep references lie within one another
unfoldable mutual
  pub depth_of : Value → ℕ
  depth_of (Number n) = 0
  depth_of (Ref H) = suc (depth H)

  pub depth : Pairs → ℕ
  depth NoPair = 0
  depth (Pair o v H) = max (depth_of v) (depth H)

-- the arrays that values reference, in order
abbrev pub arrays_of : List Value → List Array
arrays_of [] = []
arrays_of (Number n ∷ vs) = arrays_of vs
arrays_of (Ref H ∷ vs) = array H ∷ arrays_of vs
