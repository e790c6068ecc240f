-- Changed arrays.
use Rattle.std.specs.Prelude.{◌≡◌, ℕ, suc, ◌^◌, ◌<◌, ◌≤◌, Bool, true, false, cond, eqb, ltb, List, [], ◌∷◌}
use Rattle.hic_word.specs.Values.{Value, Array, at, is_zero, IsValue}

-- p in front, unless its value is 0
abbrev pub put_if : Bool → ℕ × Value → Array → Array
put_if true p A = A
put_if false p A = p ∷ A

abbrev pub put : ℕ × Value → Array → Array
put p A = put_if (is_zero p.1) p A

-- what a change makes of an array whose first pair is p: p stays in front of the changed rest, or is replaced, or follows
abbrev pub placed : Bool → Bool → ℕ × Value → ℕ × Value → Array → Array → Array
placed true _ c p A rest = p ∷ rest
placed false true c p A rest = put c A
placed false false c p A rest = put c (p ∷ A)

-- A with one value changed; a value 0 leaves no pair
abbrev pub with_change : ℕ × Value → Array → Array
with_change c [] = put c []
with_change c (p ∷ A) = placed (ltb p.0 c.0) (eqb p.0 c.0) c p A (with_change c A)

-- A with the values of changes
abbrev pub with : Array → List (ℕ × Value) → Array
with A [] = A
with A (c ∷ cs) = with_change c (with A cs)

-- the value that changes tell for an offset, or v
abbrev pub value_after : List (ℕ × Value) → ℕ → Value → Value
value_after [] i v = v
value_after (c ∷ cs) i v = cond (eqb c.0 i) c.1 (value_after cs i v)

-- changes: strictly ascending offsets below 2^32, from b on, with valid values
abbrev pub AreChanges : ℕ → List (ℕ × Value) → Type 0
AreChanges b [] = Unit {0}
AreChanges b (c ∷ cs) = (b ≤ c.0) × (c.0 < 2 ^ 32) × IsValue c.1 × AreChanges (suc c.0) cs

-- each change tells the value that A has there
abbrev pub ChangeNothing : Array → List (ℕ × Value) → Type 0
ChangeNothing A [] = Unit {0}
ChangeNothing A (c ∷ cs) = (c.1 ≡ at A c.0) × ChangeNothing A cs
