-- Parts of an array.
use Rattle.std.specs.Prelude.{ℕ, zero, suc, ◌+◌, ◌-◌, ◌*◌, ◌^◌, Bool, true, false, ◌&&◌, ltb, leb, List, [], ◌∷◌}
use Rattle.hic_word.specs.Values.{Value, Array, at}

-- p in front if b
abbrev pub keep : Bool → ℕ × Value → Array → Array
keep true p A = p ∷ A
keep false p A = A

-- the pairs with offsets from b up to but not including b + s, each lowered by b
abbrev pub slice : ℕ → ℕ → Array → Array
slice b s [] = []
slice b s (p ∷ A) = keep (leb b p.0 && ltb p.0 (b + s)) (p.0 - b, p.1) (slice b s A)

-- n slices of s offsets each, from b on
abbrev pub slices : ℕ → ℕ → ℕ → Array → List Array
slices zero b s A = []
slices (suc n) b s A = slice b s A ∷ slices n (b + s) s A

-- part q of an array of height h: its offsets from q * w^(h-1) up to but not including (q+1) * w^(h-1), each lowered
-- by q * w^(h-1)
abbrev pub part : ℕ → Array → ℕ → ℕ → Array
part w A h q = slice (q * w ^ (h - 1)) (w ^ (h - 1)) A

-- the n values from i on
abbrev pub values : ℕ → ℕ → Array → List Value
values zero i A = []
values (suc n) i A = at A i ∷ values n (suc i) A
