-- The height of an array: how many levels of parts its canonical form has.
use Rattle.std.specs.Prelude.{ℕ, zero, suc, ◌^◌, true, false, ltb, [], ◌∷◌, max}
use Rattle.hic_word.specs.Values.{Array}

-- the least of the next f numbers from h on, with o below w ^ it
unfoldable pub height_from : ℕ → ℕ → ℕ → ℕ → ℕ
height_from w zero h o = h
height_from w (suc f) h o = elim (ltb o (w ^ h)) [ true ↦ h | false ↦ height_from w f (suc h) o ]

abbrev pub largest : Array → ℕ
largest [] = 0
largest (p ∷ A) = max p.0 (largest A)

-- the least height, at least 1, that has room for each offset; 0 for the empty array
unfoldable pub height : ℕ → Array → ℕ
unfolding height_from
height w [] = 0
height w (p ∷ A) = height_from w 32 1 (largest (p ∷ A))
