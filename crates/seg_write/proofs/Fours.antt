-- Lists of four.
use Rattle.std.proofs.Common.{◌≡◌, List, [], ◌∷◌, length, get_or, refl, arith}

pub four : {X : Type 0} (xs : List X) (d : X) → length xs ≡ 4 → get_or xs 0 d ∷ get_or xs 1 d ∷ get_or xs 2 d ∷ get_or xs 3 d ∷ [] ≡ xs
four [] d h = absurd (omega arith)
four (x ∷ []) d h = absurd (omega arith)
four (x ∷ y ∷ []) d h = absurd (omega arith)
four (x ∷ y ∷ z ∷ []) d h = absurd (omega arith)
four (x ∷ y ∷ z ∷ w ∷ []) d h = refl
four (x ∷ y ∷ z ∷ w ∷ v ∷ vs) d h = absurd (omega arith)
