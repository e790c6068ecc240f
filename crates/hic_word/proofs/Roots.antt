-- Arrays with one root are equal.
use Rattle.std.proofs.Common.{◌≡◌, ℕ, ◌≤◌, [], ◌∷◌, refl, sym, ◌∙◌, ap, subst, arith}
use Rattle.hic_word.specs.Values.{Array}
use Rattle.hic_word.specs.Heights.{height}
use Rattle.hic_word.specs.Canon.{enc, root}
use Rattle.hic_word.proofs.Decode.{IsPlain, enc-injective}
use Rattle.hic_word.proofs.Heights.{IsSorted, height_positive, plain}

pub root-injective : (w : ℕ) (A B : Array) → 2 ≤ w → IsSorted A → IsSorted B → root w A ≡ root w B → A ≡ B
unfolding height
root-injective w [] [] two a b e = refl
root-injective w [] (p ∷ B) two a b e = let h : 0 ≡ height w (p ∷ B) = ap (λ r. r.0) e in let h' = height_positive w p B in absurd (omega arith)
root-injective w (p ∷ A) [] two a b e = let h : height w (p ∷ A) ≡ 0 = ap (λ r. r.0) e in let h' = height_positive w p A in absurd (omega arith)
root-injective w (p ∷ A) (q ∷ B) two a b e =
    let h : height w (p ∷ A) ≡ height w (q ∷ B) = ap (λ r. r.0) e in
    let same : enc w (height w (p ∷ A)) (p ∷ A) ≡ enc w (height w (p ∷ A)) (q ∷ B) = ap (λ r. r.1) e ∙ ap (λ m. enc w m (q ∷ B)) (sym h) in
    enc-injective w (height w (p ∷ A)) (p ∷ A) (q ∷ B) (height_positive w p A) (plain w (p ∷ A) two a) (subst (λ m. IsPlain w m (q ∷ B)) (sym h) (plain w (q ∷ B) two b)) same
