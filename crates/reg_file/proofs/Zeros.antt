-- Registers that are set to 0 one after another.
use Rattle.std.proofs.Common.{◌≡◌, ℕ, zero, suc, ◌+◌, ◌<◌, List, [], ◌∷◌, ◌++◌, length, set, take, replicate, refl, sym, ◌∙◌, ap, arith, add-one, length-set}
use Rattle.std.proofs.Math.Seq.{take-suc-set}
use Rattle.std.proofs.lemmas.List.{take_all}

replicate-snoc : {X : Type 0} (n : ℕ) (z : X) → replicate n z ++ z ∷ [] ≡ z ∷ replicate n z
replicate-snoc zero z = refl
replicate-snoc (suc n) z = ap (λ xs. z ∷ xs) (replicate-snoc n z)

-- one more is 0
pub zeros_next : {X : Type 0} (ws new : List X) (r : ℕ) (z w : X) → r < length ws → take r ws ≡ replicate r z → w ≡ z → new ≡ set ws r w → take (r + 1) new ≡ replicate (r + 1) z
zeros_next ws new r z w h e f g =
    ap (λ k. take k new) (add-one r) ∙ ap (λ xs. take (suc r) xs) g ∙ take-suc-set ws r w h
    ∙ ap (λ xs. xs ++ w ∷ []) e ∙ ap (λ x. replicate r z ++ x ∷ []) f ∙ replicate-snoc r z ∙ ap (λ k. replicate k z) (sym (add-one r))

-- as many as there are after one is set
pub size_before : {X : Type 0} (ws new : List X) (r n : ℕ) (w : X) → new ≡ set ws r w → length new ≡ n → length ws ≡ n
size_before ws new r n w e h = sym (length-set ws r w) ∙ sym (ap length e) ∙ h

pub zeros_all : {X : Type 0} (ws : List X) (r n : ℕ) (z : X) → r ≡ n → length ws ≡ n → take r ws ≡ replicate r z → ws ≡ replicate n z
zeros_all ws r n z e h f = sym (take_all r ws (omega (arith, h, e))) ∙ f ∙ ap (λ k. replicate k z) e
