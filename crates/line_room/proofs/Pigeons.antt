-- A list of different line values is no longer than a list that has them all.
use Rattle.std.proofs.Common.{◌≡◌, suc, ◌≤◌, List, [], ◌∷◌, length, refl, sym, ◌∙◌, ap, subst, inl, inr, arith}
use Rattle.hic_word.specs.Lists.{In}
use Rattle.hic_word.specs.Entries.{LineValue}
use Rattle.line_room.specs.Room.{AreDistinct}

-- a list without one of its members: it is shorter by one, and has the others
removed : (L : LineValue) (Ks : List LineValue) → In L Ks → (Ms : List LineValue) × (length Ks ≡ suc (length Ms)) × ((M : LineValue) → (L ≡ M → ⊥) → In M Ks → In M Ms)
removed L [] h = absurd h
removed L (K ∷ Ks) (inl e) = (Ks, refl, λ M n k. elim k [ inl f ↦ absurd (n (sym e ∙ f)) | inr i ↦ i ])
removed L (K ∷ Ks) (inr h) =
    let (Ms, size, rest) = removed L Ks h in
    (K ∷ Ms, ap suc size, λ M n k. elim k [ inl f ↦ inl f | inr i ↦ inr (rest M n i) ])

pub distinct-length : (Ls Ks : List LineValue) → AreDistinct Ls → ((M : LineValue) → In M Ls → In M Ks) → length Ls ≤ length Ks
distinct-length [] Ks d has = omega arith
distinct-length (L ∷ Ls) Ks d has =
    let (Ms, size, rest) = removed L Ks (has L (inl refl)) in
    let shorter : length Ls ≤ length Ms = distinct-length Ls Ms d.1 (λ M i. rest M (λ e. d.0 (subst (λ N. In N Ls) (sym e) i)) (has M (inr i))) in
    omega (arith, size, shorter)
