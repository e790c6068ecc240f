-- Line values put behind others, each at its first place.
use Rattle.std.proofs.Common.{◌≡◌, ℕ, suc, ◌≤◌, Bool, true, false, ◌||◌, List, [], ◌∷◌, ◌++◌, length, refl, sym, ◌∙◌, ap, subst, inl, inr, append_assoc, append-nil, arith}
use Rattle.std.proofs.lemmas.Bool.{false_from_ne_true}
use Rattle.std.proofs.lemmas.List.{length-append}
use Rattle.hic_word.specs.Lists.{In}
use Rattle.hic_word.specs.Entries.{LineValue}
use Rattle.hic_word.specs.Lines.{distinct, others, unless}
use Rattle.hic_word.specs.Same.{same}
use Rattle.hic_word.proofs.callers.Forms.{same_refl, same_true}
use Rattle.hic_list.specs.Walks.{added, is_in, put_unless}

-- ---- the test for a member

pub In-is_in : (L : LineValue) (Ks : List LineValue) → is_in L Ks ≡ true → In L Ks
In-is_in L [] h = cc
In-is_in L (K ∷ Ks) h = go (same K L) refl (In-is_in L Ks) h
  where
    go : (t : Bool) → same K L ≡ t → (is_in L Ks ≡ true → In L Ks) → (t || is_in L Ks) ≡ true → In L (K ∷ Ks)
    go true e later h = inl (same_true K L e)
    go false e later h = inr (later h)

pub is_in-In : (L : LineValue) (Ks : List LineValue) → In L Ks → is_in L Ks ≡ true
is_in-In L [] h = absurd h
is_in-In L (K ∷ Ks) (inl e) = let t : same K L ≡ true = subst (λ N. same N L ≡ true) (sym e) (same_refl L) in ap (λ b. b || is_in L Ks) t
is_in-In L (K ∷ Ks) (inr h) = go (same K L) (is_in-In L Ks h)
  where
    go : (t : Bool) → is_in L Ks ≡ true → (t || is_in L Ks) ≡ true
    go true e = refl
    go false e = e

pub is_in-none : (L : LineValue) (Ks : List LineValue) → (In L Ks → ⊥) → is_in L Ks ≡ false
is_in-none L Ks n = false_from_ne_true (is_in L Ks) (λ t. n (In-is_in L Ks t))

-- ---- those that are not there

-- X without the members of Ds
abbrev without : List LineValue → List LineValue → List LineValue
without [] X = X
without (D ∷ Ds) X = without Ds (others D X)

others-hit : (L K : LineValue) (Ks : List LineValue) → same L K ≡ true → others L (K ∷ Ks) ≡ others L Ks
others-hit L K Ks e = ap (λ t. unless t K (others L Ks)) e

others-miss : (L K : LineValue) (Ks : List LineValue) → same L K ≡ false → others L (K ∷ Ks) ≡ K ∷ others L Ks
others-miss L K Ks e = ap (λ t. unless t K (others L Ks)) e

others-twice : (L : LineValue) (X : List LineValue) → others L (others L X) ≡ others L X
others-twice L [] = refl
others-twice L (K ∷ Ks) = go (same L K) refl (others-twice L Ks)
  where
    go : (t : Bool) → same L K ≡ t → others L (others L Ks) ≡ others L Ks → others L (unless t K (others L Ks)) ≡ unless t K (others L Ks)
    go true e later = later
    go false e later = others-miss L K (others L Ks) e ∙ ap (λ Y. K ∷ Y) later

others-turned : (D L : LineValue) (X : List LineValue) → others D (others L X) ≡ others L (others D X)
others-turned D L [] = refl
others-turned D L (K ∷ Ks) = go (same L K) (same D K) refl refl (others-turned D L Ks)
  where
    go : (s t : Bool) → same L K ≡ s → same D K ≡ t → others D (others L Ks) ≡ others L (others D Ks) → others D (unless s K (others L Ks)) ≡ others L (unless t K (others D Ks))
    go true true a b later = later
    go true false a b later = later ∙ sym (others-hit L K (others D Ks) a)
    go false true a b later = others-hit D K (others L Ks) b ∙ later
    go false false a b later = others-miss D K (others L Ks) b ∙ ap (λ Y. K ∷ Y) later ∙ sym (others-miss L K (others D Ks) a)

without-none : (Ds : List LineValue) → without Ds [] ≡ []
without-none [] = refl
without-none (D ∷ Ds) = without-none Ds

without-more : (Ds : List LineValue) (L : LineValue) (X : List LineValue) → without (Ds ++ L ∷ []) X ≡ others L (without Ds X)
without-more [] L X = refl
without-more (D ∷ Ds) L X = without-more Ds L (others D X)

without-others : (Ds : List LineValue) (L : LineValue) (X : List LineValue) → without Ds (others L X) ≡ others L (without Ds X)
without-others [] L X = refl
without-others (D ∷ Ds) L X = ap (without Ds) (others-turned D L X) ∙ without-others Ds L (others D X)

either_false : (a b : Bool) → (a || b) ≡ false → (a ≡ false) × (b ≡ false)
either_false true b h = cc
either_false false b h = (refl, h)

-- one that is not there stays in front
without-new : (Ds : List LineValue) (L : LineValue) (X : List LineValue) → is_in L Ds ≡ false → without Ds (L ∷ X) ≡ L ∷ without Ds X
without-new [] L X h = refl
without-new (D ∷ Ds) L X h =
    let apart = either_false (same D L) (is_in L Ds) h in
    ap (without Ds) (others-miss D L X apart.0) ∙ without-new Ds L (others D X) apart.1

-- one that is there goes
without-known : (Ds : List LineValue) (L : LineValue) (X : List LineValue) → In L Ds → without Ds (L ∷ others L X) ≡ without Ds X
without-known [] L X h = absurd h
without-known (D ∷ Ds) L X h = go (same D L) refl h (without-known Ds L (others D X))
  where
    go : (t : Bool) → same D L ≡ t → In L (D ∷ Ds) → (In L Ds → without Ds (L ∷ others L (others D X)) ≡ without Ds (others D X)) → without Ds (others D (L ∷ others L X)) ≡ without Ds (others D X)
    go true e h later =
        let is : D ≡ L = same_true D L e in
        ap (without Ds) (others-hit D L (others L X) e ∙ ap (λ N. others D (others N X)) (sym is) ∙ others-twice D X)
    go false e (inl is) later = absurd (let t : same D L ≡ true = subst (λ N. same D N ≡ true) is (same_refl D) in let both : true ≡ false = sym t ∙ e in cc)
    go false e (inr h) later = ap (without Ds) (others-miss D L (others L X) e ∙ ap (λ Y. L ∷ Y) (others-turned D L X)) ∙ later h

-- ---- what is added is what is not there, each at its first place

added-is : (Ds Ls : List LineValue) → added Ds Ls ≡ Ds ++ without Ds (distinct Ls)
added-is Ds [] = sym (ap (λ X. Ds ++ X) (without-none Ds) ∙ append-nil Ds)
added-is Ds (L ∷ Ls) = go (is_in L Ds) refl (added-is Ds Ls) (added-is (Ds ++ L ∷ []) Ls)
  where
    go : (t : Bool) → is_in L Ds ≡ t → added Ds Ls ≡ Ds ++ without Ds (distinct Ls) → added (Ds ++ L ∷ []) Ls ≡ (Ds ++ L ∷ []) ++ without (Ds ++ L ∷ []) (distinct Ls) → added (put_unless t Ds L) Ls ≡ Ds ++ without Ds (L ∷ others L (distinct Ls))
    go true e known new = known ∙ ap (λ X. Ds ++ X) (sym (without-known Ds L (distinct Ls) (In-is_in L Ds e)))
    go false e known new =
        new
        ∙ append_assoc Ds (L ∷ []) (without (Ds ++ L ∷ []) (distinct Ls))
        ∙ ap (λ X. Ds ++ L ∷ X) (without-more Ds L (distinct Ls) ∙ sym (without-others Ds L (distinct Ls)))
        ∙ ap (λ X. Ds ++ X) (sym (without-new Ds L (others L (distinct Ls)) e))

pub distinct-added : (Ls : List LineValue) → distinct Ls ≡ added [] Ls
distinct-added Ls = sym (added-is [] Ls)

pub added-append : (Ds Ls Ks : List LineValue) → added Ds (Ls ++ Ks) ≡ added (added Ds Ls) Ks
added-append Ds [] Ks = refl
added-append Ds (L ∷ Ls) Ks = added-append (put_unless (is_in L Ds) Ds L) Ls Ks

pub added-known : (Ds Ls : List LineValue) → ((L : LineValue) → In L Ls → In L Ds) → added Ds Ls ≡ Ds
added-known Ds [] h = refl
added-known Ds (L ∷ Ls) h = ap (λ t. added (put_unless t Ds L) Ls) (is_in-In L Ds (h L (inl refl))) ∙ added-known Ds Ls (λ M k. h M (inr k))

pub added-new : (Ds : List LineValue) (L : LineValue) (Ls : List LineValue) → (In L Ds → ⊥) → added Ds (L ∷ Ls) ≡ added (Ds ++ L ∷ []) Ls
added-new Ds L Ls n = ap (λ t. added (put_unless t Ds L) Ls) (is_in-none L Ds n)

put_unless-length : (t : Bool) (Ds : List LineValue) (L : LineValue) → length Ds ≤ length (put_unless t Ds L)
put_unless-length true Ds L = omega arith
put_unless-length false Ds L = omega (arith, length-append Ds (L ∷ []))

pub added-length : (Ds Ls : List LineValue) → length Ds ≤ length (added Ds Ls)
added-length Ds [] = omega arith
added-length Ds (L ∷ Ls) = let a = put_unless-length (is_in L Ds) Ds L in let b = added-length (put_unless (is_in L Ds) Ds L) Ls in omega (arith, a, b)
