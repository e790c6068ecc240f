-- The numbers of ids, kept by id: where there is more room, and where one id more has a number.
use Rattle.std.proofs.Common.{◌≡◌, ℕ, zero, suc, ◌<◌, ◌==◌, Bool, true, false, cond, eqb, List, [], ◌∷◌, ◌++◌, length, replicate, set, Option, Some, None, refl, sym, ◌∙◌, ap, subst, arith}
use Rattle.std.specs.Prelude.{slice_get}
use Rattle.std.proofs.lemmas.Bool.{eq-eqb, eqb-true, ne_eqb}
use Rattle.hic_list.specs.Numbering.{AreNumbers, told}
use Rattle.hic_list.specs.Words.{number_of, one_more}

pub none_numbered : AreNumbers [] []
none_numbered id = refl

-- ---- more room

told-room : (n id : ℕ) → told (slice_get (replicate n 0) id) ≡ None
told-room zero id = refl
told-room (suc n) zero = refl
told-room (suc n) (suc id) = told-room n id

told-more : (xs : List ℕ) (n id : ℕ) → told (slice_get (xs ++ replicate n 0) id) ≡ told (slice_get xs id)
told-more [] n id = told-room n id
told-more (x ∷ xs) n zero = refl
told-more (x ∷ xs) n (suc id) = told-more xs n id

pub room_numbered : (xs ids : List ℕ) (n : ℕ) → AreNumbers xs ids → AreNumbers (xs ++ replicate n 0) ids
room_numbered xs ids n are id = told-more xs n id ∙ are id

-- ---- one number more

same_place : {X : Type 0} (xs : List X) (i : ℕ) (x : X) → i < length xs → slice_get (set xs i x) i ≡ Some x
same_place [] i x low = absurd (omega (arith, low))
same_place (y ∷ xs) zero x low = refl
same_place (y ∷ xs) (suc i) x low = same_place xs i x (omega (arith, low))

other_place : {X : Type 0} (xs : List X) (i j : ℕ) (x : X) → (i ≡ j → ⊥) → slice_get (set xs i x) j ≡ slice_get xs j
other_place [] i j x n = refl
other_place (y ∷ xs) zero zero x n = absurd (n refl)
other_place (y ∷ xs) zero (suc j) x n = refl
other_place (y ∷ xs) (suc i) zero x n = refl
other_place (y ∷ xs) (suc i) (suc j) x n = other_place xs i j x (λ e. n (ap suc e))

last_step : (t : Bool) (o p : Option ℕ) (n : ℕ) → cond t (Some 0) (one_more o) ≡ None → (o ≡ None → p ≡ Some n) → cond t (Some 0) (one_more p) ≡ Some (suc n)
last_step true o p n e h = cc
last_step false None p n e h = ap one_more (h refl)
last_step false (Some k) p n e h = cc

number_last : (ids : List ℕ) (id : ℕ) → number_of ids id ≡ None → number_of (ids ++ id ∷ []) id ≡ Some (length ids)
number_last [] id e = ap (λ t. cond t (Some 0) None) (eq-eqb id id refl)
number_last (x ∷ ids) id e = last_step (x == id) (number_of ids id) (number_of (ids ++ id ∷ []) id) (length ids) e (number_last ids id)

number_other : (ids : List ℕ) (last id : ℕ) → (last ≡ id → ⊥) → number_of (ids ++ last ∷ []) id ≡ number_of ids id
number_other [] last id n = ap (λ t. cond t (Some 0) None) (ne_eqb last id n)
number_other (x ∷ ids) last id n = ap (λ o. cond (x == id) (Some 0) (one_more o)) (number_other ids last id n)

pub one_numbered : (xs ids : List ℕ) (new : ℕ) → AreNumbers xs ids → number_of ids new ≡ None → new < length xs → AreNumbers (set xs new (suc (length ids))) (ids ++ new ∷ [])
one_numbered xs ids new are none low id = go (new == id) refl
  where
    go : (t : Bool) → (new == id) ≡ t → told (slice_get (set xs new (suc (length ids))) id) ≡ number_of (ids ++ new ∷ []) id
    go true e =
        let same : new ≡ id = eqb-true new id e in
        ap (λ o. told o) (ap (slice_get (set xs new (suc (length ids)))) (sym same) ∙ same_place xs new (suc (length ids)) low) ∙ sym (number_last ids new none) ∙ ap (number_of (ids ++ new ∷ [])) same
    go false e =
        let apart : new ≡ id → ⊥ = λ s. (let t : (new == id) ≡ true = eq-eqb new id s in let both : true ≡ false = sym t ∙ e in cc) in
        ap told (other_place xs new id (suc (length ids)) apart) ∙ are id ∙ sym (number_other ids new id apart)
