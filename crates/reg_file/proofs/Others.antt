-- Which registers hold something else than a number, by their bits.
use Rattle.std.proofs.Common.{◌≡◌, ◌≢◌, ◌↔◌, ℕ, zero, suc, ◌<◌, ◌≤◌, eqb, Bool, true, false, List, [], ◌∷◌, length, set, get_or, not, replicate, IsTrue, Some, None, refl, sym, ◌∙◌, ap, subst, arith, length-set}
use Rattle.std.specs.Prelude.{option_to_list, slice_get}
use Rattle.std.specs.Int.{bit_at, from_bool}
use Rattle.std.proofs.lemmas.Bool.{eqb-true}
use Rattle.std.proofs.lemmas.Bool.Decides.{nat_tests}
use Rattle.std.proofs.lemmas.Nat.Bits.{bit_at-zero}
use Rattle.std.proofs.lemmas.Option.{slice_get-get_or, slice_get_within}
use Rattle.hic_word.specs.declared.Kind.TheVariants.{Num}
use Rattle.hic_word.specs.declared.Word.{Word}
use Rattle.hic_word.specs.Exchanges.{Exchanges}
use Rattle.hic_word.specs.Lists.{times}
use Rattle.hic_word.specs.Memory.{Memory}
use Rattle.hic_word.specs.Names.{named_id, names_in}
use Rattle.hic_word.specs.Stands.{word_of}
use Rattle.hic_word.proofs.callers.Holds.{exchanges_nothing, exchanges_regrouped}
use Rattle.reg_file.specs.Numbers.{HasNumber, HoldsNumber, IsNumber, TellsOthers}
use Rattle.reg_file.proofs.Swapped.{times-set}

the_same : {x y : Word} → Some x ≡ Some y → x ≡ y
the_same e = cc

set_there : (ws : List Word) (r : ℕ) (x : Word) → r < length ws → slice_get (set ws r x) r ≡ Some x
set_there [] r x low = absurd (omega (arith, low))
set_there (y ∷ ws) zero x low = refl
set_there (y ∷ ws) (suc r) x low = set_there ws r x (omega (arith, low))

set_elsewhere : (ws : List Word) (r i : ℕ) (x : Word) → i ≢ r → slice_get (set ws r x) i ≡ slice_get ws i
set_elsewhere [] r i x other = refl
set_elsewhere (y ∷ ws) zero zero x other = absurd (other refl)
set_elsewhere (y ∷ ws) zero (suc i) x other = refl
set_elsewhere (y ∷ ws) (suc r) zero x other = refl
set_elsewhere (y ∷ ws) (suc r) (suc i) x other = set_elsewhere ws r i x (λ e. other (ap suc e))

-- at first each register has a number
all_alike : (n r : ℕ) (x y : Word) → slice_get (replicate n x) r ≡ Some y → y ≡ x
all_alike zero r x y e = cc
all_alike (suc n) zero x y e = sym (the_same e)
all_alike (suc n) (suc r) x y e = all_alike n r x y e

pub none_at_first : (n : ℕ) (x : Word) → x ≡ word_of Num 0 0 → TellsOthers 0 (replicate n x)
none_at_first n x is r y e = (λ clear. (let same = all_alike n r x y e ∙ is in same ∙ ap (λ (z : Word). word_of Num 0 z.bits) (sym same)), λ number. bit_at-zero r)

-- another word in a register, whose bit tells it
pub others_set : (others after : ℕ) (ws : List Word) (r : ℕ) (x : Word) → r < length ws → length ws ≤ 8 → TellsOthers others ws → (bit_at after r ≡ 0) ↔ IsNumber x → ((i : ℕ) → i < 8 → i ≢ r → bit_at after i ≡ bit_at others i) → TellsOthers after (set ws r x)
others_set others after ws r x low few tells here elsewhere i y e = go (eqb i r) refl
  where
    at_other : i ≢ r → (bit_at after i ≡ 0) ↔ IsNumber y
    at_other other =
        let f : slice_get ws i ≡ Some y = sym (set_elsewhere ws r i x other) ∙ e in
        let within = slice_get_within ws i y f in
        let same = elsewhere i (omega (arith, within, few)) other in
        let old = tells i y f in
        (λ clear. old.0 (sym same ∙ clear), λ number. same ∙ old.1 number)

    at_place : i ≡ r → (bit_at after i ≡ 0) ↔ IsNumber y
    at_place place =
        let same : x ≡ y = the_same (sym (set_there ws r x low) ∙ ap (slice_get (set ws r x)) (sym place) ∙ e) in
        subst (λ z. (bit_at after i ≡ 0) ↔ IsNumber z) same (subst (λ j. (bit_at after j ≡ 0) ↔ IsNumber x) (sym place) here)

    go : (b : Bool) → eqb i r ≡ b → (bit_at after i ≡ 0) ↔ IsNumber y
    go true f = at_place (eqb-true i r f)
    go false f = at_other (grind (arith, nat_tests, f))

-- the bit that is set where a word is no number's
pub bit_tells : (is : Bool) (bit : ℕ) {P : Type 0} → IsTrue is ↔ P → bit ≡ from_bool (not is) → (bit ≡ 0) ↔ P
bit_tells true bit told e = (λ clear. told.0 refl, λ p. e)
bit_tells false bit told e = (λ clear. cc (e, clear), λ p. absurd (wrong (told.1 p)))
  where
    wrong : false ≡ true → ⊥
    wrong f = cc

-- ---- a register that holds a number

module _ (ws former : List Word) (same : ws ≡ former) (r : ℕ) (low : r < length ws) (number : HasNumber former r) (d : Word) where
  there : slice_get ws r ≡ Some (get_or ws r d)
  there = slice_get-get_or ws r d low

  is_number : get_or ws r d ≡ word_of Num 0 (get_or ws r d).bits
  is_number = number (get_or ws r d) (ap (λ us. slice_get us r) (sym same) ∙ there)

  pub held_number : HoldsNumber former r (get_or ws r d).bits
  held_number = ap (λ us. slice_get us r) (sym same) ∙ there ∙ ap (λ (x : Word). Some x) is_number

  module _ (n : ℕ) where
    set_is : set ws r (record (get_or ws r d) { bits = n }) ≡ set ws r (word_of Num 0 n)
    set_is = ap (λ (x : Word). set ws r (record x { bits = n })) is_number

    pub number_set : set ws r (record (get_or ws r d) { bits = n }) ≡ set former r (word_of Num 0 n)
    number_set = set_is ∙ ap (λ us. set us r (word_of Num 0 n)) same

    -- nothing is held for it, before and afterwards
    pub number_exchanged : (m : Memory) → Exchanges m m former (set ws r (record (get_or ws r d) { bits = n }))
    number_exchanged m = exchanges_regrouped (exchanges_nothing m ws) former (set ws r (record (get_or ws r d) { bits = n })) (λ j. ap (λ us. times j (names_in us)) (sym same)) (λ j.
        let a = times-set j ws r (word_of Num 0 n) d low in
        let none : times j (option_to_list (named_id (get_or ws r d))) ≡ 0 = ap (λ x. times j (option_to_list (named_id x))) is_number in
        let b = ap (λ us. times j (names_in us)) set_is in
        omega (arith, a, b, none))

    -- its bit says so, before and afterwards
    pub number_tells : (others : ℕ) → length ws ≡ 8 → TellsOthers others ws → (length (set ws r (record (get_or ws r d) { bits = n })) ≡ 8) × TellsOthers others (set ws r (record (get_or ws r d) { bits = n }))
    number_tells others eight tells = (
      length-set ws r _ ∙ eight,
      subst (TellsOthers others) (sym set_is) (others_set others others ws r (word_of Num 0 n) low (omega (arith, eight)) tells (λ clear. refl, λ e. (tells r (get_or ws r d) there).1 is_number) (λ i less other. refl)),
    )
