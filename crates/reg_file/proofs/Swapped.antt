-- Words that are held, with one of them replaced.
use Rattle.std.proofs.Common.{◌≡◌, ℕ, zero, suc, ◌+◌, ◌<◌, List, [], ◌∷◌, ◌++◌, length, set, get_or, ap, refl, arith}
use Rattle.std.specs.Prelude.{option_to_list}
use Rattle.hic_word.specs.declared.Word.{Word}
use Rattle.hic_word.specs.Lists.{times}
use Rattle.hic_word.specs.Names.{NamedAlike, named_id, names_in}
use Rattle.hic_word.specs.Memory.{Memory, width}
use Rattle.hic_word.specs.Exchanges.{Exchanges, HoldsAmong}
use Rattle.hic_word.proofs.callers.Holds.{names-cons, alike_beside, exchanges_before, exchanges_regrouped, exchanges_then, holding_is_by_counts}

-- one word out, another in
pub times-set : (j : ℕ) (ws : List Word) (r : ℕ) (x d : Word) → r < length ws → times j (names_in (set ws r x)) + times j (option_to_list (named_id (get_or ws r d))) ≡ times j (names_in ws) + times j (option_to_list (named_id x))
times-set j [] r x d h = absurd (omega arith)
times-set j (y ∷ ws) zero x d h =
    let a = names-cons j x ws in
    let b = names-cons j y ws in
    omega (arith, a, b)
times-set j (y ∷ ws) (suc r) x d h =
    let a = names-cons j y (set ws r x) in
    let b = names-cons j y ws in
    let c = times-set j ws r x d (omega arith) in
    omega (arith, a, b, c)

module _ (ws former : List Word) (r : ℕ) (x d : Word) (same : ws ≡ former) (low : r < length ws) where
  -- the word that was in a register is named out, and another in
  swapped_names : NamedAlike (x ∷ former) (get_or ws r d ∷ set ws r x)
  swapped_names j =
      let a = names-cons j x former in
      let b = ap (λ us. times j (names_in us)) same in
      let c = names-cons j (get_or ws r d) (set ws r x) in
      let e = times-set j ws r x d low in
      omega (arith, a, b, c, e)

  -- the hold of the word that was there is one to be given up
  pub former_held : {old new : Memory} → Exchanges old new [] (x ∷ []) → HoldsAmong old former → HoldsAmong new (get_or ws r d ∷ [])
  former_held {new = new} taken (H, held) = (
    set ws r x ++ H,
    holding_is_by_counts (width new) new ((x ∷ former) ++ H) ((get_or ws r d ∷ set ws r x) ++ H) (alike_beside (x ∷ former) (get_or ws r d ∷ set ws r x) H swapped_names) (taken.holds (former ++ H) held),
  )

  -- after both the registers are held as they are then
  pub swapped : {old between new : Memory} → Exchanges old between [] (x ∷ []) → Exchanges between new (get_or ws r d ∷ []) [] → Exchanges old new former (set ws r x)
  swapped taken given_up = exchanges_then (exchanges_before taken former) (exchanges_regrouped (exchanges_before given_up (set ws r x)) (x ∷ former) (set ws r x) swapped_names (λ j. refl))
