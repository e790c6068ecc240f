-- The rounds of `hold_each`.
use Rattle.std.proofs.Common.{◌≡◌, ℕ, zero, suc, ◌+◌, ◌<◌, List, [], ◌∷◌, ◌++◌, length, get_or, take, sym, subst, arith}
use Rattle.std.specs.Ordering.{nat_cmp}
use Rattle.std.specs.Prelude.{IsSome}
use Rattle.std.specs.FinMap.{FinMap}
use Rattle.std.specs.FinMap as map
use Rattle.std.proofs.lemmas.List.{append-nil, take_more}
use Rattle.hic_word.specs.declared.Word.{Word}
use Rattle.hic_word.specs.Memory.{Memory}
use Rattle.hic_word.specs.Holds.{IsLive}
use Rattle.hic_word.specs.Exchanges.{Exchanges}
use Rattle.hic_word.proofs.callers.Holds.{exchanges_behind, exchanges_then}
use Rattle.ref_counts.specs.Live.{AreLive}

-- one of the words is live, and stays so where no line changes
pub live_one : (m : Memory) (ws : List Word) (i : ℕ) (d : Word) → i < length ws → AreLive m ws → IsLive m (get_or ws i d)
live_one m [] i d h live = absurd (omega arith)
live_one m (w ∷ ws) zero d h live = live.0
live_one m (w ∷ ws) (suc i) d h live = live_one m ws i d (omega arith) live.1

pub live_still : (old m : Memory) (ws : List Word) (i : ℕ) (d : Word) → i < length ws → AreLive old ws → m.lines ≡ old.lines → IsLive m (get_or ws i d)
live_still old m ws i d h live same = λ id e. subst (λ (ls : FinMap nat_cmp (List Word)). IsSome (map.get ls id)) (sym same) (live_one old ws i d h live id e)

-- the next of the words is held behind those before it
pub taken_next : {old m new : Memory} (ws : List Word) (i : ℕ) (d : Word) → i < length ws → Exchanges old m [] (take i ws) → Exchanges m new [] (get_or ws i d ∷ []) → Exchanges old new [] (take (i + 1) ws)
taken_next {m = m} {new = new} ws i d h before next =
    let before_it = take i ws in
    let beside = subst (λ us. Exchanges m new us (before_it ++ get_or ws i d ∷ [])) (append-nil before_it) (exchanges_behind next before_it) in
    subst (Exchanges _ new []) (sym (take_more ws i d h)) (exchanges_then before beside)
