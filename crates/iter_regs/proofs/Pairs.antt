-- The words of pairs are given up one after another.
use Rattle.std.proofs.Common.{◌≡◌, ℕ, ◌+◌, ◌<◌, [], ◌∷◌, length, get_or, drop, ap, subst}
use Rattle.std.proofs.lemmas.List.{drop_more}
use Rattle.hic_word.specs.declared.Word.{Word}
use Rattle.hic_word.specs.Memory.{Memory}
use Rattle.hic_word.specs.Exchanges.{Exchanges, HoldsAmong}
use Rattle.hic_word.proofs.callers.Holds.{among_first, exchanges_before, exchanges_then}
use Rattle.write_buf.specs.WordPairs.{WordPairs}
use Rattle.iter_regs.specs.Iters.{words_of}

module _ (pairs : WordPairs) (i : ℕ) (d : ℕ × Word) (low : i < length pairs) where
  -- the first word that is left
  next_word : words_of (drop i pairs) ≡ (get_or pairs i d).1 ∷ words_of (drop (i + 1) pairs)
  next_word = ap words_of (drop_more pairs i d low)

  pub next_held : (m : Memory) → HoldsAmong m (words_of (drop i pairs)) → HoldsAmong m ((get_or pairs i d).1 ∷ [])
  next_held m held = among_first ((get_or pairs i d).1 ∷ []) (words_of (drop (i + 1) pairs)) (subst (HoldsAmong m) next_word held)

  pub given_up_next : {old m new : Memory} → Exchanges old m (words_of pairs) (words_of (drop i pairs)) → Exchanges m new ((get_or pairs i d).1 ∷ []) [] → Exchanges old new (words_of pairs) (words_of (drop (i + 1) pairs))
  given_up_next {old = old} {m = m} before next = exchanges_then (subst (Exchanges old m (words_of pairs)) next_word before) (exchanges_before next (words_of (drop (i + 1) pairs)))
