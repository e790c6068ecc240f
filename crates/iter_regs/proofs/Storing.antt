-- A word that is put into pairs is named in, and the one that was at its offset is named out.
use Rattle.std.proofs.Common.{◌≡◌, ℕ, suc, ◌+◌, ◌<◌, eqb, ltb, Bool, true, false, if◌then◌else◌, [], ◌∷◌, Option, None, Some, refl, ap, arith}
use Rattle.std.specs.Prelude.{option_to_list}
use Rattle.std.proofs.lemmas.Bool.Decides.{nat_tests}
use Rattle.hic_word.specs.declared.Word.{Word}
use Rattle.hic_word.specs.Lists.{times}
use Rattle.hic_word.specs.Names.{named_id, names_in}
use Rattle.hic_word.specs.Memory.{Memory}
use Rattle.hic_word.specs.Exchanges.{Exchanges, HoldsAmong}
use Rattle.hic_word.proofs.callers.Holds.{names-cons, among_after, among_first, exchanges_before, exchanges_regrouped, exchanges_then}
use Rattle.write_buf.specs.WordPairs.{AscendFrom, WordPairs, with_pair, word_at}
use Rattle.write_buf.proofs.PairLaws.{word_at-below}
use Rattle.iter_regs.specs.Iters.{words_of}

-- how often the words of pairs name an id, and how often one word does
abbrev named : ℕ → WordPairs → ℕ
named j pairs = times j (names_in (words_of pairs))

abbrev named_by : ℕ → Word → ℕ
named_by j x = times j (option_to_list (named_id x))

abbrev named_by_former : ℕ → Option Word → ℕ
named_by_former j None = 0
named_by_former j (Some x) = named_by j x

stored_names : (j b : ℕ) (pairs : WordPairs) (o : ℕ) (x : Word) → AscendFrom b pairs → named j (with_pair pairs o x) + named_by_former j (word_at pairs o) ≡ named j pairs + named_by j x
stored_names j b [] o x ascend = let a = names-cons j x [] in omega (arith, a)
stored_names j b (p ∷ rest) o x ascend = go (eqb p.0 o) (ltb p.0 o) refl (stored_names j (suc p.0) rest o x ascend.2)
  where
    before : ltb p.0 o ≡ false → o < suc p.0
    before e = grind (arith, nat_tests, e)

    go : (same less : Bool) → ltb p.0 o ≡ less → named j (with_pair rest o x) + named_by_former j (word_at rest o) ≡ named j rest + named_by j x
        → named j (if same then (o, x) ∷ rest else (if less then p ∷ with_pair rest o x else (o, x) ∷ p ∷ rest)) + named_by_former j (if same then Some p.1 else word_at rest o)
        ≡ named j (p ∷ rest) + named_by j x
    go true less f later =
        let a = names-cons j x (words_of rest) in
        let b = names-cons j p.1 (words_of rest) in
        omega (arith, a, b)
    go false true f later =
        let a = names-cons j p.1 (words_of (with_pair rest o x)) in
        let b = names-cons j p.1 (words_of rest) in
        omega (arith, a, b, later)
    go false false f later =
        let a = names-cons j x (words_of (p ∷ rest)) in
        let c = ap (named_by_former j) (word_at-below rest (suc p.0) o ascend.2 (before f)) in
        omega (arith, a, c)

module _ {m n : Memory} (s x : Word) (pairs : WordPairs) (o : ℕ) (ascend : AscendFrom 0 pairs) (held : Exchanges m n [] (x ∷ [])) where
  -- where none was there
  pub none_replaced : word_at pairs o ≡ None → Exchanges m n (s ∷ words_of pairs) (s ∷ words_of (with_pair pairs o x))
  none_replaced none = exchanges_regrouped (exchanges_before held (s ∷ words_of pairs)) (s ∷ words_of pairs) (s ∷ words_of (with_pair pairs o x)) (λ j. refl) (λ j.
      let a = names-cons j x (s ∷ words_of pairs) in
      let b = names-cons j s (words_of pairs) in
      let c = names-cons j s (words_of (with_pair pairs o x)) in
      let d = stored_names j 0 pairs o x ascend in
      let e = ap (named_by_former j) none in
      omega (arith, a, b, c, d, e))

  -- where one was there, its hold is still to be given up
  one_more : (former : Word) → word_at pairs o ≡ Some former → Exchanges m n (s ∷ words_of pairs) (former ∷ s ∷ words_of (with_pair pairs o x))
  one_more former some = exchanges_regrouped (exchanges_before held (s ∷ words_of pairs)) (s ∷ words_of pairs) (former ∷ s ∷ words_of (with_pair pairs o x)) (λ j. refl) (λ j.
      let a = names-cons j x (s ∷ words_of pairs) in
      let b = names-cons j s (words_of pairs) in
      let c = names-cons j s (words_of (with_pair pairs o x)) in
      let d = stored_names j 0 pairs o x ascend in
      let e = ap (named_by_former j) some in
      let f = names-cons j former (s ∷ words_of (with_pair pairs o x)) in
      omega (arith, a, b, c, d, e, f))

  pub former_held : (former : Word) → word_at pairs o ≡ Some former → HoldsAmong m (s ∷ words_of pairs) → HoldsAmong n (former ∷ [])
  former_held former some among = among_first (former ∷ []) (s ∷ words_of (with_pair pairs o x)) (among_after m n (s ∷ words_of pairs) (former ∷ s ∷ words_of (with_pair pairs o x)) (one_more former some).holds among)

  pub one_replaced : {p : Memory} (former : Word) → word_at pairs o ≡ Some former → Exchanges n p (former ∷ []) [] → Exchanges m p (s ∷ words_of pairs) (s ∷ words_of (with_pair pairs o x))
  one_replaced former some gone = exchanges_then (one_more former some) (exchanges_before gone (s ∷ words_of (with_pair pairs o x)))
