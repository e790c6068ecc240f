-- The rounds of `release`, in each of which a dead line leaves, and of `release_each`.
use Rattle.std.proofs.Common.{◌≡◌, ℕ, ◌+◌, ◌<◌, ◌≤◌, List, [], ◌∷◌, ◌++◌, length, get_or, drop, ap, subst, sym, arith}
use Rattle.std.specs.Prelude.{option_to_list}
use Rattle.std.specs.FinMap as map
use Rattle.std.proofs.lemmas.List.{drop_more}
use Rattle.hic_word.specs.declared.Word.{Word}
use Rattle.hic_word.specs.Lists.{times}
use Rattle.hic_word.specs.Names.{named_id, names_in}
use Rattle.hic_word.specs.Memory.{Memory, count_at, width}
use Rattle.hic_word.specs.MemorySteps.{Pops, without_holds}
use Rattle.hic_word.specs.Holds.{Holds}
use Rattle.hic_word.specs.HoldLaws.{Frees}
use Rattle.hic_word.specs.Freeing.{IsFreeing}
use Rattle.hic_word.specs.Exchanges.{Exchanges, HoldsAmong}
use Rattle.hic_word.proofs.callers.Holds.{exchanges_before, exchanges_then, holds_are_given_up, lines_outlast_holds}

-- whatever else is held, all holds of the word are given up but those of lines that are to leave
abbrev pub GivesUp : (old m : Memory) → Word → Type 0
GivesUp old m x = (H : List Word) → Holds (width old) old (x ∷ H) → IsFreeing old m H []

frees : (old : Memory) (x : Word) (H : List Word) → Holds (width old) old (x ∷ H) → Frees (width old) old (x ∷ []) H
frees old x H held = holds_are_given_up (width old) old (x ∷ []) H held

-- the hold of the word itself
pub first : (old new : Memory) (x : Word) → new ≡ without_holds old (option_to_list (named_id x)) → GivesUp old new x
first old new x is H held =
    let f = frees old x H held in
    subst (λ m. IsFreeing old m H []) (sym is) (f.word old x [] f.start)

module _ (old m popped : Memory) (x : Word) (line : List Word) (up : GivesUp old m x) (p : Pops m line popped) where
  -- the holds of the words of the line that left are there
  pub round_enough : HoldsAmong old (x ∷ []) → (id : ℕ) → times id (names_in line) ≤ count_at popped id
  round_enough (H, held) = let f = frees old x H held in f.enough popped line (f.popped m popped line (up H held) p)

  pub round : (new : Memory) → new ≡ without_holds popped (names_in line) → GivesUp old new x
  round new is H held =
      let f = frees old x H held in
      subst (λ n. IsFreeing old n H []) (sym is) (f.words popped line (f.popped m popped line (up H held) p))

  -- there are fewer lines after it
  pub round_fewer : (new : Memory) → HoldsAmong old (x ∷ []) → new ≡ without_holds popped (names_in line) → map.len new.lines < map.len m.lines
  round_fewer new (H, held) is =
      let a = ap (λ (n : Memory). map.len n.lines) is in
      let b = ap map.len (lines_outlast_holds popped (names_in line)) in
      let c = (frees old x H held).fewer m popped line p in
      omega (arith, a, b, c)

-- the first of the words that are left to be given up
pub next_held : (m : Memory) (ws : List Word) (i : ℕ) (d : Word) → i < length ws → HoldsAmong m (drop i ws) → HoldsAmong m (get_or ws i d ∷ [])
next_held m ws i d h (H, held) = (drop (i + 1) ws ++ H, subst (λ us. Holds (width m) m (us ++ H)) (drop_more ws i d h) held)

pub given_up_next : {old m new : Memory} (ws : List Word) (i : ℕ) (d : Word) → i < length ws → Exchanges old m ws (drop i ws) → Exchanges m new (get_or ws i d ∷ []) [] → Exchanges old new ws (drop (i + 1) ws)
given_up_next {old = old} {m = m} ws i d h before next = exchanges_then (subst (Exchanges old m ws) (drop_more ws i d h) before) (exchanges_before next (drop (i + 1) ws))
