-- A segment gets another root: what is held, and what the root stands for.
use Rattle.std.proofs.Common.{◌≡◌, ℕ, zero, suc, ◌<◌, List, [], ◌∷◌, ◌++◌, length, Some, refl, sym, subst, inl, inr, arith}
use Rattle.std.specs.Prelude.{option_map, slice_get}
use Rattle.hic_word.specs.declared.Word.{Word}
use Rattle.hic_word.specs.Lists.{In, times}
use Rattle.hic_word.specs.Names.{names_in}
use Rattle.hic_word.specs.Values.{Array, Ref, pairs}
use Rattle.hic_word.specs.Memory.{Memory, width}
use Rattle.hic_word.specs.InMemory.{RootIn}
use Rattle.hic_word.specs.Exchanges.{Exchanges, HoldsAmong, Reshapes}
use Rattle.hic_word.proofs.callers.Holds.{among_after, among_first, exchanges_before, exchanges_nothing, exchanges_regrouped, exchanges_then, fewer_keep, names-cons, reshapes_before, reshapes_then}
use Rattle.hic_word.proofs.callers.Standing.{held_word_live, live_words_stand_on}
use Rattle.segment_map.specs.declared.Segment.{Segment}
use Rattle.segment_map.specs.Segments.{roots, with_root}

-- a segment that is there has a number below their count
pub is_there : (ss : List Segment) (i : ℕ) (s : Segment) → slice_get ss i ≡ Some s → i < length ss
is_there [] i s e = cc
is_there (t ∷ ss) zero s e = omega arith
is_there (t ∷ ss) (suc i) s e = let f = is_there ss i s e in omega (arith, f)

abbrev root_at : List Segment → ℕ → Word → Type 0
root_at ss i former = option_map (λ (s : Segment). s.root) (slice_get ss i) ≡ Some former

-- the root that a segment had before others, in place of the one that it has
former_named : (j : ℕ) (ss : List Segment) (i : ℕ) (root former : Word) → root_at ss i former → times j (names_in (root ∷ roots ss)) ≡ times j (names_in (former ∷ roots (with_root ss i root)))
former_named j [] i root former e = cc
former_named j (s ∷ ss) zero root former e =
    let same : s.root ≡ former = cc in
    let a = names-cons j root (s.root ∷ roots ss) in
    let b = names-cons j s.root (roots ss) in
    let c = names-cons j s.root (root ∷ roots ss) in
    let d = names-cons j root (roots ss) in
    subst (λ f. times j (names_in (root ∷ roots (s ∷ ss))) ≡ times j (names_in (f ∷ root ∷ roots ss))) same (omega (arith, a, b, c, d))
former_named j (s ∷ ss) (suc i) root former e =
    let a = names-cons j root (s.root ∷ roots ss) in
    let b = names-cons j s.root (roots ss) in
    let c = names-cons j former (s.root ∷ roots (with_root ss i root)) in
    let d = names-cons j s.root (roots (with_root ss i root)) in
    let f = names-cons j root (roots ss) in
    let g = names-cons j former (roots (with_root ss i root)) in
    let h = former_named j ss i root former e in
    omega (arith, a, b, c, d, f, g, h)

module _ (ss : List Segment) (i : ℕ) (root former : Word) (e : root_at ss i former) where
  regrouped : (m : Memory) → Exchanges m m (root ∷ roots ss) (former ∷ roots (with_root ss i root))
  regrouped m = exchanges_regrouped (exchanges_nothing m (root ∷ roots ss)) (root ∷ roots ss) (former ∷ roots (with_root ss i root)) (λ j. refl) (λ j. former_named j ss i root former e)

  pub former_held : (m : Memory) → HoldsAmong m (root ∷ roots ss) → HoldsAmong m (former ∷ [])
  former_held m held = among_first (former ∷ []) (roots (with_root ss i root)) (among_after m m (root ∷ roots ss) (former ∷ roots (with_root ss i root)) (regrouped m).holds held)

  pub former_given_up : (m n : Memory) → Exchanges m n (former ∷ []) [] → Exchanges m n (root ∷ roots ss) (roots (with_root ss i root))
  former_given_up m n gone = exchanges_then (regrouped m) (exchanges_before gone (roots (with_root ss i root)))

root_there : (ss : List Segment) (i : ℕ) (root : Word) → i < length ss → In root (roots (with_root ss i root))
root_there [] i root low = absurd (omega (arith, low))
root_there (s ∷ ss) zero root low = inl refl
root_there (s ∷ ss) (suc i) root low = inr (root_there ss i root (omega (arith, low)))

in_front : (x : Word) (xs ys : List Word) → In x xs → In x (xs ++ ys)
in_front x [] ys there = absurd there
in_front x (z ∷ xs) ys (inl e) = inl e
in_front x (z ∷ xs) ys (inr there) = inr (in_front x xs ys there)

-- a root that is held stands for its array afterwards
pub root_stands_on : (m n : Memory) (P Q : List Word) (root : Word) (A : Array) → Exchanges m n P Q → HoldsAmong m P → In root Q → RootIn m root A → RootIn n root A
root_stands_on m n P Q root A e (others, held) there stands = record {
  valid = stands.valid;
  word = (live_words_stand_on (width n) m n (Q ++ others) root (fewer_keep m n e.lines) (e.holds others held) (held_word_live n (Q ++ others) root (e.holds others held) (in_front root Q others there))).value (Ref (pairs A)) stands.word;
}

module _ {m n : Memory} (ss : List Segment) (i : ℕ) (new : Word) (made : Reshapes m n [] (new ∷ [])) where
  pub new_held : HoldsAmong m (roots ss) → HoldsAmong n (new ∷ roots ss)
  new_held held = among_after m n (roots ss) (new ∷ roots ss) (reshapes_before made (roots ss)).holds held

  pub new_installed : (p : Memory) (after : List Segment) → Exchanges n p (new ∷ roots ss) (roots after) → Reshapes m p (roots ss) (roots after)
  new_installed p after e = reshapes_then (reshapes_before made (roots ss)) e

  pub new_stands : (p : Memory) (after : List Segment) → i < length ss → after ≡ with_root ss i new → Exchanges n p (new ∷ roots ss) (roots after) → HoldsAmong m (roots ss) → (A : Array) → RootIn n new A → RootIn p new A
  new_stands p after low set e held A stands = root_stands_on n p (new ∷ roots ss) (roots after) new A e (new_held held) (subst (λ us. In new (roots us)) (sym set) (root_there ss i new low)) stands
