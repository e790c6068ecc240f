-- Holds are given up, and lines leave that nobody names any more.
use Rattle.std.proofs.Common.{◌≡◌, ℕ, zero, suc, ◌+◌, ◌-◌, ◌<◌, ◌≤◌, Bool, true, false, cond, eqb, List, [], ◌∷◌, ◌++◌, Option, Some, None, refl, sym, ◌∙◌, ap, subst, inl, inr, arith, IsSome}
use Rattle.std.specs.Prelude.{option_to_list, is_some}
use Rattle.std.specs.FinMap as map
use Rattle.std.specs.Cmp.{nat_cmp_total}
use Rattle.std.proofs.lemmas.Bool.{eqb-true, eqb-false, eq-eqb, ne_eqb, cases_eq}
use Rattle.std.proofs.lemmas.Option.{none-some}
use Rattle.hic_word.specs.declared.Word.{Word}
use Rattle.hic_word.specs.Lists.{times}
use Rattle.hic_word.specs.Names.{Names, named_id, names_in}
use Rattle.hic_word.specs.Memory.{Memory, line_at, count_at, live_names}
use Rattle.hic_word.specs.MemorySteps.{without_hold, with_less, without_holds, without_line}
use Rattle.hic_word.specs.StandingLaws.{Keeps}
use Rattle.hic_word.specs.Balanced.{IsBalanced}
use Rattle.hic_word.specs.Holds.{Holds}
use Rattle.hic_word.specs.Freeing.{IsFreeing}
use Rattle.hic_word.specs.HoldLaws.{HoldsAreGivenUp, LinesOutlastHolds}
use Rattle.hic_word.proofs.Children.{names_child}
use Rattle.hic_word.proofs.Counted.{some_or, counted_entry}
use Rattle.hic_word.proofs.Keys.{entry_line}
use Rattle.hic_word.proofs.Kept.{IdFor-kept}
use Rattle.hic_word.proofs.Tells.{line_of}
use Rattle.hic_word.proofs.Counting.{hit-same, times-here, times-later, times-other, names-some, names-none, names-append, live_names_parts, live_counted, count_after, count_without, get-removed, is_there, there_is}

-- what a live line of a balanced memory names is live
pub live_closed : {w : ℕ} (m : Memory) (H : List Word) → IsBalanced w m H → (j : ℕ) → 1 ≤ times j (live_names m) → IsSome (line_at m j)
live_closed m H b j h =
    let es = map.entries m.lines in
    let (e, there, n) = counted_entry j es h in
    let at = entry_line m e there in
    let (L, i, made) = b.stands e.0 e.1 at in
    let (M, k, child) = names_child e.0 j L e.1 i at n in
    let (line, here) = line_of k in
    there_is (line_at m j) line here

-- the start: the holds of P are to be given up
freeing_start : {w : ℕ} (m : Memory) (P H : List Word) → Holds w m (P ++ H) → IsFreeing m m H P
freeing_start m P H h = record {
  layout = refl;
  lines = λ id line e. e;
  counted = λ id line e. h.balanced.counted id line e ∙ ap (λ n. times id (live_names m) + n) (names-append id P H);
  dead = λ id d. absurd (let a : times id m.dead ≡ 0 = ap (times id) h.balanced.no_dead in omega (arith, a, d));
  zero = λ id line e z. absurd (let a = h.balanced.used id line e in omega (arith, a, z));
  named = λ id n. elim (some_or (times id (live_names m)) (times id (names_in P) + times id (names_in H)) n) [
    | inl l ↦ live_closed m (P ++ H) h.balanced id l
    | inr r ↦ h.named id (let a = names-append id P H in omega (arith, a, r))
  ];
}

live_count : (old m : Memory) (H P : List Word) → IsFreeing old m H P → (id : ℕ) → times id (live_names m) + (times id (names_in P) + times id (names_in H)) ≤ count_at m id
live_count old m H P f id = elim (cases_eq (times id (live_names m) + (times id (names_in P) + times id (names_in H))) 0) [
  | inl z ↦ omega arith
  | inr p ↦ let (line, e) = is_there (line_at m id) (f.named id (omega arith)) in let a = f.counted id line e in omega arith
]

-- the holds that are still to be given up are there
pub freeing_held : (old m : Memory) (H P : List Word) → IsFreeing old m H P → (id : ℕ) → times id (names_in P) ≤ count_at m id
freeing_held old m H P f id = let a = live_count old m H P f id in omega arith

one_less : (t : Bool) (n x l h : ℕ) → n ≡ l + ((cond t 1 0 + x) + h) → cond t (n - 1) n ≡ l + (x + h)
one_less true n x l h e = omega arith
one_less false n x l h e = omega arith

-- one hold is given up
pub freeing_hold : (old m : Memory) (H P : List Word) (w : Word) (id : ℕ) → IsFreeing old m H (w ∷ P) → named_id w ≡ Some id → IsFreeing old (without_hold m id) H P
freeing_hold old m H P w id f e = go (eqb (count_at m id) 1) refl
  where
    n : ℕ
    n = count_at m id

    more : (q : ℕ) → times q (names_in (w ∷ P)) ≡ cond (eqb q id) 1 0 + times q (names_in P)
    more q = names-some q id w P e

    positive : 1 ≤ count_at m id
    positive = let a = freeing_held old m H (w ∷ P) f id in let b = more id in let c = hit-same id id refl in omega arith

    counts : (q : ℕ) (line : List Word) → line_at m q ≡ Some line → cond (eqb q id) (count_at m id - 1) (count_at m q) ≡ times q (live_names m) + (times q (names_in P) + times q (names_in H))
    counts q line h = at (eqb q id) refl
      where
        a : count_at m q ≡ times q (live_names m) + ((cond (eqb q id) 1 0 + times q (names_in P)) + times q (names_in H))
        a = f.counted q line h ∙ ap (λ k. times q (live_names m) + (k + times q (names_in H))) (more q)

        at : (t : Bool) → eqb q id ≡ t → cond t (count_at m id - 1) (count_at m q) ≡ times q (live_names m) + (times q (names_in P) + times q (names_in H))
        at true s = ap (λ k. count_at m k - 1) (sym (eqb-true q id s)) ∙ one_less true (count_at m q) _ _ _ (subst (λ t. count_at m q ≡ times q (live_names m) + ((cond t 1 0 + times q (names_in P)) + times q (names_in H))) s a)
        at false s = one_less false (count_at m q) _ _ _ (subst (λ t. count_at m q ≡ times q (live_names m) + ((cond t 1 0 + times q (names_in P)) + times q (names_in H))) s a)

    names : (q : ℕ) → 1 ≤ times q (live_names m) + (times q (names_in P) + times q (names_in H)) → IsSome (line_at m q)
    names q h = f.named q (let a = more q in omega arith)

    go : (t : Bool) → eqb (count_at m id) 1 ≡ t → IsFreeing old (with_less t m id (count_at m id - 1)) H P
    go true s =
        let one : count_at m id ≡ 1 = eqb-true (count_at m id) 1 s in
        record {
          layout = f.layout;
          lines = f.lines;
          counted = λ q line h. count_after m id (count_at m id - 1) q ∙ counts q line h;
          dead = λ q h. count_after m id (count_at m id - 1) q ∙ (elim (cases_eq q id) [
            | inl k ↦ ap (λ t. cond t (count_at m id - 1) (count_at m q)) (eq-eqb q id k) ∙ omega arith
            | inr k ↦ ap (λ t. cond t (count_at m id - 1) (count_at m q)) (ne_eqb q id k) ∙ f.dead q (subst (λ x. 1 ≤ x) (times-other q id m.dead k) h)
          ]);
          zero = λ q line h z. elim (cases_eq q id) [
            | inl k ↦ subst (λ x. 1 ≤ times q (x ∷ m.dead)) k (times-here q m.dead)
            | inr k ↦ let a = f.zero q line h (sym (ap (λ t. cond t (count_at m id - 1) (count_at m q)) (ne_eqb q id k)) ∙ sym (count_after m id (count_at m id - 1) q) ∙ z) in let b = times-later q id m.dead in omega arith
          ];
          named = names;
        }
    go false s =
        let many : count_at m id ≡ 1 → ⊥ = eqb-false (count_at m id) 1 s in
        record {
          layout = f.layout;
          lines = f.lines;
          counted = λ q line h. count_after m id (count_at m id - 1) q ∙ counts q line h;
          dead = λ q h. count_after m id (count_at m id - 1) q ∙ (elim (cases_eq q id) [
            | inl k ↦ absurd (let a : count_at m q ≡ count_at m id = ap (count_at m) k in let b = f.dead q h in let c = positive in omega arith)
            | inr k ↦ ap (λ t. cond t (count_at m id - 1) (count_at m q)) (ne_eqb q id k) ∙ f.dead q h
          ]);
          zero = λ q line h z. elim (cases_eq q id) [
            | inl k ↦ absurd (
                let a : count_at m id - 1 ≡ 0 = sym (ap (λ t. cond t (count_at m id - 1) (count_at m q)) (eq-eqb q id k)) ∙ sym (count_after m id (count_at m id - 1) q) ∙ z in
                let c = positive in
                many (omega arith))
            | inr k ↦ f.zero q line h (sym (ap (λ t. cond t (count_at m id - 1) (count_at m q)) (ne_eqb q id k)) ∙ sym (count_after m id (count_at m id - 1) q) ∙ z)
          ];
          named = names;
        }

-- a word that names nothing has no hold
pub freeing_same : (old m : Memory) (H P : List Word) (w : Word) → IsFreeing old m H (w ∷ P) → named_id w ≡ None → IsFreeing old m H P
freeing_same old m H P w f e = record {
  layout = f.layout;
  lines = f.lines;
  counted = λ q line h. f.counted q line h ∙ ap (λ k. times q (live_names m) + (k + times q (names_in H))) (names-none q w P e);
  dead = f.dead;
  zero = f.zero;
  named = λ q h. f.named q (let a = names-none q w P e in omega arith);
}

-- all holds of a list of words are given up
pub freeing_all : (old m : Memory) (H P : List Word) → IsFreeing old m H P → IsFreeing old (without_holds m (names_in P)) H []
freeing_all old m H [] f = f
freeing_all old m H (w ∷ P) f = go (named_id w) refl (λ n g. freeing_all old n H P g)
  where
    go : (o : Option ℕ) → named_id w ≡ o → ((n : Memory) → IsFreeing old n H P → IsFreeing old (without_holds n (names_in P)) H []) → IsFreeing old (without_holds m (option_to_list o ++ names_in P)) H []
    go None e again = again m (freeing_same old m H P w f e)
    go (Some id) e again = again (without_hold m id) (freeing_hold old m H P w id f e)

-- the hold of one word is given up
pub freeing_word : (old m : Memory) (H P : List Word) (w : Word) → IsFreeing old m H (w ∷ P) → IsFreeing old (without_holds m (option_to_list (named_id w))) H P
freeing_word old m H P w f = go (named_id w) refl
  where
    go : (o : Option ℕ) → named_id w ≡ o → IsFreeing old (without_holds m (option_to_list o)) H P
    go None e = freeing_same old m H P w f e
    go (Some id) e = freeing_hold old m H P w id f e

-- lines stay where holds are given up
lines-without_hold : (m : Memory) (id : ℕ) → (without_hold m id).lines ≡ m.lines
lines-without_hold m id = go (eqb (count_at m id) 1)
  where
    go : (t : Bool) → (with_less t m id (count_at m id - 1)).lines ≡ m.lines
    go true = refl
    go false = refl

pub lines-without_holds : (m : Memory) (ids : List ℕ) → (without_holds m ids).lines ≡ m.lines
lines-without_holds m [] = refl
lines-without_holds m (id ∷ ids) = lines-without_holds (without_hold m id) ids ∙ lines-without_hold m id

-- a line less
pub fewer_lines : (m : Memory) (id : ℕ) (rest : List ℕ) (line : List Word) → line_at m id ≡ Some line → map.len (without_line m id rest).lines < map.len m.lines
fewer_lines m id rest line e =
    let a = map.len-remove nat_cmp_total m.lines id in
    let b : cond (map.contains_key m.lines id) (map.len m.lines - 1) (map.len m.lines) ≡ map.len m.lines - 1 = ap (λ t. cond t (map.len m.lines - 1) (map.len m.lines)) (there_is (line_at m id) line e) in
    let p : 1 ≤ map.len m.lines = some_line (map.len m.lines) refl in
    omega (arith, a, b, p)
  where
    some_line : (n : ℕ) → map.len m.lines ≡ n → 1 ≤ n
    some_line zero z = absurd (let a : map.get m.lines id ≡ None = ap (λ x. map.get x id) (map.empty_of_len m.lines z) ∙ map.get-empty _ id in none-some line (sym a ∙ e))
    some_line (suc n) z = omega arith

-- the first dead id leaves, and its line's holds are to be given up
pub freeing_popped : (old m : Memory) (H : List Word) (id : ℕ) (rest : List ℕ) (line : List Word) → IsFreeing old m H [] → m.dead ≡ id ∷ rest → line_at m id ≡ Some line → IsFreeing old (without_line m id rest) H line
freeing_popped old m H id rest line f d e = record {
  layout = f.layout;
  lines = λ q l h. f.lines q l (still q l h).1;
  counted = λ q l h.
      let (k, there) = still q l h in
      let a = f.counted q l there in
      let p = parts q in
      count_without m id rest q ∙ ap (λ t. cond t 0 (count_at m q)) (ne_eqb q id k) ∙ omega arith;
  dead = λ q h. count_without m id rest q ∙ (elim (cases_eq q id) [
    | inl k ↦ ap (λ t. cond t 0 (count_at m q)) (eq-eqb q id k)
    | inr k ↦ ap (λ t. cond t 0 (count_at m q)) (ne_eqb q id k) ∙ f.dead q (let a : times q m.dead ≡ times q (id ∷ rest) = ap (times q) d in let b = times-later q id rest in omega arith)
  ]);
  zero = λ q l h z.
      let (k, there) = still q l h in
      let a = f.zero q l there (sym (ap (λ t. cond t 0 (count_at m q)) (ne_eqb q id k)) ∙ sym (count_without m id rest q) ∙ z) in
      let b : times q m.dead ≡ times q (id ∷ rest) = ap (times q) d in
      let c = times-other q id rest k in
      omega arith;
  named = λ q h.
      let p = parts q in
      let there = f.named q (omega arith) in
      let k : q ≡ id → ⊥ = λ s. (let a = no_name in let b : times q (live_names m) + times q (names_in H) ≡ times id (live_names m) + times id (names_in H) = ap (λ x. times x (live_names m) + times x (names_in H)) s in omega arith) in
      subst (λ o. IsSome o) (sym (get-removed m.lines id q ∙ ap (λ t. cond t None (line_at m q)) (ne_eqb q id k))) there;
}
  where
    parts : (q : ℕ) → times q (live_names m) ≡ times q (names_in line) + times q (live_names (without_line m id rest))
    parts q = live_names_parts m id line q e

    still : (q : ℕ) (l : List Word) → line_at (without_line m id rest) q ≡ Some l → (q ≡ id → ⊥) × (line_at m q ≡ Some l)
    still q l h = elim (cases_eq q id) [
      | inl k ↦ absurd (none-some l (sym (ap (λ t. cond t None (line_at m q)) (eq-eqb q id k)) ∙ sym (get-removed m.lines id q) ∙ h))
      | inr k ↦ (k, sym (ap (λ t. cond t None (line_at m q)) (ne_eqb q id k)) ∙ sym (get-removed m.lines id q) ∙ h)
    ]

    no_name : times id (live_names m) + times id (names_in H) ≡ 0
    no_name =
        let a = f.dead id (subst (λ ns. 1 ≤ times id ns) (sym d) (times-here id rest)) in
        let b = live_count old m H [] f id in
        omega arith

-- what is left stands for what it stood for
kept : (old m : Memory) (H : List Word) → IsFreeing old m H [] → Keeps (line_at old) (line_at m) (λ id. is_some (line_at m id))
kept old m H f = record {
  line = λ id l p h. let (k, there) = is_there (line_at m id) p in let a = f.lines id k there in let same : k ≡ l = cc in there ∙ ap (λ (x : List Word). Some x) same;
  closed = λ id j l p h n.
      let (k, there) = is_there (line_at m id) p in
      let a = f.lines id k there in
      let same : l ≡ k = cc in
      let c = live_counted m id j k there (subst (λ x. Names j x) same n) in
      f.named j (omega (arith, c));
}

-- the end: where no id is dead, the memory holds what is held
freeing_end : {w : ℕ} (old m : Memory) (G H : List Word) → IsBalanced w old G → IsFreeing old m H [] → m.dead ≡ [] → Holds w m H
freeing_end {w} old m G H b f d = record {
  balanced = record {
    unique = λ i j l e h. b.unique i j l (f.lines i l e) (f.lines j l h);
    stands = λ id l e.
        let (L, i, made) = b.stands id l (f.lines id l e) in
        (L, IdFor-kept (line_at old) (line_at m) (λ x. is_some (line_at m x)) (kept old m H f) i (there_is (line_at m id) l e), made);
    no_dead = d;
    used = λ id l e. elim (cases_eq (count_at m id) 0) [
      | inl z ↦ absurd (let a = f.zero id l e z in let c : times id m.dead ≡ 0 = ap (times id) d in omega (arith, a, c))
      | inr p ↦ omega (arith, p)
    ];
    counted = λ id l e. let a = f.counted id l e in omega (arith, a);
  };
  named = λ id h. f.named id (omega (arith, h));
}

pub holds_are_given_up : HoldsAreGivenUp
holds_are_given_up w old P H h = record {
  start = freeing_start old P H h;
  enough = λ m Q f id. freeing_held old m H Q f id;
  word = λ m x Q f. freeing_word old m H Q x f;
  words = λ m Q f. freeing_all old m H Q f;
  popped = λ m new line f (id, rest, d, e, q). subst (λ n. IsFreeing old n H line) (sym q) (freeing_popped old m H id rest line f d e);
  fewer = λ m new line (id, rest, d, e, q). subst (λ n. map.len n.lines < map.len m.lines) (sym q) (fewer_lines m id rest line e);
  end = λ m f d. freeing_end old m (P ++ H) H h.balanced f d;
}

pub lines_outlast_holds : LinesOutlastHolds
lines_outlast_holds m ids = lines-without_holds m ids
