-- The dead ids are those with count 0, after each step of the counts.
use Rattle.std.proofs.Common.{◌≡◌, ℕ, ◌≤◌, Bool, true, false, cond, eqb, List, [], ◌∷◌, Option, Some, None, refl, sym, ◌∙◌, ap, arith, inl, inr, unwrap_or, ◌++◌}
use Rattle.std.specs.Ordering.{nat_cmp}
use Rattle.std.proofs.lemmas.Bool.{ne_eqb, eq-eqb, eqb-true, cases_eq}
use Rattle.std.specs.FinMap as map
use Rattle.std.specs.FinMap.{FinMap}
use Rattle.hic_word.proofs.callers.Holds.{get-inserted, times-append, times-cons, times-here, hit-same, hit-other, get-removed, is_there, there_is}
use Rattle.line_mem.specs.Sound.{one_if, one_if_dead, IsSound}
use Rattle.hic_word.specs.declared.Word.{Word}
use Rattle.hic_word.specs.Lists.{times}
use Rattle.hic_word.specs.Memory.{Memory, line_at, count_at}

-- the number of dead ids at a place after a step of the counts
pub dead_after : (m : FinMap nat_cmp ℕ) (k n q : ℕ) → one_if_dead (map.get (map.insert m k n) q) ≡ cond (eqb q k) (one_if (eqb n 0)) (one_if_dead (map.get m q))
dead_after m k n q = ap one_if_dead (get-inserted m k n q) ∙ go (eqb q k)
  where
    go : (t : Bool) → one_if_dead (cond t (Some n) (map.get m q)) ≡ cond t (one_if (eqb n 0)) (one_if_dead (map.get m q))
    go true = refl
    go false = refl

pub dead_gone : (m : FinMap nat_cmp ℕ) (k q : ℕ) → one_if_dead (map.get (map.remove m k) q) ≡ cond (eqb q k) 0 (one_if_dead (map.get m q))
dead_gone m k q = ap one_if_dead (get-removed m k q) ∙ go (eqb q k)
  where
    go : (t : Bool) → one_if_dead (cond t None (map.get m q)) ≡ cond t 0 (one_if_dead (map.get m q))
    go true = refl
    go false = refl

-- the dead ids after each step
dead_of : (o : Option ℕ) (n : ℕ) → o ≡ Some n → one_if_dead o ≡ one_if (eqb n 0)
dead_of None n e = cc
dead_of (Some k) n e = let same : k ≡ n = cc in ap (λ (x : ℕ). one_if (eqb x 0)) same

positive_one : (n : ℕ) → 1 ≤ n → one_if (eqb n 0) ≡ 0
positive_one n h = ap one_if (ne_eqb n 0 (λ z. omega arith))

pub dead_held : (m r : FinMap nat_cmp ℕ) (k n x q : ℕ) → r ≡ map.insert m k x → map.get m k ≡ Some n → 1 ≤ n → 1 ≤ x → one_if_dead (map.get r q) ≡ one_if_dead (map.get m q)
dead_held m r k n x q e f h j = ap (λ y. one_if_dead (map.get y q)) e ∙ dead_after m k x q ∙ go (eqb q k) refl
  where
    go : (t : Bool) → eqb q k ≡ t → cond t (one_if (eqb x 0)) (one_if_dead (map.get m q)) ≡ one_if_dead (map.get m q)
    go true s = positive_one x j ∙ sym (ap (λ z. one_if_dead (map.get m z)) (eqb-true q k s) ∙ dead_of _ n f ∙ positive_one n h)
    go false s = refl

pub dead_sunk : (m r : FinMap nat_cmp ℕ) (k n : ℕ) (dead : List ℕ) → r ≡ map.insert m k 0 → map.get m k ≡ Some n → 1 ≤ n → ((q : ℕ) → times q dead ≡ one_if_dead (map.get m q)) → (q : ℕ) → times q (dead ++ k ∷ []) ≡ one_if_dead (map.get r q)
dead_sunk m r k n dead e f h d q =
    let a = times-append q dead (k ∷ []) in
    let b = times-cons q k [] in
    let c = d q in
    elim (cases_eq q k) [
      | inl s ↦
          let x : one_if_dead (map.get r q) ≡ 1 = ap (λ y. one_if_dead (map.get y q)) e ∙ dead_after m k 0 q ∙ ap (λ t. cond t 1 (one_if_dead (map.get m q))) (eq-eqb q k s) in
          let y : one_if_dead (map.get m q) ≡ 0 = ap (λ z. one_if_dead (map.get m z)) s ∙ dead_of _ n f ∙ positive_one n h in
          let z = hit-same q k s in
          omega (arith, a, b, c, x, y, z)
      | inr s ↦
          let x : one_if_dead (map.get r q) ≡ one_if_dead (map.get m q) = ap (λ y. one_if_dead (map.get y q)) e ∙ dead_after m k 0 q ∙ ap (λ t. cond t 1 (one_if_dead (map.get m q))) (ne_eqb q k s) in
          let z = hit-other q k s in
          omega (arith, a, b, c, x, z)
    ]

at_most_one : (o : Option ℕ) → one_if_dead o ≤ 1
at_most_one None = omega arith
at_most_one (Some n) = go (eqb n 0)
  where
    go : (t : Bool) → one_if t ≤ 1
    go true = omega arith
    go false = omega arith

pub dead_popped : (m r : FinMap nat_cmp ℕ) (k : ℕ) (dead rest : List ℕ) → r ≡ map.remove m k → dead ≡ rest ++ k ∷ [] → ((q : ℕ) → times q dead ≡ one_if_dead (map.get m q)) → (q : ℕ) → times q rest ≡ one_if_dead (map.get r q)
dead_popped m r k dead rest e f d q =
    let a = times-append q rest (k ∷ []) in
    let b = times-cons q k [] in
    let c = d q in
    let g = ap (times q) f in
    elim (cases_eq q k) [
      | inl s ↦
          let x : one_if_dead (map.get r q) ≡ 0 = ap (λ y. one_if_dead (map.get y q)) e ∙ dead_gone m k q ∙ ap (λ t. cond t 0 (one_if_dead (map.get m q))) (eq-eqb q k s) in
          let y = at_most_one (map.get m q) in
          let z = hit-same q k s in
          omega (arith, a, b, c, g, x, y, z)
      | inr s ↦
          let x : one_if_dead (map.get r q) ≡ one_if_dead (map.get m q) = ap (λ y. one_if_dead (map.get y q)) e ∙ dead_gone m k q ∙ ap (λ t. cond t 0 (one_if_dead (map.get m q))) (ne_eqb q k s) in
          let z = hit-other q k s in
          omega (arith, a, b, c, g, x, z)
    ]

-- an id on the dead list has count 0
is_dead_id : (o : Option ℕ) → 1 ≤ one_if_dead o → o ≡ Some 0
is_dead_id None h = absurd (omega arith)
is_dead_id (Some n) h = elim (cases_eq n 0) [
  | inl z ↦ ap (λ (x : ℕ). Some x) z
  | inr p ↦ absurd (let a = positive_one n (omega arith) in omega arith)
]

pub dead_count : (m : FinMap nat_cmp ℕ) (k : ℕ) (dead rest : List ℕ) → dead ≡ rest ++ k ∷ [] → ((q : ℕ) → times q dead ≡ one_if_dead (map.get m q)) → map.get m k ≡ Some 0
dead_count m k dead rest f d =
    let a = times-append k rest (k ∷ []) in
    let b = times-here k [] in
    let c = d k in
    let g = ap (times k) f in
    is_dead_id (map.get m k) (omega (arith, a, b, c, g))

-- a memory with no dead id has a hold on each line
pub alive : (m : Memory) → IsSound m → m.dead ≡ [] → (id : ℕ) (line : List Word) → line_at m id ≡ Some line → 1 ≤ count_at m id
alive m s e id line h =
    let (n, c) = is_there (map.get m.counts id) (sym (s.keys id) ∙ there_is (map.get m.lines id) line h) in
    let a = s.dead id in
    let b : times id m.dead ≡ 0 = ap (times id) e in
    let f = dead_of (map.get m.counts id) n c in
    let g : count_at m id ≡ n = ap (λ (o : Option ℕ). unwrap_or o 0) c in
    elim (cases_eq n 0) [
      | inl z ↦ absurd (let x : one_if (eqb n 0) ≡ 1 = ap one_if (eq-eqb n 0 z) in omega (arith, a, b, f, x))
      | inr p ↦ omega arith
    ]
