-- The entries of the links that are not marked, with one link written.
use Rattle.std.proofs.Common.{◌≡◌, ℕ, zero, suc, ◌+◌, ◌<◌, ◌≤◌, Bool, true, false, cond, List, [], ◌∷◌, ◌++◌, set, Option, Some, None, refl, ap, ◌∙◌, arith, inl, inr}
use Rattle.std.specs.Prelude.{count_by, slice_get, replicate, ◌==◌}
use Rattle.std.proofs.lemmas.Bool.{cases_Bool, eq-eqb, ne_eqb}
use Rattle.line_slots.specs.declared.chains.Link.{Link}
use Rattle.line_slots.specs.declared.entry.Entry.{Entry}
use Rattle.line_slots.specs.ChainLinks.{linked_from, no_link, unlinked}
use Rattle.line_slots.proofs.Counts.{count-cons, one, one-true, one-false}

-- the link of a slot in no chain
abbrev pub unused : Link
unused = record { next = unlinked; key = 0 }

abbrev pub is_marked : Link → Bool
is_marked link = link.next == unlinked

-- 1 where a link is not marked and its entry passes a test
abbrev pub one_at : (Entry → Bool) → ℕ → Link → ℕ
one_at test slot link = cond {A = ℕ} (is_marked link) 0 (one (test (record { slot = slot; key = link.key })))

-- 1 where there is a link that is not marked
abbrev pub one_if : Option Link → ℕ
one_if None = 0
one_if (Some link) = cond {A = ℕ} (is_marked link) 0 1

pub count-linked : (test : Entry → Bool) (k : ℕ) (l : Link) (ls : List Link) → count_by test (linked_from k (l ∷ ls)) ≡ one_at test k l + count_by test (linked_from (k + 1) ls)
count-linked test k l ls = elim (cases_Bool (is_marked l)) [
  | inl m ↦
      let a = ap (λ t. count_by test (cond t (linked_from (k + 1) ls) (record { slot = k; key = l.key } ∷ linked_from (k + 1) ls))) m in
      let b = ap (λ (t : Bool). cond {A = ℕ} t 0 (one (test (record { slot = k; key = l.key })))) m in
      omega (arith, a, b)
  | inr m ↦
      let a = ap (λ t. count_by test (cond t (linked_from (k + 1) ls) (record { slot = k; key = l.key } ∷ linked_from (k + 1) ls))) m in
      let b = ap (λ (t : Bool). cond {A = ℕ} t 0 (one (test (record { slot = k; key = l.key })))) m in
      let c = count-cons test (record { slot = k; key = l.key }) (linked_from (k + 1) ls) in
      omega (arith, a, b, c)
]

pub count-written : (test : Entry → Bool) (k s t : ℕ) (ls : List Link) (old new : Link) → t ≡ k + s → slice_get ls s ≡ Some old → count_by test (linked_from k (set ls s new)) + one_at test t old ≡ count_by test (linked_from k ls) + one_at test t new
count-written test k s t [] old new e g = absurd (let a : ◌≡◌ {A = Option Link} None (Some old) = g in cc)
count-written test k zero t (l ∷ ls) old new e g =
    let same : l ≡ old = some_same l old g in
    let here : t ≡ k = omega (arith, e) in
    let a = count-linked test k l ls in
    let b = count-linked test k new ls in
    let c = ap (λ (n : ℕ). one_at test n old) here in
    let d = ap (λ (n : ℕ). one_at test n new) here in
    let f = ap (λ (x : Link). one_at test k x) same in
    omega (arith, a, b, c, d, f)
  where
    some_same : (x y : Link) → ◌≡◌ {A = Option Link} (Some x) (Some y) → x ≡ y
    some_same x y f = cc
count-written test k (suc s) t (l ∷ ls) old new e g =
    let a = count-linked test k l ls in
    let b = count-linked test k l (set ls s new) in
    let c = count-written test (k + 1) s t ls old new (omega (arith, e)) g in
    omega (arith, a, b, c)

-- no entry has a slot before the first link
none_before : (s k : ℕ) (ls : List Link) → s < k → count_by (λ (x : Entry). x.slot == s) (linked_from k ls) ≡ 0
none_before s k [] h = refl
none_before s k (l ∷ ls) h =
    let a = count-linked (λ (x : Entry). x.slot == s) k l ls in
    let b = none_before s (k + 1) ls (omega arith) in
    let c = one_other (λ (x : Entry). x.slot == s) k l (ne_eqb k s (λ f. omega arith)) in
    omega (arith, a, b, c)
  where
    one_other : (test : Entry → Bool) (k : ℕ) (l : Link) → test (record { slot = k; key = l.key }) ≡ false → one_at test k l ≡ 0
    one_other test k l f = elim (cases_Bool (is_marked l)) [
      | inl m ↦ ap (λ (t : Bool). cond {A = ℕ} t 0 (one (test (record { slot = k; key = l.key })))) m
      | inr m ↦ ap (λ (t : Bool). cond {A = ℕ} t 0 (one (test (record { slot = k; key = l.key })))) m ∙ one-false _ f
    ]

-- a slot has one entry at most, and one where its link is not marked
pub count-slot : (k s t : ℕ) (ls : List Link) → t ≡ k + s → count_by (λ (x : Entry). x.slot == t) (linked_from k ls) ≡ one_if (slice_get ls s)
count-slot k s t [] e = refl
count-slot k zero t (l ∷ ls) e =
    let a = count-linked (λ (x : Entry). x.slot == t) k l ls in
    let b = none_before t (k + 1) ls (omega (arith, e)) in
    let c : one (k == t) ≡ 1 = one-true (k == t) (eq-eqb k t (omega (arith, e))) in
    let d = ap (λ (n : ℕ). cond {A = ℕ} (is_marked l) 0 n) c in
    omega (arith, a, b, d)
count-slot k (suc s) t (l ∷ ls) e =
    let a = count-linked (λ (x : Entry). x.slot == t) k l ls in
    let b = count-slot (k + 1) s t ls (omega (arith, e)) in
    let c : one (k == t) ≡ 0 = one-false (k == t) (ne_eqb k t (λ f. omega (arith, e, f))) in
    let d = ap (λ (n : ℕ). cond {A = ℕ} (is_marked l) 0 n) c in
    let f = never (is_marked l) in
    omega (arith, a, b, d, f)
  where
    never : (t : Bool) → cond {A = ℕ} t 0 0 ≡ 0
    never true = refl
    never false = refl

pub one_link : (o : Option Link) → one_if o ≤ 1
one_link None = omega arith
one_link (Some l) = elim (cases_Bool (is_marked l)) [
  | inl m ↦ let a = ap (λ (t : Bool). cond {A = ℕ} t 0 1) m in omega (arith, a)
  | inr m ↦ let a = ap (λ (t : Bool). cond {A = ℕ} t 0 1) m in omega (arith, a)
]

-- what a marked link counts for, and one that is not
pub one_marked : (test : Entry → Bool) (t : ℕ) (l : Link) → one_if (Some l) ≡ 0 → one_at test t l ≡ 0
one_marked test t l h = elim (cases_Bool (is_marked l)) [
  | inl m ↦ ap (λ (b : Bool). cond {A = ℕ} b 0 (one (test (record { slot = t; key = l.key })))) m
  | inr m ↦ absurd (let a = ap (λ (b : Bool). cond {A = ℕ} b 0 1) m in omega (arith, a, h))
]

pub one_unmarked : (test : Entry → Bool) (t : ℕ) (l : Link) → 1 ≤ one_if (Some l) → one_at test t l ≡ one (test (record { slot = t; key = l.key }))
one_unmarked test t l h = elim (cases_Bool (is_marked l)) [
  | inl m ↦ absurd (let a = ap (λ (b : Bool). cond {A = ℕ} b 0 1) m in omega (arith, a, h))
  | inr m ↦ ap (λ (b : Bool). cond {A = ℕ} b 0 (one (test (record { slot = t; key = l.key })))) m
]

pub not_marked : (l : Link) → l.next ≤ no_link → 1 ≤ one_if (Some l)
not_marked l h = let a = ap (λ (b : Bool). cond {A = ℕ} b 0 1) (ne_eqb l.next unlinked (λ e. omega (arith, e, h))) in omega (arith, a)

-- marked links behind the others tell of no entry
pub longer_linked : (k n : ℕ) (ls : List Link) → linked_from k (ls ++ replicate n unused) ≡ linked_from k ls
longer_linked k zero [] = refl
longer_linked k (suc n) [] = longer_linked (k + 1) n []
longer_linked k n (l ∷ ls) = ap (λ es. cond (is_marked l) es (record { slot = k; key = l.key } ∷ es)) (longer_linked (k + 1) n ls)
