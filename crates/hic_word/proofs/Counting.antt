-- How often ids are named, and what steps of a memory do to counts.
use Rattle.std.proofs.Common.{◌≡◌, ℕ, ◌+◌, ◌-◌, ◌≤◌, Bool, true, false, cond, eqb, List, [], ◌∷◌, ◌++◌, Option, Some, None, refl, sym, ◌∙◌, ap, inl, inr, arith, unwrap_or, IsSome}
use Rattle.std.specs.Prelude.{◌==◌, is_some, option_to_list}
use Rattle.std.specs.Ordering.{nat_cmp, eq_by_cmp, is_eq}
use Rattle.std.specs.Cmp.{nat_cmp_total}
use Rattle.std.specs.declared.cmp.Ordering.{Ordering}
use Rattle.std.specs.declared.cmp.Ordering.TheVariants.{Less, Equal, Greater}
use Rattle.std.specs.FinMap as map
use Rattle.std.specs.FinMap.{FinMap, nat_cmp-IsAntisymmetric}
use Rattle.std.specs.FinMap.Entries as entries_of
use Rattle.std.proofs.lemmas.Bool.{eqb-true, eq-eqb, ne_eqb}
use Rattle.std.proofs.lemmas.Bool.Decides.{nat_tests}
use Rattle.std.proofs.lemmas.List.Sums.{sum_by-cons, sum_by-append}
use Rattle.hic_word.specs.declared.Word.{Word}
use Rattle.hic_word.specs.Lists.{times}
use Rattle.hic_word.specs.Names.{Names, named_id, names_in}
use Rattle.hic_word.specs.Memory.{Memory, count_at, line_at, live_names, names_of}
use Rattle.hic_word.specs.MemorySteps.{with_count, with_less, without_hold, without_line}
use Rattle.hic_word.proofs.Keys.{tied}

pub get-inserted : {X : Type 0} (m : FinMap nat_cmp X) (k : ℕ) (v : X) (q : ℕ) → map.get (map.insert m k v) q ≡ cond (eqb q k) (Some v) (map.get m q)
get-inserted m k v q = map.get-insert nat_cmp_total m k v q ∙ ap (λ b. cond b (Some v) (map.get m q)) (tied q k)

pub get-removed : {X : Type 0} (m : FinMap nat_cmp X) (k q : ℕ) → map.get (map.remove m k) q ≡ cond (eqb q k) None (map.get m q)
get-removed m k q = map.get-remove nat_cmp_total m k q ∙ ap (λ b. cond b None (map.get m q)) (tied q k)

pub times-append : (j : ℕ) (xs ys : List ℕ) → times j (xs ++ ys) ≡ times j xs + times j ys
times-append j xs ys = sum_by-append (λ x. cond (x == j) 1 0) xs ys

one_of : (id j : ℕ) → ◌≡◌ {A = ℕ} (cond (id == j) 1 0) (cond (eqb j id) 1 0)
one_of id j = grind (arith, nat_tests)

-- 1 at the id, 0 elsewhere
abbrev pub hit : ℕ → ℕ → ℕ
hit j id = cond (eqb j id) 1 0

pub hit-same : (j id : ℕ) → j ≡ id → hit j id ≡ 1
hit-same j id e = ap (λ (t : Bool). cond {A = ℕ} t 1 0) (eq-eqb j id e)

pub hit-other : (j id : ℕ) → (j ≡ id → ⊥) → hit j id ≡ 0
hit-other j id n = ap (λ (t : Bool). cond {A = ℕ} t 1 0) (ne_eqb j id n)

pub times-cons : (j id : ℕ) (ns : List ℕ) → times j (id ∷ ns) ≡ cond (eqb j id) 1 0 + times j ns
times-cons j id ns = sum_by-cons (λ x. cond (x == j) 1 0) id ns ∙ ap (λ n. n + times j ns) (one_of id j)

-- an id that is there is counted
pub times-here : (j : ℕ) (ns : List ℕ) → 1 ≤ times j (j ∷ ns)
times-here j ns = let a = times-cons j j ns in let b = hit-same j j refl in omega (arith, a, b)

pub times-later : (j id : ℕ) (ns : List ℕ) → times j ns ≤ times j (id ∷ ns)
times-later j id ns = let a = times-cons j id ns in omega (arith, a)

pub times-other : (j id : ℕ) (ns : List ℕ) → (j ≡ id → ⊥) → times j (id ∷ ns) ≡ times j ns
times-other j id ns n = let a = times-cons j id ns in let b = hit-other j id n in omega (arith, a, b)

pub names-cons : (j : ℕ) (w : Word) (H : List Word) → times j (names_in (w ∷ H)) ≡ times j (option_to_list (named_id w)) + times j (names_in H)
names-cons j w H = times-append j (option_to_list (named_id w)) (names_in H)

pub names-append : (j : ℕ) (P H : List Word) → times j (names_in (P ++ H)) ≡ times j (names_in P) + times j (names_in H)
names-append j [] H = let a : times j [] ≡ 0 = refl in omega (arith, a)
names-append j (w ∷ P) H =
    let a = names-cons j w (P ++ H) in
    let b = names-cons j w P in
    let c = names-append j P H in
    omega (arith, a, b, c)

pub names-some : (j id : ℕ) (w : Word) (H : List Word) → named_id w ≡ Some id → times j (names_in (w ∷ H)) ≡ cond (eqb j id) 1 0 + times j (names_in H)
names-some j id w H e = ap (λ (o : Option ℕ). times j (option_to_list o ++ names_in H)) e ∙ times-cons j id (names_in H)

pub names-none : (j : ℕ) (w : Word) (H : List Word) → named_id w ≡ None → times j (names_in (w ∷ H)) ≡ times j (names_in H)
names-none j w H e = ap (λ (o : Option ℕ). times j (option_to_list o ++ names_in H)) e

-- a word that names an id counts it
pub names_counted : (j : ℕ) (xs : List Word) → Names j xs → 1 ≤ times j (names_in xs)
names_counted j [] h = absurd h
names_counted j (x ∷ xs) (inl e) =
    let a = names-some j j x xs e in
    let b = hit-same j j refl in
    omega (arith, a, b)
names_counted j (x ∷ xs) (inr h) =
    let a = names-cons j x xs in
    let b = names_counted j xs h in
    omega (arith, a, b)

swap : (a b c n m : ℕ) → n ≡ a + m → m ≡ b + c → n ≡ b + (a + c)
swap a b c n m e f = omega arith

found_none : (k : ℕ) (t : Bool) (v : List Word) (o : Option (List Word)) → cond t (Some v) o ≡ None → (t ≡ false) × (o ≡ None)
found_none k true v o h = cc
found_none k false v o h = (refl, h)

pub put_names : (j k : ℕ) (v : List Word) (es : List (ℕ × List Word)) → map.find nat_cmp k es ≡ None → times j (names_of (map.put nat_cmp k v es)) ≡ times j (names_in v) + times j (names_of es)
put_names j k v [] h = times-append j (names_in v) []
put_names j k v (e ∷ es) h =
    let (miss, rest) = found_none k (eq_by_cmp nat_cmp k e.0) e.1 (map.find nat_cmp k es) h in
    go (nat_cmp k e.0) refl miss (put_names j k v es rest)
  where
    go : (o : Ordering) → nat_cmp k e.0 ≡ o → eq_by_cmp nat_cmp k e.0 ≡ false → times j (names_of (map.put nat_cmp k v es)) ≡ times j (names_in v) + times j (names_of es)
        → times j (names_of (entries_of.by_order o ((k, v) ∷ e ∷ es) ((e.0, v) ∷ es) (e ∷ map.put nat_cmp k v es))) ≡ times j (names_in v) + times j (names_of (e ∷ es))
    go Less f miss again = times-append j (names_in v) (names_of (e ∷ es))
    go Equal f miss again = absurd (let a : is_eq (nat_cmp k e.0) ≡ true = ap is_eq f in let b : true ≡ false = sym a ∙ miss in cc)
    go Greater f miss again = swap (times j (names_in e.1)) (times j (names_in v)) (times j (names_of es)) _ _ (times-append j (names_in e.1) (names_of (map.put nat_cmp k v es))) again
        ∙ ap (λ n. times j (names_in v) + n) (sym (times-append j (names_in e.1) (names_of es)))

-- the names in the lines after a new line
pub inserted_names : (j k : ℕ) (v : List Word) (m : FinMap nat_cmp (List Word)) → map.get m k ≡ None
    → times j (names_of (map.entries (map.insert m k v))) ≡ times j (names_in v) + times j (names_of (map.entries m))
inserted_names j k v m h =
    ap (λ es. times j (names_of es)) (map.entries-insert nat_cmp_total m k v)
    ∙ put_names j k v (map.entries m) (sym (map.get-entries m k) ∙ h)

back : (m : FinMap nat_cmp (List Word)) (k : ℕ) (v : List Word) → map.get m k ≡ Some v → map.insert (map.remove m k) k v ≡ m
back m k v h = map.same_map nat_cmp_total nat_cmp-IsAntisymmetric _ _ (λ q. get-inserted (map.remove m k) k v q ∙ ap (λ o. cond (eqb q k) (Some v) o) (get-removed m k q) ∙ go q (eqb q k) refl)
  where
    go : (q : ℕ) (t : Bool) → eqb q k ≡ t → cond t (Some v) (cond t None (map.get m q)) ≡ map.get m q
    go q true e = sym (ap (map.get m) (eqb-true q k e) ∙ h)
    go q false e = refl

-- and after a line is gone
pub removed_names : (j k : ℕ) (v : List Word) (m : FinMap nat_cmp (List Word)) → map.get m k ≡ Some v
    → times j (names_of (map.entries m)) ≡ times j (names_in v) + times j (names_of (map.entries (map.remove m k)))
removed_names j k v m h =
    ap (λ n. times j (names_of (map.entries n))) (sym (back m k v h))
    ∙ inserted_names j k v (map.remove m k) (get-removed m k k ∙ ap (λ t. cond t None (map.get m k)) (eq-eqb k k refl))

pub live_names_parts : (m : Memory) (k : ℕ) (v : List Word) (j : ℕ) → line_at m k ≡ Some v → times j (live_names m) ≡ times j (names_in v) + times j (names_of (map.entries (map.remove m.lines k)))
live_names_parts m k v j h = removed_names j k v m.lines h

-- what a live line names is counted
pub live_counted : (m : Memory) (k j : ℕ) (v : List Word) → line_at m k ≡ Some v → Names j v → 1 ≤ times j (live_names m)
live_counted m k j v h n = let a = live_names_parts m k v j h in let b = names_counted j v n in omega (arith, a, b)

-- counts after a step
pub count_after : (m : Memory) (id n q : ℕ) → count_at (with_count m id n) q ≡ cond (eqb q id) n (count_at m q)
count_after m id n q = ap (λ (o : Option ℕ). unwrap_or o 0) (get-inserted m.counts id n q) ∙ go (eqb q id)
  where
    go : (b : Bool) → unwrap_or (cond b (Some n) (map.get m.counts q)) 0 ≡ cond b n (unwrap_or (map.get m.counts q) 0)
    go true = refl
    go false = refl

pub count_without : (m : Memory) (id : ℕ) (dead : List ℕ) (q : ℕ) → count_at (without_line m id dead) q ≡ cond (eqb q id) 0 (count_at m q)
count_without m id dead q = ap (λ (o : Option ℕ). unwrap_or o 0) (get-removed m.counts id q) ∙ go (eqb q id)
  where
    go : (b : Bool) → unwrap_or (cond b None (map.get m.counts q)) 0 ≡ cond b 0 (unwrap_or (map.get m.counts q) 0)
    go true = refl
    go false = refl

-- the count of an id and those of the others after one hold less
pub count-without_hold : (m : Memory) (id q : ℕ) → count_at (without_hold m id) q ≡ cond (eqb q id) (count_at m id - 1) (count_at m q)
count-without_hold m id q = go (eqb (count_at m id) 1)
  where
    go : (t : Bool) → count_at (with_less t m id (count_at m id - 1)) q ≡ cond (eqb q id) (count_at m id - 1) (count_at m q)
    go true = count_after m id (count_at m id - 1) q
    go false = count_after m id (count_at m id - 1) q

-- an id without a line has no count, if the ids with a line are those with a count
pub count_none : (m : Memory) (id : ℕ) → is_some (line_at m id) ≡ is_some (map.get m.counts id) → line_at m id ≡ None → count_at m id ≡ 0
count_none m id keys e = go (map.get m.counts id) (sym keys ∙ ap is_some e)
  where
    go : (o : Option ℕ) → is_some o ≡ false → unwrap_or o 0 ≡ 0
    go None f = refl
    go (Some n) f = cc

pub is_there : {X : Type 0} (o : Option X) → IsSome o → (x : X) × (o ≡ Some x)
is_there None h = cc
is_there (Some x) h = (x, refl)

pub there_is : {X : Type 0} (o : Option X) (x : X) → o ≡ Some x → IsSome o
there_is o x e = cc
