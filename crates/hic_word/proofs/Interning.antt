-- A line that is interned is held in place of its words.
use Rattle.std.proofs.Common.{◌≡◌, ℕ, ◌+◌, ◌-◌, ◌%◌, ◌^◌, ◌<◌, ◌≤◌, Bool, true, false, cond, eqb, List, [], ◌∷◌, ◌++◌, Option, Some, None, refl, sym, ◌∙◌, ap, subst, inl, inr, ◌⊎◌, arith, IsSome}
use Rattle.std.specs.Ordering.{nat_cmp}
use Rattle.std.specs.FinMap as map
use Rattle.std.specs.FinMap.{FinMap}
use Rattle.std.proofs.lemmas.Bool.{eqb-true, eq-eqb, ne_eqb, cases_eq}
use Rattle.std.proofs.lemmas.Option.{none-some}
use Rattle.hic_word.specs.declared.Word.{Word}
use Rattle.hic_word.specs.declared.Kind.TheVariants.{Node}
use Rattle.hic_word.specs.Lists.{times}
use Rattle.hic_word.specs.Entries.{LineValue, Named}
use Rattle.hic_word.specs.Canon.{IsMade}
use Rattle.hic_word.specs.Names.{named_id, names_in}
use Rattle.hic_word.specs.Memory.{Memory, line_at, count_at, live_names}
use Rattle.hic_word.specs.MemorySteps.{with_hold, without_hold, with_less, without_holds, with_line, IsNew}
use Rattle.hic_word.specs.Stands.{EntryFor, IdFor, LineFor, NamedEntry, Unique, node_bits, node_word, word_of}
use Rattle.hic_word.specs.Holds.{Holds}
use Rattle.hic_word.specs.HoldLaws.{InternedLineIsHeld}
use Rattle.hic_word.proofs.Children.{node_id}
use Rattle.hic_word.proofs.Counted.{some_or}
use Rattle.hic_word.proofs.Kept.{IdFor-within, stands_at}
use Rattle.hic_word.proofs.Counting.{hit-same, hit-other, times-cons, names-some, names-append, count-without_hold, get-inserted, inserted_names, live_names_parts, is_there, there_is, count_after}
use Rattle.hic_word.proofs.Freeing.{live_closed, holds_are_given_up}
use Rattle.hic_word.proofs.Holding.{held_later, one_word_more_is_held}
use Rattle.hic_word.proofs.Interned.{at_new, at_others, grown, interned_there, interned_within, new_or_there}

-- the word of an id names it
pub node_names : (id : ℕ) → id < 2 ^ 24 → named_id (node_word id) ≡ Some id
node_names id low = ap (λ (n : ℕ). Some n) (let plain : id ≡ node_bits 0 id [] = omega arith in ap (λ n. n % 2 ^ 24) plain ∙ node_id 0 id [] low)

-- an id that is not live is named by nobody
unnamed : {w : ℕ} (m : Memory) (H : List Word) → Holds w m H → (id : ℕ) → line_at m id ≡ None → times id (live_names m) + times id (names_in H) ≡ 0
unnamed m H h id vacant = elim (cases_eq (times id (live_names m) + times id (names_in H)) 0) [
  | inl z ↦ z
  | inr p ↦ absurd (elim (some_or (times id (live_names m)) (times id (names_in H)) (omega (arith, p))) [
    | inl l ↦ taken (live_closed m H h.balanced id l)
    | inr r ↦ taken (h.named id r)
  ])
]
  where
    taken : IsSome (line_at m id) → ⊥
    taken live = let (x, there) = is_there (line_at m id) live in none-some x (sym vacant ∙ there)

-- a new line is in one place
pub unique_new : (lines : FinMap nat_cmp (List Word)) (k : ℕ) (line : List Word) → Unique (λ q. map.get lines q) → ((q : ℕ) → map.get lines q ≡ Some line → ⊥) → Unique (λ q. map.get (map.insert lines k line) q)
unique_new lines k line unique new i j l e h = go (eqb i k) refl (eqb j k) refl (sym (get-inserted lines k line i) ∙ e) (sym (get-inserted lines k line j) ∙ h)
  where
    go : (s : Bool) → eqb i k ≡ s → (t : Bool) → eqb j k ≡ t → cond s (Some line) (map.get lines i) ≡ Some l → cond t (Some line) (map.get lines j) ≡ Some l → i ≡ j
    go true a true b e h = eqb-true i k a ∙ sym (eqb-true j k b)
    go true a false b e h = let same : line ≡ l = cc in absurd (new j (h ∙ ap (λ (x : List Word). Some x) (sym same)))
    go false a true b e h = let same : line ≡ l = cc in absurd (new i (e ∙ ap (λ (x : List Word). Some x) (sym same)))
    go false a false b e h = unique i j l e h

-- the line is new
module _ (m : Memory) (id : ℕ) (line : List Word) where
  -- a line of the memory with the new one
  which : (q : ℕ) (l : List Word) → line_at (with_line m id line) q ≡ Some l → ((q ≡ id) × (line ≡ l)) ⊎ ((q ≡ id → ⊥) × (line_at m q ≡ Some l))
  which q l h = elim (cases_eq q id) [
    | inl s ↦ inl (s, (let a : ◌≡◌ {A = Option (List Word)} (Some line) (Some l) = sym (ap (λ t. cond t (Some line) (line_at m q)) (eq-eqb q id s)) ∙ sym (get-inserted m.lines id line q) ∙ h in cc))
    | inr s ↦ inr (s, sym (at_others m id line q s) ∙ h)
  ]

  -- counts with the new line
  count_new : (q : ℕ) → q ≡ id → count_at (with_line m id line) q ≡ 1
  count_new q s = count_after m id 1 q ∙ ap (λ t. cond t 1 (count_at m q)) (eq-eqb q id s)

  count_old : (q : ℕ) → (q ≡ id → ⊥) → count_at (with_line m id line) q ≡ count_at m q
  count_old q s = count_after m id 1 q ∙ ap (λ t. cond t 1 (count_at m q)) (ne_eqb q id s)

  module _ (vacant : line_at m id ≡ None) where
    stands_new : {w : ℕ} (L : LineValue) → id < 2 ^ 24 → LineFor w (line_at m) line L → IdFor w (line_at (with_line m id line)) id L
    stands_new L low d = stands_at (line_at m) (line_at (with_line m id line)) line id L (grown m id line vacant) low (at_new m id line) d

    holds_new : {w : ℕ} (H : List Word) (L : LineValue) → id < 2 ^ 24 → IsNew m line → LineFor w (line_at m) line L → IsMade w L → Holds w m (line ++ H) → Holds w (with_line m id line) (node_word id ∷ H)
    holds_new {w} H L low fresh d made h = record {
      balanced = record {
        unique = unique_new m.lines id line h.balanced.unique fresh;
        stands = λ q l there. elim (which q l there) [
          | inl s ↦ (L, subst (λ x. IdFor w (line_at (with_line m id line)) x L) (sym s.0) (stands_new L low d), made)
          | inr s ↦ let (K, i, k) = h.balanced.stands q l s.1 in (K, IdFor-within (line_at m) _ (grown m id line vacant) i, k)
        ];
        no_dead = h.balanced.no_dead;
        used = λ q l there. elim (which q l there) [
          | inl s ↦ let a = count_new q s.0 in omega (arith, a)
          | inr s ↦ let a = count_old q s.0 in let k = h.balanced.used q l s.1 in omega (arith, a, k)
        ];
        counted = λ q l there.
            let n = inserted_names q id line m.lines vacant in
            let p = names-append q line H in
            let r = names-some q id (node_word id) H (node_names id low) in
            elim (which q l there) [
              | inl s ↦
                  let a = count_new q s.0 in
                  let z = unnamed m (line ++ H) h q (ap (line_at m) s.0 ∙ vacant) in
                  let one = hit-same q id s.0 in
                  omega (arith, a, n, p, r, z, one)
              | inr s ↦
                  let a = count_old q s.0 in
                  let k = h.balanced.counted q l s.1 in
                  let one = hit-other q id s.0 in
                  omega (arith, a, n, p, r, k, one)
            ];
      };
      named = λ q n. elim (cases_eq q id) [
        | inl s ↦ there_is (line_at (with_line m id line) q) line (ap (line_at (with_line m id line)) s ∙ at_new m id line)
        | inr s ↦
            let r = names-some q id (node_word id) H (node_names id low) in
            let one = hit-other q id s in
            let p = names-append q line H in
            let (l, there) = is_there (line_at m q) (h.named q (omega (arith, r, one, p, n))) in
            there_is (line_at (with_line m id line) q) l (grown m id line vacant q l there)
      ];
    }

-- holds given up of which each id keeps one make none dead
dead-without_holds : (m : Memory) (ids : List ℕ) → ((q : ℕ) → 1 ≤ times q ids → times q ids < count_at m q) → (without_holds m ids).dead ≡ m.dead
dead-without_holds m [] h = refl
dead-without_holds m (id ∷ ids) h = dead-without_holds (without_hold m id) ids more ∙ go (eqb (count_at m id) 1) refl
  where
    big : times id (id ∷ ids) < count_at m id
    big = h id (let a = times-cons id id ids in let b = hit-same id id refl in omega (arith, a, b))

    go : (t : Bool) → eqb (count_at m id) 1 ≡ t → (with_less t m id (count_at m id - 1)).dead ≡ m.dead
    go true e = absurd (let a = times-cons id id ids in let b = hit-same id id refl in let c = big in let d = eqb-true (count_at m id) 1 e in omega (arith, a, b, c, d))
    go false e = refl

    more : (q : ℕ) → 1 ≤ times q ids → times q ids < count_at (without_hold m id) q
    more q k = elim (cases_eq q id) [
      | inl s ↦
          let a = times-cons q id ids in
          let b = hit-same q id s in
          let c = h q (omega (arith, a, b)) in
          let d = count-without_hold m id q in
          let f : cond (eqb q id) (count_at m id - 1) (count_at m q) ≡ count_at m q - 1 = ap (λ t. cond t (count_at m id - 1) (count_at m q)) (eq-eqb q id s) ∙ ap (λ x. count_at m x - 1) (sym s) in
          omega (arith, a, b, c, d, f)
      | inr s ↦
          let a = times-cons q id ids in
          let b = hit-other q id s in
          let c = h q (omega (arith, a, b, k)) in
          let d = count-without_hold m id q in
          let f : cond (eqb q id) (count_at m id - 1) (count_at m q) ≡ count_at m q = ap (λ t. cond t (count_at m id - 1) (count_at m q)) (ne_eqb q id s) in
          omega (arith, a, b, c, d, f)
    ]

-- the line was there
holds_again : {w : ℕ} (m : Memory) (H : List Word) (id : ℕ) (line : List Word) → id < 2 ^ 24 → line_at m id ≡ Some line → Holds w m (line ++ H) → Holds w (without_holds (with_hold m id) (names_in line)) (node_word id ∷ H)
holds_again {w} m H id line low there h =
    let k = with_hold m id in
    let x = node_word id in
    let named : named_id x ≡ Some id = node_names id low in
    let first : Holds w k (x ∷ (line ++ H)) = (one_word_more_is_held w m (line ++ H) x h (λ j e. let same : id ≡ j = cc in subst (λ i. IsSome (line_at m i)) same (there_is (line_at m id) line there))).some id named in
    let turned : Holds w k (line ++ x ∷ H) = held_later k line x H first in
    let frees = holds_are_given_up w k line (x ∷ H) turned in
    frees.end (without_holds k (names_in line)) (frees.words k line frees.start)
    (dead-without_holds k (names_in line) (λ q n.
    let (l, here) = is_there (line_at k q) (turned.named q (let a = names-append q line (x ∷ H) in omega (arith, a, n))) in
    let c = turned.balanced.counted q l here in
    let p = live_names_parts k id line q there in
    let a = names-append q line (x ∷ H) in
    omega (arith, a, c, p, n)) ∙ turned.balanced.no_dead)

-- what an interned line stands for
entry_for : {w : ℕ} (m : Memory) (id : ℕ) (L : LineValue) → IdFor w (line_at m) id L → EntryFor w (line_at m) (node_word id) (Named L [])
entry_for {w} m id L i = NamedEntry {p = []} i (ap (λ (n : ℕ). word_of Node 0 n) (let plain : id ≡ node_bits w id [] = omega arith in plain))

pub interned_line_is_held : InternedLineIsHeld
interned_line_is_held w old new H line L id low h d made i =
    let there = interned_there old new line id i in
    let within = interned_within old new line id i in
    record {
      holds = elim (new_or_there old new line id i) [
        | inl (vacant, fresh, e) ↦ subst (λ m. Holds w m (node_word id ∷ H)) (sym e) (holds_new old id line vacant H L low fresh d made h)
        | inr (known, e) ↦ subst (λ m. Holds w m (node_word id ∷ H)) (sym e) (holds_again old H id line low known h)
      ];
      within = within;
      there = there;
      stands = entry_for new id L (stands_at (line_at old) (line_at new) line id L within low there d);
    }
