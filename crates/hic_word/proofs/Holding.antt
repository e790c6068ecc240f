-- What a memory holds, one word more, and other words with the same names.
use Rattle.std.proofs.Common.{◌≡◌, ℕ, ◌+◌, ◌≤◌, Bool, true, false, cond, eqb, List, [], ◌∷◌, ◌++◌, Some, refl, sym, ◌∙◌, ap, subst, inl, inr, arith, IsSome}
use Rattle.std.specs.Ordering.{nat_cmp}
use Rattle.std.specs.FinMap as map
use Rattle.std.proofs.lemmas.Bool.{cases_eq}
use Rattle.std.proofs.lemmas.Bool.Decides.{nat_tests}
use Rattle.std.proofs.lemmas.Option.{none-some}
use Rattle.hic_word.specs.declared.Word.{Word}
use Rattle.hic_word.specs.Lists.{times}
use Rattle.hic_word.specs.Entries.{LineValue}
use Rattle.hic_word.specs.Names.{Names, named_id, names_in}
use Rattle.hic_word.specs.Memory.{Layout, Memory, line_at, count_at, live_names}
use Rattle.hic_word.specs.MemorySteps.{empty_memory, with_hold}
use Rattle.hic_word.specs.Stands.{IdFor, Lookup}
use Rattle.hic_word.specs.Standing.{IsStanding, StandEach}
use Rattle.hic_word.specs.Holds.{Holds}
use Rattle.hic_word.specs.HoldLaws.{EmptyMemoryHoldsNothing, HeldWordsAreCounted, HoldingIsByCounts, OneWordMoreIsHeld, StandingWordsAreHeld, StandingWordsAreLive}
use Rattle.hic_word.proofs.Bounded.{balance_is_by_counts}
use Rattle.hic_word.proofs.Children.{id_in_entry, id_in_word}
use Rattle.hic_word.proofs.Counted.{counted_name}
use Rattle.hic_word.proofs.Counting.{count_after, hit-other, is_there, names-append, names-cons, names-none, names-some, there_is}
use Rattle.hic_word.proofs.Tells.{line_of}

-- an id that stands for a line value has a line
pub id_live : {w : ℕ} {m : Lookup} {id : ℕ} {L : LineValue} → IdFor w m id L → IsSome (m id)
id_live {m = m} {id = id} i = let (line, e) = line_of i in there_is (m id) line e

name_live : {w : ℕ} (m : Lookup) (x : Word) (j : ℕ) → IsStanding w m x → named_id x ≡ Some j → IsSome (m j)
name_live m x j (inl (v, s)) n = let (L, i, k) = id_in_word j s n in id_live i
name_live m x j (inr (e, s)) n = let (L, i, k) = id_in_entry j s n in id_live i

names_live : (w : ℕ) (m : Lookup) (H : List Word) (j : ℕ) → StandEach w m H → Names j H → IsSome (m j)
names_live w m [] j s n = absurd n
names_live w m (x ∷ H) j s (inl e) = name_live m x j s.0 e
names_live w m (x ∷ H) j s (inr n) = names_live w m H j s.1 n

pub standing_words_are_live : StandingWordsAreLive
standing_words_are_live w m x s id n = name_live (line_at m) x id s n

pub standing_words_are_held : StandingWordsAreHeld
standing_words_are_held w m H b s = record {
  balanced = b;
  named = λ id h. names_live w (line_at m) H id s (counted_name id H h);
}

pub holding_is_by_counts : HoldingIsByCounts
holding_is_by_counts w m H K same h = record {
  balanced = balance_is_by_counts w m H K same h.balanced;
  named = λ id n. h.named id (let a = same id in omega (arith, a, n));
}

-- a word is held in front of others or after them
names_moved : (j : ℕ) (xs : List Word) (x : Word) (H : List Word) → times j (names_in (x ∷ xs ++ H)) ≡ times j (names_in (xs ++ x ∷ H))
names_moved j xs x H =
    let a = names-append j xs (x ∷ H) in
    let b = names-cons j x H in
    let c = names-cons j x (xs ++ H) in
    let d = names-append j xs H in
    omega (arith, a, b, c, d)

pub held_first : {w : ℕ} (m : Memory) (xs : List Word) (x : Word) (H : List Word) → Holds w m (xs ++ x ∷ H) → Holds w m (x ∷ xs ++ H)
held_first {w} m xs x H h = holding_is_by_counts w m (xs ++ x ∷ H) (x ∷ xs ++ H) (λ j. sym (names_moved j xs x H)) h

pub held_later : {w : ℕ} (m : Memory) (xs : List Word) (x : Word) (H : List Word) → Holds w m (x ∷ xs ++ H) → Holds w m (xs ++ x ∷ H)
held_later {w} m xs x H h = holding_is_by_counts w m (x ∷ xs ++ H) (xs ++ x ∷ H) (λ j. names_moved j xs x H) h

-- an empty memory has no line
no_line : (layout : Layout) (id : ℕ) (line : List Word) → line_at (empty_memory layout) id ≡ Some line → ⊥
no_line layout id line e = none-some line (sym (map.get-empty nat_cmp id) ∙ e)

pub empty_memory_holds_nothing : EmptyMemoryHoldsNothing
empty_memory_holds_nothing w layout = record {
  balanced = record {
    unique = λ i j l e f. absurd (no_line layout i l e);
    stands = λ id l e. absurd (no_line layout id l e);
    no_dead = refl;
    used = λ id l e. absurd (no_line layout id l e);
    counted = λ id l e. absurd (no_line layout id l e);
  };
  named = λ id h. absurd (let a : times id [] ≡ 0 = refl in omega (arith, a, h));
}

-- the count of an id and those of the others after one hold more
count_with_hold : (q id there here live named : ℕ) → (q ≡ id → there ≡ here) → here ≡ live + named → cond (eqb q id) (there + 1) here ≡ live + (cond (eqb q id) 1 0 + named)
count_with_hold q id there here live named f e = grind (arith, nat_tests)

holds_some : {w : ℕ} (m : Memory) (H : List Word) (x : Word) (id : ℕ) → Holds w m H → IsSome (line_at m id) → named_id x ≡ Some id → Holds w (with_hold m id) (x ∷ H)
holds_some m H x id h live e = record {
  balanced = record {
    unique = h.balanced.unique;
    stands = h.balanced.stands;
    no_dead = h.balanced.no_dead;
    used = λ q line there. subst (λ n. 1 ≤ n) (sym (count_after m id (count_at m id + 1) q)) (go q (eqb q id) (h.balanced.used q line there));
    counted = λ q line there. count_after m id (count_at m id + 1) q
        ∙ count_with_hold q id (count_at m id) (count_at m q) (times q (live_names m)) (times q (names_in H)) (λ same. ap (count_at m) (sym same)) (h.balanced.counted q line there)
        ∙ ap (λ n. times q (live_names m) + n) (sym (names-some q id x H e));
  };
  named = λ q n. elim (cases_eq q id) [
    | inl same ↦ subst (λ j. IsSome (line_at m j)) (sym same) live
    | inr other ↦ h.named q (let a = names-some q id x H e in let z = hit-other q id other in omega (arith, a, z, n))
  ];
}
  where
    go : (q : ℕ) (t : Bool) → 1 ≤ count_at m q → 1 ≤ cond t (count_at m id + 1) (count_at m q)
    go q true h = omega arith
    go q false h = h

pub one_word_more_is_held : OneWordMoreIsHeld
one_word_more_is_held w m H x h live = record {
  some = λ id e. holds_some m H x id h (live id e) e;
  none = λ e. holding_is_by_counts w m H (x ∷ H) (λ q. sym (names-none q x H e)) h;
}

pub held_words_are_counted : HeldWordsAreCounted
held_words_are_counted w m P H h id = elim (cases_eq (times id (names_in P)) 0) [
  | inl z ↦ omega (arith, z)
  | inr p ↦
      let a = names-append id P H in
      let (line, there) = is_there (line_at m id) (h.named id (omega (arith, a, p))) in
      let c = h.balanced.counted id line there in
      omega (arith, a, c)
]
