-- What an intern leaves: the id has the line, no other id's line changes, so no line is lost; the layout stays, and no count rises by more than one.
use Rattle.std.proofs.Common.{◌≡◌, ℕ, ◌+◌, ◌-◌, ◌≤◌, Bool, true, false, cond, eqb, List, [], ◌∷◌, Option, Some, None, refl, sym, ◌∙◌, ap, subst, inl, inr, ◌⊎◌, arith}
use Rattle.std.specs.FinMap as map
use Rattle.std.specs.Prelude.{MatchOption}
use Rattle.std.proofs.lemmas.Bool.{eq-eqb, ne_eqb}
use Rattle.std.proofs.lemmas.Bool.Decides.{nat_tests}
use Rattle.std.proofs.lemmas.Option.{none-some}
use Rattle.hic_word.specs.declared.Word.{Word}
use Rattle.hic_word.specs.Names.{names_in}
use Rattle.hic_word.specs.Memory.{Memory, line_at, count_at}
use Rattle.hic_word.specs.MemorySteps.{Interns, IsNew, with_hold, with_less, with_line, without_hold, without_holds}
use Rattle.hic_word.specs.Standing.{IsWithin}
use Rattle.hic_word.proofs.Counting.{count_after, count-without_hold, get-inserted}
use Rattle.hic_word.proofs.Freeing.{lines-without_holds}

-- a memory with a new line
module _ (m : Memory) (id : ℕ) (line : List Word) where
  pub at_new : line_at (with_line m id line) id ≡ Some line
  at_new = get-inserted m.lines id line id ∙ ap (λ t. cond t (Some line) (line_at m id)) (eq-eqb id id refl)

  pub at_others : (q : ℕ) → (q ≡ id → ⊥) → line_at (with_line m id line) q ≡ line_at m q
  at_others q other = get-inserted m.lines id line q ∙ ap (λ t. cond t (Some line) (line_at m q)) (ne_eqb q id other)

  pub grown : line_at m id ≡ None → IsWithin (line_at m) (line_at (with_line m id line))
  grown vacant q l at = at_others q (λ same. none-some l (sym vacant ∙ ap (line_at m) (sym same) ∙ at)) ∙ at

-- holds that are given up leave the layout
layout-without_holds : (m : Memory) (ids : List ℕ) → (without_holds m ids).layout ≡ m.layout
layout-without_holds m [] = refl
layout-without_holds m (id ∷ ids) = layout-without_holds (without_hold m id) ids ∙ go (eqb (count_at m id) 1)
  where
    go : (t : Bool) → (with_less t m id (count_at m id - 1)).layout ≡ m.layout
    go true = refl
    go false = refl

-- no step raises a count by more than one
at_most : (q id there here most : ℕ) → (q ≡ id → there ≤ most) → here ≤ most → cond (eqb q id) there here ≤ most
at_most q id there here most f h = grind (arith, nat_tests)

pub hold_raises : (m : Memory) (id q : ℕ) → count_at (with_hold m id) q ≤ count_at m q + 1
hold_raises m id q =
    let a = count_after m id (count_at m id + 1) q in
    let b = at_most q id (count_at m id + 1) (count_at m q) (count_at m q + 1) (λ e. let same = ap (count_at m) e in omega (arith, same)) (omega arith) in
    omega (arith, a, b)

line_raises : (m : Memory) (id q : ℕ) (line : List Word) → count_at (with_line m id line) q ≤ count_at m q + 1
line_raises m id q line =
    let a : count_at (with_line m id line) q ≡ cond (eqb q id) 1 (count_at m q) = count_after m id 1 q in
    let b = at_most q id 1 (count_at m q) (count_at m q + 1) (λ e. omega arith) (omega arith) in
    omega (arith, a, b)

none_raises : (m : Memory) (ids : List ℕ) (q : ℕ) → count_at (without_holds m ids) q ≤ count_at m q
none_raises m [] q = omega arith
none_raises m (id ∷ ids) q =
    let a = none_raises (without_hold m id) ids q in
    let b = count-without_hold m id q in
    let c = at_most q id (count_at m id - 1) (count_at m q) (count_at m q) (λ e. let same = ap (count_at m) e in omega (arith, same)) (omega arith) in
    omega (arith, a, b, c)

-- the line was new, or the id had it
pub new_or_there : (old new : Memory) (line : List Word) (id : ℕ) → Interns old line id new
    → ((line_at old id ≡ None) × IsNew old line × (new ≡ with_line old id line)) ⊎ ((line_at old id ≡ Some line) × (new ≡ without_holds (with_hold old id) (names_in line)))
new_or_there old new line id i = go (line_at old id) refl i
  where
    go : (o : Option (List Word)) → line_at old id ≡ o → MatchOption o (IsNew old line × (new ≡ with_line old id line)) (λ there. (there ≡ line) × (new ≡ without_holds (with_hold old id) (names_in line)))
        → ((line_at old id ≡ None) × IsNew old line × (new ≡ with_line old id line)) ⊎ ((line_at old id ≡ Some line) × (new ≡ without_holds (with_hold old id) (names_in line)))
    go None vacant i = inl (vacant, i.0, i.1)
    go (Some there) e i = inr (e ∙ ap (λ (l : List Word). Some l) i.0, i.1)

module _ (old new : Memory) (line : List Word) (id : ℕ) (i : Interns old line id new) where
  same_lines : new ≡ without_holds (with_hold old id) (names_in line) → (q : ℕ) → line_at new q ≡ line_at old q
  same_lines e q = ap (λ (m : Memory). line_at m q) e ∙ ap (λ x. map.get x q) (lines-without_holds (with_hold old id) (names_in line))

  pub interned_there : line_at new id ≡ Some line
  interned_there = elim (new_or_there old new line id i) [
    | inl (vacant, fresh, e) ↦ ap (λ (m : Memory). line_at m id) e ∙ at_new old id line
    | inr (there, e) ↦ same_lines e id ∙ there
  ]

  pub others_kept : (q : ℕ) → (q ≡ id → ⊥) → line_at new q ≡ line_at old q
  others_kept q other = elim (new_or_there old new line id i) [
    | inl (vacant, fresh, e) ↦ ap (λ (m : Memory). line_at m q) e ∙ at_others old id line q other
    | inr (there, e) ↦ same_lines e q
  ]

  pub interned_within : IsWithin (line_at old) (line_at new)
  interned_within q l at = elim (new_or_there old new line id i) [
    | inl (vacant, fresh, e) ↦ ap (λ (m : Memory). line_at m q) e ∙ grown old id line vacant q l at
    | inr (there, e) ↦ same_lines e q ∙ at
  ]

  pub interned_layout : new.layout ≡ old.layout
  interned_layout = elim (new_or_there old new line id i) [
    | inl (vacant, fresh, e) ↦ ap (λ (m : Memory). m.layout) e
    | inr (there, e) ↦ ap (λ (m : Memory). m.layout) e ∙ layout-without_holds (with_hold old id) (names_in line)
  ]

  pub interned_counts : (q : ℕ) → count_at new q ≤ count_at old q + 1
  interned_counts q = elim (new_or_there old new line id i) [
    | inl (vacant, fresh, e) ↦ subst (λ m. count_at m q ≤ count_at old q + 1) (sym e) (line_raises old id q line)
    | inr (there, e) ↦
        let a = ap (λ (m : Memory). count_at m q) e in
        let b = none_raises (with_hold old id) (names_in line) q in
        let c = hold_raises old id q in
        omega (arith, a, b, c)
  ]
