-- What commit and mcas share: roots that are compared, the segment, the looks, and answers from a row of the table.
use Rattle.std.proofs.Common.{◌≡◌, ℕ, zero, suc, ◌+◌, ◌*◌, ◌≤◌, true, false, List, [], ◌∷◌, Option, Some, None, ◌↔◌, refl, sym, ◌∙◌, ap, subst, inl, inr, arith}
use mathlib.Core.Bool.{false≢true}
use Rattle.std.specs.Prelude.{IfSome, slice_get}
use Rattle.std.proofs.Math.Nat.{le-max_left, le-max_right, mul-le-mul, mul-le-mul_right}
use Rattle.hic_isa.specs.declared.instr.SegKind.{SegKind}
use Rattle.hic_word.specs.declared.Word.{Word}
use Rattle.hic_word.specs.Lists.{In}
use Rattle.hic_word.specs.Values.{Array, IsValue, Ref, pairs}
use Rattle.hic_word.specs.Changes.{AreChanges}
use Rattle.hic_word.specs.Heights.{height}
use Rattle.hic_word.specs.Same.{same_value}
use Rattle.hic_word.specs.InMemory.{CanApply, RootIn}
use Rattle.hic_word.specs.Memory.{Memory, width}
use Rattle.seg_read.proofs.Rooting.{root_height}
use Rattle.seg_write.specs.Charges.{LooksFew}
use Rattle.segment_map.specs.declared.Segment.{Segment}
use Rattle.segment_map.specs.declared.merged.Merged.{Merged as Answer}
use Rattle.segment_map.specs.declared.merged.Merged.TheVariants as answers
use Rattle.segment_map.specs.Merging.{Changes, Updated, conflict, same_array}
use Rattle.merge_update.specs.Joins.{HasNoEqualLines, JoinsFor, ValidIn}
use Rattle.merge_update.specs.Updates.{LacksRoomForNew, SegmentFor, Updates, greatest, greatest_height, greatest_with}
use Rattle.merge_update.proofs.Joining.{other_told, same_told}

-- ---- roots

root_valid : {m : Memory} {x : Word} {A : Array} → RootIn m x A → ValidIn m x (Ref (pairs A))
unfolding IsValue
root_valid r = (r.valid, r.word)

module _ {m : Memory} (unique : HasNoEqualLines m) {x y : Word} {A B : Array} (a : RootIn m x A) (b : RootIn m y B) where
  pub same_roots : x ≡ y → same_array A B ≡ true
  unfolding same_value
  same_roots e = same_told m unique x y (Ref (pairs A)) (Ref (pairs B)) (root_valid a) (root_valid b) e

  pub other_roots : (x ≡ y → ⊥) → same_array A B ≡ false
  unfolding same_value
  other_roots e = other_told m unique x y (Ref (pairs A)) (Ref (pairs B)) (root_valid a) (root_valid b) e

-- ---- the segment

module _ {m : Memory} {segments : List Segment} {vsid : ℕ} {kind : SegKind} {A : Array} (s : SegmentFor m segments vsid kind A) {here : Segment} (there : slice_get segments vsid ≡ Some here) where
  this_one : s.segment ≡ here
  this_one = let e = s.there in cc

  pub kind_here : here.kind ≡ kind
  kind_here = sym (ap (λ (t : Segment). t.kind) this_one) ∙ s.of_kind

  pub root_here : RootIn m here.root A
  root_here = subst (λ (t : Segment). RootIn m t.root A) this_one s.root_for

-- ---- the changes

-- pairs that stand for joined changes can be put into the present array
pub joins_apply : {m : Memory} {root : Word} {P : Array} → RootIn m root P → (pairs : List (ℕ × Word)) (joins : Option Changes) → JoinsFor m true pairs joins → IfSome joins (AreChanges 0) → (changes : Changes) × CanApply m root pairs P changes × (joins ≡ Some changes)
joins_apply present pairs None d ascend = absurd d
joins_apply present pairs (Some cs) d ascend = (cs, record { root_for = present; changes_for = d; ascend = ascend }, refl)

-- ---- looks

pub looks_more : (n k h g probe : ℕ) {old new : ℕ} → n ≤ k → h ≤ g → LooksFew n h probe old new → LooksFew k g probe old new
looks_more n k h g probe few low looks =
    let a : (n + 1) * h ≤ (k + 1) * g = mul-le-mul (omega (arith, few)) low in
    let b : (n * h + 1) * probe ≤ (k * g + 1) * probe = mul-le-mul_right probe (let c : n * h ≤ k * g = mul-le-mul few low in omega (arith, c)) in
    (looks.0, (let l = looks.1 in omega (arith, l, a, b)))

pub no_looks : (n h probe new : ℕ) → LooksFew n h probe new new
no_looks n h probe new = (omega arith, omega arith)

-- the arrays that a call reads or gives are not higher than the highest of them
low_among : (w : ℕ) (As : List Array) (A : Array) → In A As → height w A ≤ greatest w As
low_among w [] A there = absurd there
low_among w (B ∷ As) A (inl e) = subst (λ C. height w C ≤ greatest w (B ∷ As)) e (le-max_left (height w B) (greatest w As))
low_among w (B ∷ As) A (inr there) = let a = low_among w As A there in let b = le-max_right (height w B) (greatest w As) in omega (arith, a, b)

module _ (w : ℕ) (As : List Array) (row : Updated) where
  pub height_low : (A : Array) → In A As → height w A ≤ greatest_height w As row
  height_low A there = go row.array
    where
      go : (new : Option Array) → height w A ≤ greatest_with w As new
      go None = low_among w As A there
      go (Some B) = low_among w (B ∷ As) A (inr there)

  pub new_low : (A : Array) → row.array ≡ Some A → height w A ≤ greatest_height w As row
  new_low A e = subst (λ new. height w A ≤ greatest_with w As new) (sym e) (le-max_left (height w A) (greatest w As))

-- a root is not higher than its array
pub root_low : {m : Memory} {x : Word} {A : Array} → RootIn m x A → x.height ≤ height (width m) A
root_low {m} {x} {A} r = go x.height refl
  where
    go : (k : ℕ) → x.height ≡ k → x.height ≤ height (width m) A
    go zero e = omega (arith, e)
    go (suc k) e = let f = root_height r (omega (arith, e)) in omega (arith, f)

-- ---- the answers, from the row of the table

pub updates_by : {old new : Memory} {before after : List Segment} {vsid : ℕ} {answer : Answer} (row other : Updated) → row ≡ other → Updates old new before after vsid answer other → Updates old new before after vsid answer row
updates_by {old} {new} {before} {after} {vsid} {answer} row other e u = subst (Updates old new before after vsid answer) (sym e) u

pub full_by : (m : Memory) {P : Type 0} (row other : Updated) → row ≡ other → P ↔ LacksRoomForNew m other.array → P ↔ LacksRoomForNew m row.array
full_by m {P} row other e f = subst (λ (u : Updated). P ↔ LacksRoomForNew m u.array) (sym e) f

pub nothing_new : {m : Memory} {segments : List Segment} {vsid : ℕ} (row : Updated) → row ≡ conflict → Updates m m segments segments vsid answers.Conflict row
nothing_new {m} {segments} {vsid} row e = subst (Updates m m segments segments vsid answers.Conflict) (sym e) record { tells = refl; has = (refl, refl) }

pub never_full : (m : Memory) (row : Updated) → row ≡ conflict → (false ≡ true) ↔ LacksRoomForNew m row.array
never_full m row e = subst (λ (u : Updated). (false ≡ true) ↔ LacksRoomForNew m u.array) (sym e) (λ f. absurd (false≢true f), λ f. absurd f)
