-- An mcas by its cases: what the table gives, and the looks.
use Rattle.std.proofs.Common.{◌≡◌, ℕ, ◌+◌, ◌*◌, ◌<◌, ◌≤◌, true, false, max, List, [], ◌∷◌, Option, Some, None, length, refl, sym, ◌∙◌, ap, subst, inl, inr, arith}
use Rattle.std.specs.Prelude.{IsErr, OnOk, Result, Ok, Err, is_err, nat_lt, slice_get}
use Rattle.std.proofs.Math.Nat.{max-le, mul_assoc, mul_comm, mul-le-mul, mul-le-mul_left, mul-le-mul_right}
use Rattle.std.proofs.lemmas.Bool.{le-ltb, lt-ltb}
use Rattle.std.proofs.lemmas.List.{length-map}
use Rattle.hic_isa.specs.declared.instr.SegKind.{SegKind}
use Rattle.hic_word.specs.declared.Word.{Word}
use Rattle.hic_word.specs.Values.{Array, at}
use Rattle.hic_word.specs.Changes.{with}
use Rattle.hic_word.specs.Differences.{differ}
use Rattle.hic_word.specs.InMemory.{CanApply, RootIn}
use Rattle.hic_word.specs.Memory.{Memory, width}
use Rattle.hic_word.proofs.callers.Forms.{differences_are_exact}
use Rattle.line_mem.specs.Looks.{LooksUpTo}
use Rattle.seg_write.specs.Charges.{LooksFew, greater_height}
use Rattle.segment_map.specs.declared.Segment.{Segment}
use Rattle.segment_map.specs.Merging.{Changes, Updated, conflict, differences, joined_changes, mcas, mcas_row, merged, merges, most_differing, same_array, swapped, wide}
use Rattle.segment_map.proofs.MergeLaws.{joined_are_changes}
use Rattle.merge_update.specs.Joins.{HasNoEqualLines, JoinsFor, PairsFor}
use Rattle.merge_update.specs.Updates.{McasFor, McasLooks, found, greatest_height}
use Rattle.merge_update.proofs.Cases.{height_low, joins_apply, kind_here, looks_more, new_low, no_looks, other_roots, root_here, root_low, same_roots}

-- ---- the table by its cases

module _ (kind : SegKind) (B N P : Array) where
  abbrev joins : Option Changes
  joins = joined_changes kind B (differences B N) P

  pub mcas_now : same_array P B ≡ true → mcas kind B N P ≡ swapped N
  mcas_now e = ap (λ b. mcas_row b (merges kind) (nat_lt most_differing (length (differ B N))) N P joins) e

  module _ (e : same_array P B ≡ false) where
    pub mcas_plain : merges kind ≡ false → mcas kind B N P ≡ conflict
    mcas_plain f = ap (λ b. mcas_row b (merges kind) (nat_lt most_differing (length (differ B N))) N P joins) e ∙ ap (λ b. mcas_row false b (nat_lt most_differing (length (differ B N))) N P joins) f

    module _ (f : merges kind ≡ true) where
      merging : mcas kind B N P ≡ mcas_row false true (nat_lt most_differing (length (differ B N))) N P joins
      merging = ap (λ b. mcas_row b (merges kind) (nat_lt most_differing (length (differ B N))) N P joins) e ∙ ap (λ b. mcas_row false b (nat_lt most_differing (length (differ B N))) N P joins) f

      pub mcas_wide : nat_lt most_differing (length (differ B N)) ≡ true → mcas kind B N P ≡ wide
      mcas_wide g = merging ∙ ap (λ b. mcas_row false true b N P joins) g

      pub mcas_none : nat_lt most_differing (length (differ B N)) ≡ false → joined_changes kind B (differences B N) P ≡ None → mcas kind B N P ≡ conflict
      mcas_none g h = merging ∙ ap (λ b. mcas_row false true b N P joins) g ∙ ap (mcas_row false true false N P) h

      pub mcas_some : (cs : Changes) → nat_lt most_differing (length (differ B N)) ≡ false → joined_changes kind B (differences B N) P ≡ Some cs → mcas kind B N P ≡ merged (with P cs)
      mcas_some cs g h = merging ∙ ap (λ b. mcas_row false true b N P joins) g ∙ ap (mcas_row false true false N P) h

-- ---- pairs for the differences

pairs_as_many : (m : Memory) (ps : List (ℕ × Word)) (cs : Changes) → PairsFor m ps cs → length ps ≡ length cs
pairs_as_many m [] [] d = refl
pairs_as_many m [] (c ∷ cs) d = absurd d
pairs_as_many m (p ∷ ps) [] d = absurd d
pairs_as_many m (p ∷ ps) (c ∷ cs) d = let e = pairs_as_many m ps cs d.2 in omega (arith, e)

pub differences_as_many : (m : Memory) (ps : List (ℕ × Word)) (B N : Array) → PairsFor m ps (differences B N) → length ps ≡ length (differ B N)
differences_as_many m ps B N d = pairs_as_many m ps (differences B N) d ∙ length-map (differ B N) (λ (o : ℕ). (o, at N o))

-- ---- looks

-- k of n changes are read for after the differences of two roots are found
few_reads : (n k h a b c : ℕ) {old between new : ℕ} → k ≤ n → a ≤ h → b ≤ h → c ≤ h → LooksUpTo (2 * max a b * n) old between → LooksUpTo (k * (a + c)) between new → LooksUpTo (4 * n * h) old new
few_reads n k h a b c few la lb lc first second =
    let d : 2 * max a b * n ≤ 2 * h * n = mul-le-mul_right n (mul-le-mul_left 2 (max-le la lb)) in
    let e : k * (a + c) ≤ n * (2 * h) = mul-le-mul few (omega (arith, la, lc)) in
    let f : 2 * h * n ≡ 2 * (n * h) = (mul_assoc 2 h n ∙ ap (λ t. 2 * t) (mul_comm h n)) in
    let g : n * (2 * h) ≡ 2 * (n * h) = (mul_comm n (2 * h) ∙ f) in
    let i : 4 * n * h ≡ 4 * (n * h) = mul_assoc 4 n h in
    (omega (arith, first.0, second.0), (let p = first.1 in let q = second.1 in omega (arith, p, q, d, e, f, g, i)))

-- ---- the present array is the base, or not

module _ {m : Memory} (unique : HasNoEqualLines m) {segments : List Segment} {vsid : ℕ} {base mine : Word} {kind : SegKind} {B N P : Array} (for : McasFor m segments vsid base mine kind B N P) {here : Segment} (there : slice_get segments vsid ≡ Some here) where
  pub present : RootIn m here.root P
  present = root_here for.segment_for there

  same_kind : here.kind ≡ kind
  same_kind = kind_here for.segment_for there

  pub is_now : here.root ≡ base → mcas kind B N P ≡ swapped N
  is_now e = mcas_now kind B N P (same_roots unique present for.base_for e)

  pub now_looks : (n h probe steps : ℕ) → here.root ≡ base → McasLooks (same_array P B) (merges kind) n h probe steps steps
  now_looks n h probe steps e = subst (λ b. McasLooks b (merges kind) n h probe steps steps) (sym (same_roots unique present for.base_for e)) refl

  module _ (other : here.root ≡ base → ⊥) where
    stale : same_array P B ≡ false
    stale = other_roots unique present for.base_for other

    pub is_plain : merges here.kind ≡ false → mcas kind B N P ≡ conflict
    is_plain e = mcas_plain kind B N P stale (ap merges (sym same_kind) ∙ e)

    pub plain_looks : (n h probe steps : ℕ) → merges here.kind ≡ false → McasLooks (same_array P B) (merges kind) n h probe steps steps
    plain_looks n h probe steps e =
        subst (λ b. McasLooks b (merges kind) n h probe steps steps) (sym stale)
        (subst (λ b. McasLooks false b n h probe steps steps) (sym (ap merges (sym same_kind) ∙ e)) refl)

    module _ (e : merges here.kind ≡ true) where
      pub is_wide : most_differing < length (differ B N) → mcas kind B N P ≡ wide
      is_wide many = mcas_wide kind B N P stale (ap merges (sym same_kind) ∙ e) (lt-ltb most_differing (length (differ B N)) many)

      -- no more of them than are found
      module _ (few : (most_differing < length (differ B N)) → ⊥) where
        pub is_none : joined_changes here.kind B (differences B N) P ≡ None → mcas kind B N P ≡ conflict
        is_none f = mcas_none kind B N P stale (ap merges (sym same_kind) ∙ e) (le-ltb most_differing (length (differ B N)) (omega (arith, few))) (ap (λ k. joined_changes k B (differences B N) P) (sym same_kind) ∙ f)

        pub is_merged : (pairs lent : List (ℕ × Word)) → lent ≡ pairs → JoinsFor m true pairs (joined_changes here.kind B (differences B N) P) → (changes : Changes) × CanApply m here.root lent P changes × (mcas kind B N P ≡ merged (with P changes))
        is_merged pairs lent same d =
            let ascend = (differences_are_exact B N for.base_for.valid for.mine_for.valid).valid in
            let (cs, can, some) = joins_apply present lent (joined_changes here.kind B (differences B N) P) (subst (λ ps. JoinsFor m true ps (joined_changes here.kind B (differences B N) P)) (sym same) d) (joined_are_changes here.kind B P 0 (differences B N) ascend) in
            (cs, can, mcas_some kind B N P stale (ap merges (sym same_kind) ∙ e) cs (le-ltb most_differing (length (differ B N)) (omega (arith, few))) (ap (λ k. joined_changes k B (differences B N) P) (sym same_kind) ∙ some))

      -- the looks that find the offsets and read for k of them
      stale_reads : (k : ℕ) {old between new : ℕ} → k ≤ found B N → LooksUpTo (2 * max base.height mine.height * found B N) old between → LooksUpTo (k * (base.height + here.root.height)) between new → LooksUpTo (4 * found B N * greatest_height (width m) (B ∷ N ∷ P ∷ []) (mcas kind B N P)) old new
      stale_reads k few first second =
          let h = greatest_height (width m) (B ∷ N ∷ P ∷ []) (mcas kind B N P) in
          let a : base.height ≤ h = (let low = root_low for.base_for in let high = height_low (width m) (B ∷ N ∷ P ∷ []) (mcas kind B N P) B (inl refl) in omega (arith, low, high)) in
          let b : mine.height ≤ h = (let low = root_low for.mine_for in let high = height_low (width m) (B ∷ N ∷ P ∷ []) (mcas kind B N P) N (inr (inl refl)) in omega (arith, low, high)) in
          let d : here.root.height ≤ h = (let low = root_low present in let high = height_low (width m) (B ∷ N ∷ P ∷ []) (mcas kind B N P) P (inr (inr (inl refl))) in omega (arith, low, high)) in
          few_reads (found B N) k h base.height mine.height here.root.height few a b d first second

      merging_looks : (n h probe : ℕ) {old new : ℕ} → McasLooks false true n h probe old new → McasLooks (same_array P B) (merges kind) n h probe old new
      merging_looks n h probe {old} {new} looks = subst (λ b. McasLooks b (merges kind) n h probe old new) (sym stale) (subst (λ b. McasLooks false b n h probe old new) (sym (ap merges (sym same_kind) ∙ e)) looks)

      pub stale_looks : (k probe : ℕ) {old between new : ℕ} → k ≤ found B N → LooksUpTo (2 * max base.height mine.height * found B N) old between → LooksUpTo (k * (base.height + here.root.height)) between new → McasLooks (same_array P B) (merges kind) (found B N) (greatest_height (width m) (B ∷ N ∷ P ∷ []) (mcas kind B N P)) probe old new
      stale_looks k probe {old} {between} {new} few first second =
          merging_looks (found B N) (greatest_height (width m) (B ∷ N ∷ P ∷ []) (mcas kind B N P)) probe (new, stale_reads k few first second, no_looks (found B N) (greatest_height (width m) (B ∷ N ∷ P ∷ []) (mcas kind B N P)) probe new)

      pub merged_looks : (k i probe : ℕ) (cs : Changes) {old between before new : ℕ} → k ≤ found B N → i ≤ found B N → mcas kind B N P ≡ merged (with P cs) → LooksUpTo (2 * max base.height mine.height * found B N) old between → LooksUpTo (k * (base.height + here.root.height)) between before → LooksFew i (greater_height (width m) P (with P cs)) probe before new → McasLooks (same_array P B) (merges kind) (found B N) (greatest_height (width m) (B ∷ N ∷ P ∷ []) (mcas kind B N P)) probe old new
      merged_looks k i probe cs {old} {between} {before} {new} few also row first second looks =
          let h = greatest_height (width m) (B ∷ N ∷ P ∷ []) (mcas kind B N P) in
          let low = max-le (height_low (width m) (B ∷ N ∷ P ∷ []) (mcas kind B N P) P (inr (inr (inl refl)))) (new_low (width m) (B ∷ N ∷ P ∷ []) (mcas kind B N P) (with P cs) (ap (λ (u : Updated). u.array) row)) in
          merging_looks (found B N) h probe (before, stale_reads k few first second, looks_more i (found B N) (greater_height (width m) P (with P cs)) h probe also low looks)

      -- the differences, if they are few, are changes to the base, and as many are found
      pub can_change : (pairs : List (ℕ × Word)) → PairsFor m pairs (differences B N) → CanApply m base pairs B (differences B N)
      can_change pairs d = record { root_for = for.base_for; changes_for = d; ascend = (differences_are_exact B N for.base_for.valid for.mine_for.valid).valid }

      pub pairs_few : (pairs : List (ℕ × Word)) → ((most_differing < length (differ B N)) → ⊥) → PairsFor m pairs (differences B N) → length pairs ≤ found B N
      pairs_few pairs few d = let same = differences_as_many m pairs B N d in omega (arith, few, same)

-- ---- what the test of a result tells

pub at_ok : {T E P : Type 0} (r : Result T E) → false ≡ is_err r → OnOk r P → P
at_ok (Ok x) e p = p
at_ok (Err x) e p = cc

pub not_err : {T E P Q : Type 0} (r : Result T E) → false ≡ is_err r → (IsErr r → P) × (Q → IsErr r) → Q → ⊥
not_err r e both q = let h = both.1 q in cc
