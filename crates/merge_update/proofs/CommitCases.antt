-- A commit by its cases: what the table gives, and the looks.
use Rattle.std.proofs.Common.{◌≡◌, ℕ, ◌+◌, ◌*◌, ◌≤◌, true, false, List, [], ◌∷◌, Some, None, refl, sym, ◌∙◌, ap, subst, inl, inr, arith}
use Rattle.std.specs.Prelude.{slice_get}
use Rattle.std.proofs.Math.Nat.{max-le, mul_assoc, mul_comm, mul-le-mul_left}
use Rattle.hic_isa.specs.declared.instr.SegKind.{SegKind}
use Rattle.hic_word.specs.declared.Word.{Word}
use Rattle.hic_word.specs.Values.{Array}
use Rattle.hic_word.specs.Changes.{with}
use Rattle.hic_word.specs.InMemory.{CanApply, RootIn}
use Rattle.hic_word.specs.Memory.{Memory, width}
use Rattle.line_mem.specs.Looks.{LooksUpTo}
use Rattle.seg_write.specs.Charges.{LooksFew, greater_height}
use Rattle.segment_map.specs.declared.Segment.{Segment}
use Rattle.segment_map.specs.Merging.{Changes, Updated, commit, commit_row, conflict, effective, joined_changes, merged, merges, same_array, swapped}
use Rattle.segment_map.proofs.MergeLaws.{effective_changes, joined_are_changes}
use Rattle.merge_update.specs.Joins.{HasNoEqualLines, JoinsFor}
use Rattle.merge_update.specs.Updates.{CommitFor, CommitLooks, greatest_height, read_looks}
use Rattle.merge_update.proofs.Cases.{height_low, joins_apply, kind_here, looks_more, new_low, no_looks, other_roots, root_here, root_low, same_roots}

-- ---- the table by its cases

module _ (kind : SegKind) (S W P : Array) where
  pub commit_now : same_array P S ≡ true → commit kind S W P ≡ swapped (with S W)
  commit_now e = ap (λ b. commit_row b (merges kind) (with S W) P (joined_changes kind S (effective S W) P)) e

  pub commit_plain : same_array P S ≡ false → merges kind ≡ false → commit kind S W P ≡ conflict
  commit_plain e f = ap (λ b. commit_row b (merges kind) (with S W) P (joined_changes kind S (effective S W) P)) e ∙ ap (λ b. commit_row false b (with S W) P (joined_changes kind S (effective S W) P)) f

  pub commit_none : same_array P S ≡ false → merges kind ≡ true → joined_changes kind S (effective S W) P ≡ None → commit kind S W P ≡ conflict
  commit_none e f g = ap (λ b. commit_row b (merges kind) (with S W) P (joined_changes kind S (effective S W) P)) e ∙ ap (λ b. commit_row false b (with S W) P (joined_changes kind S (effective S W) P)) f ∙ ap (commit_row false true (with S W) P) g

  pub commit_some : (cs : Changes) → same_array P S ≡ false → merges kind ≡ true → joined_changes kind S (effective S W) P ≡ Some cs → commit kind S W P ≡ merged (with P cs)
  commit_some cs e f g = ap (λ b. commit_row b (merges kind) (with S W) P (joined_changes kind S (effective S W) P)) e ∙ ap (λ b. commit_row false b (with S W) P (joined_changes kind S (effective S W) P)) f ∙ ap (commit_row false true (with S W) P) g

-- ---- the present array is the snapshot

module _ {m : Memory} (unique : HasNoEqualLines m) {segments : List Segment} {vsid : ℕ} {root : Word} {words : List (ℕ × Word)} {kind : SegKind} {S W P : Array} (for : CommitFor m segments vsid root words kind S W P) {here : Segment} (there : slice_get segments vsid ≡ Some here) where
  pub present : RootIn m here.root P
  present = root_here for.segment_for there

  same_kind : here.kind ≡ kind
  same_kind = kind_here for.segment_for there

  pub is_now : here.root ≡ root → commit kind S W P ≡ swapped (with S W)
  is_now e = commit_now kind S W P (same_roots unique present for.writes_for.root_for e)

  pub now_looks : (n probe : ℕ) {old new : ℕ} → here.root ≡ root → LooksFew n (greater_height (width m) S (with S W)) probe old new → CommitLooks (same_array P S) n (greatest_height (width m) (S ∷ P ∷ []) (commit kind S W P)) probe old new
  now_looks n probe {old} {new} e looks =
      let row = is_now e in
      let low = max-le (height_low (width m) (S ∷ P ∷ []) (commit kind S W P) S (inl refl)) (new_low (width m) (S ∷ P ∷ []) (commit kind S W P) (with S W) (ap (λ (u : Updated). u.array) row)) in
      (old, (omega arith, omega arith), looks_more n n (greater_height (width m) S (with S W)) (greatest_height (width m) (S ∷ P ∷ []) (commit kind S W P)) probe (omega arith) low looks)

  module _ (other : here.root ≡ root → ⊥) where
    stale : same_array P S ≡ false
    stale = other_roots unique present for.writes_for.root_for other

    pub is_plain : merges here.kind ≡ false → commit kind S W P ≡ conflict
    is_plain e = commit_plain kind S W P stale (ap merges (sym same_kind) ∙ e)

    pub is_none : merges here.kind ≡ true → joined_changes here.kind S (effective S W) P ≡ None → commit kind S W P ≡ conflict
    is_none e f = commit_none kind S W P stale (ap merges (sym same_kind) ∙ e) (ap (λ k. joined_changes k S (effective S W) P) (sym same_kind) ∙ f)

    -- the looks of reading, and none after them
    stale_reads : (n reads : ℕ) {old new : ℕ} → LooksUpTo (n * (root.height + here.root.height)) old new → LooksUpTo (read_looks (same_array P S) n (greatest_height (width m) (S ∷ P ∷ []) (commit kind S W P))) old new
    stale_reads n reads {old} {new} looks =
        let h = greatest_height (width m) (S ∷ P ∷ []) (commit kind S W P) in
        let a : root.height + here.root.height ≤ 2 * h = (let s = root_low for.writes_for.root_for in let p = root_low present in let f = height_low (width m) (S ∷ P ∷ []) (commit kind S W P) S (inl refl) in let g = height_low (width m) (S ∷ P ∷ []) (commit kind S W P) P (inr (inl refl)) in omega (arith, s, p, f, g)) in
        let b : n * (root.height + here.root.height) ≤ n * (2 * h) = mul-le-mul_left n a in
        let c : n * (2 * h) ≡ 2 * n * h = (sym (mul_assoc n 2 h) ∙ ap (λ k. k * h) (mul_comm n 2)) in
        subst (λ t. LooksUpTo (read_looks t n h) old new) (sym stale) (looks.0, (let l = looks.1 in omega (arith, l, b, c)))

    pub stale_looks : (n probe : ℕ) {old new : ℕ} → LooksUpTo (n * (root.height + here.root.height)) old new → CommitLooks (same_array P S) n (greatest_height (width m) (S ∷ P ∷ []) (commit kind S W P)) probe old new
    stale_looks n probe {old} {new} looks = (new, stale_reads n 0 looks, no_looks n (greatest_height (width m) (S ∷ P ∷ []) (commit kind S W P)) probe new)

    -- the joined changes are put into the present array
    pub stale_row : (items lent : List (ℕ × Word)) → lent ≡ items → merges here.kind ≡ true → JoinsFor m true items (joined_changes here.kind S (effective S W) P) → (changes : Changes) × CanApply m here.root lent P changes × (commit kind S W P ≡ merged (with P changes))
    stale_row items lent same e joins =
        let (cs, can, some) = joins_apply present lent (joined_changes here.kind S (effective S W) P) (subst (λ ps. JoinsFor m true ps (joined_changes here.kind S (effective S W) P)) (sym same) joins) (joined_are_changes here.kind S P 0 (effective S W) (effective_changes S 0 W for.writes_for.ascend)) in
        (cs, can, commit_some kind S W P cs stale (ap merges (sym same_kind) ∙ e) (ap (λ k. joined_changes k S (effective S W) P) (sym same_kind) ∙ some))

    pub merged_looks : (n k probe : ℕ) (cs : Changes) {old between new : ℕ} → k ≤ n → commit kind S W P ≡ merged (with P cs) → LooksUpTo (n * (root.height + here.root.height)) old between → LooksFew k (greater_height (width m) P (with P cs)) probe between new → CommitLooks (same_array P S) n (greatest_height (width m) (S ∷ P ∷ []) (commit kind S W P)) probe old new
    merged_looks n k probe cs {old} {between} {new} few row reads looks =
        let low = max-le (height_low (width m) (S ∷ P ∷ []) (commit kind S W P) P (inr (inl refl))) (new_low (width m) (S ∷ P ∷ []) (commit kind S W P) (with P cs) (ap (λ (u : Updated). u.array) row)) in
        (between, stale_reads n 0 reads, looks_more k n (greater_height (width m) P (with P cs)) (greatest_height (width m) (S ∷ P ∷ []) (commit kind S W P)) probe few low looks)
