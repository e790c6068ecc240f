-- How many looks at stored lines an instruction takes at most.
use Rattle.std.specs.Prelude.{ℕ, ◌+◌, ◌*◌, Bool, true, false, [], ◌∷◌, length, max, Option, Some, None}
use Rattle.hic_isa.specs.declared.instr.Instr.{Instr}
use Rattle.hic_isa.specs.declared.instr.Instr.TheVariants.{Commit, Find, Load, Mcas, Next, Seal}
use Rattle.hic_word.specs.Heights.{height}
use Rattle.hic_word.specs.Values.{Array, Number, Ref, Value, array}
use Rattle.iter_regs.specs.Iters.{search_looks}
use Rattle.merge_update.specs.Updates.{found, greatest_height, read_looks}
use Rattle.segment_map.specs.Merging.{commit, mcas, merges, same_array}
use Rattle.hic_plain.specs.Iters.{view}
use Rattle.hic_plain.specs.Machine.{Iter, Machine, Segment, Task, width_of}
use Rattle.hic_plain.specs.Turns.{iter, reg, segment}

-- none where there is nothing
abbrev pub looks_for : {X : Type 0} → Option X → (X → ℕ) → ℕ
looks_for None looks = 0
looks_for (Some x) looks = looks x

-- none where a register has no number, or no reference
abbrev pub looks_for_number : Value → (ℕ → ℕ) → ℕ
looks_for_number (Number n) looks = looks n
looks_for_number (Ref H) looks = 0

abbrev pub looks_for_array : Value → (Array → ℕ) → ℕ
looks_for_array (Number n) looks = 0
looks_for_array (Ref H) looks = looks (array H)

-- n changes put into an array, up to height h: (n + 1) * h looks, and n * h + 1 calls of `intern`, each of `probe`
abbrev pub put_looks : ℕ → ℕ → ℕ → ℕ
put_looks n h probe = (n + 1) * h + (n * h + 1) * probe

abbrev pub commit_looks : ℕ → ℕ → Iter → Segment → ℕ
commit_looks w probe r s =
    let h = greatest_height w (r.snapshot ∷ s.array ∷ []) (commit s.kind r.snapshot r.buffered s.array) in
    read_looks (same_array s.array r.snapshot) (length r.buffered) h + put_looks (length r.buffered) h probe

abbrev pub seal_looks : ℕ → ℕ → Iter → ℕ
seal_looks w probe r = put_looks (length r.buffered) (max (height w r.snapshot) (height w (view r))) probe

-- none where the base is the present array, or where the segment does not merge. Else n differing offsets of arrays
-- up to height h are found, with two looks for each level, the old and the present word at each are read, and the
-- changes put in
abbrev pub joining_looks : (current merging : Bool) → (n h probe : ℕ) → ℕ
joining_looks true merging n h probe = 0
joining_looks false false n h probe = 0
joining_looks false true n h probe = 4 * n * h + put_looks n h probe

abbrev pub mcas_looks : ℕ → ℕ → (base mine : Array) → Segment → ℕ
mcas_looks w probe base mine s =
    joining_looks (same_array s.array base) (merges s.kind) (found base mine) (greatest_height w (base ∷ mine ∷ s.array ∷ []) (mcas s.kind base mine s.array)) probe

-- the most looks of an instruction of a task, where one call of `intern` takes `probe` at most: 0 but for a few
abbrev pub looks_of : ℕ → Machine → Task → Instr → ℕ
looks_of probe P T (Load a b) = looks_for (iter T b) (λ r. height (width_of P) r.snapshot)
looks_of probe P T (Find a b) = looks_for (iter T b) (λ r. search_looks (height (width_of P) r.snapshot) r.buffered)
looks_of probe P T (Next a b) = looks_for (iter T b) (λ r. search_looks (height (width_of P) r.snapshot) r.buffered)
looks_of probe P T (Seal a b) = looks_for (iter T b) (λ r. seal_looks (width_of P) probe r)
looks_of probe P T (Commit a b) = looks_for (iter T b) (λ r. looks_for r.segment (λ n. looks_for (segment P n) (λ s. commit_looks (width_of P) probe r s)))
looks_of probe P T (Mcas a b c) = looks_for_number (reg T a) (λ n. looks_for_array (reg T b) (λ base. looks_for_array (reg T c) (λ mine. looks_for (segment P n) (λ s. mcas_looks (width_of P) probe base mine s))))
looks_of probe P T i = 0
