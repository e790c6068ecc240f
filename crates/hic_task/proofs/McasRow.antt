-- An mcas: what the registers have, and the looks.
use Rattle.std.proofs.Common.{◌≡◌, ℕ, suc, ◌+◌, ◌*◌, ◌<◌, Bool, true, false, List, [], ◌∷◌, length, Some, refl, sym, ap, subst, arith}
use Rattle.std.specs.Prelude.{IfSome}
use Rattle.hic_word.specs.declared.Word.{Word}
use Rattle.hic_word.specs.Values.{IsArray, Number, Pairs, Ref, Value, array}
use Rattle.hic_word.specs.Exchanges.{HasRoomFor}
use Rattle.hic_word.specs.InMemory.{WordIn}
use Rattle.hic_word.specs.Memory.{Memory, width}
use Rattle.line_mem.specs.Looks.{LooksUpTo}
use Rattle.line_mem.specs.Sound.{IsSound}
use Rattle.segment_map.specs.declared.Segment.{Segment as Stored}
use Rattle.segment_map.specs.Merging.{Updated, mcas, merges, most_differing, same_array}
use Rattle.segment_map.proofs.MergeLaws.{mcas_valid}
use Rattle.merge_update.specs.Updates.{McasFor, McasLooks, found, greatest_height}
use Rattle.hic_plain.specs.Machine.{Machine, Segment, Task}
use Rattle.hic_plain.specs.Turns.{reg, segment}
use Rattle.hic_task.specs.declared.task.Task.{Task as Kept}
use Rattle.hic_task.specs.Acting.{CanAct}
use Rattle.hic_task.specs.Kept.{HoldsFew, SegmentsFor}
use Rattle.hic_task.specs.Looks.{joining_looks, looks_for, looks_for_array, looks_for_number, mcas_looks, put_looks}
use Rattle.hic_task.proofs.CommitRow.{looks_then, present_for, segment_within}
use Rattle.hic_task.proofs.Ready.{few_room, root_in}

segments_length : (m : Memory) (ss : List Stored) (Ss : List Segment) → SegmentsFor m ss Ss → length ss ≡ length Ss
segments_length m [] [] d = refl
segments_length m [] (S ∷ Ss) d = absurd d
segments_length m (s ∷ ss) [] d = absurd d
segments_length m (s ∷ ss) (S ∷ Ss) d = ap suc (segments_length m ss Ss d.1)

-- an mcas of what registers have, as the plain machine has it
pub record Swaps (m : Memory) (ss : List Stored) (P : Machine) (T : Task) (a b c : ℕ) (n : ℕ) (base_root mine_root : Word) : Type 0 where
  pub base : Pairs
  pub mine : Pairs
  pub number : reg T a ≡ Number n
  pub first : reg T b ≡ Ref base
  pub second : reg T c ≡ Ref mine
  pub plain : Segment
  pub here : segment P n ≡ Some plain
  pub for : McasFor m ss n base_root mine_root plain.kind (array base) (array mine) plain.array

-- the table's row of it
abbrev pub row_of : {m : Memory} {ss : List Stored} {P : Machine} {T : Task} {a b c n : ℕ} {x y : Word} → Swaps m ss P T a b c n x y → Updated
row_of w = mcas w.plain.kind (array w.base) (array w.mine) w.plain.array

pub row_valid : {m : Memory} {ss : List Stored} {P : Machine} {T : Task} {a b c n : ℕ} {x y : Word} (w : Swaps m ss P T a b c n x y) → IfSome (row_of w).array IsArray
row_valid w = mcas_valid w.plain.kind (array w.base) (array w.mine) w.plain.array w.for.base_for.valid w.for.mine_for.valid w.for.segment_for.root_for.valid

-- a root is a register's word, which references an array
abbrev pub References : (root word : Word) → Value → Type 0
References root word v = (root ≡ word) × (H : Pairs) × (v ≡ Ref H)

pub swaps_at : {m : Memory} {ss : List Stored} {k : Kept} {P : Machine} {t : ℕ} {T : Task} {a b c n : ℕ} {x y first second : Word} → CanAct m k P t T → SegmentsFor m ss P.segments → reg T a ≡ Number n → n < length ss → References x first (reg T b) → WordIn m first (reg T b) → References y second (reg T c) → WordIn m second (reg T c) → Swaps m ss P T a b c n x y
swaps_at {m} {ss} {k} {P} {t} {T} {a} {b} {c} {n} {x} {y} can for number low (same, base, is) one (alike, mine, also) two =
    let (s, there, S, here, d) = segment_within m ss P.segments n for (let many = segments_length m ss P.segments for in omega (arith, low, many)) in
    record {
      base = base;
      mine = mine;
      number = number;
      first = is;
      second = also;
      plain = S;
      here = here;
      for = record {
        segment_for = present_for m P ss n s S can.valid there here d;
        base_for = root_in can b x base (subst (λ z. WordIn m z (reg T b)) (sym same) one) is;
        mine_for = root_in can c y mine (subst (λ z. WordIn m z (reg T c)) (sym alike) two) also;
      };
    }

pub differing_room : {m : Memory} {words : List Word} → IsSound m → HoldsFew m words → HasRoomFor (64 * (most_differing + 1)) m
differing_room sound few id live = let a = few_room sound few id live in omega (arith, a)

joined_looks : (current merging : Bool) (n h probe : ℕ) {old new : ℕ} → McasLooks current merging n h probe old new → LooksUpTo (joining_looks current merging n h probe) old new
joined_looks true merging n h probe same = (omega (arith, same), omega (arith, same))
joined_looks false false n h probe same = (omega (arith, same), omega (arith, same))
joined_looks false true n h probe (between, one, two) = looks_then (4 * n * h) (put_looks n h probe) one two

pub swapped_looks : {m : Memory} {ss : List Stored} {P : Machine} {T : Task} {a b c n : ℕ} {x y : Word} (probe : ℕ) {old new : ℕ} (w : Swaps m ss P T a b c n x y)
    → McasLooks (same_array w.plain.array (array w.base)) (merges w.plain.kind) (found (array w.base) (array w.mine)) (greatest_height (width m) (array w.base ∷ array w.mine ∷ w.plain.array ∷ []) (mcas w.plain.kind (array w.base) (array w.mine) w.plain.array)) probe old new
    → LooksUpTo (looks_for_number (reg T a) (λ k. looks_for_array (reg T b) (λ base. looks_for_array (reg T c) (λ mine. looks_for (segment P k) (λ S. mcas_looks (width m) probe base mine S))))) old new
swapped_looks {m} {P = P} {T = T} {b = b} {c = c} {n = n} probe {old} {new} w looks =
    let S = w.plain in
    let h = greatest_height (width m) (array w.base ∷ array w.mine ∷ S.array ∷ []) (mcas S.kind (array w.base) (array w.mine) S.array) in
    let all : LooksUpTo (mcas_looks (width m) probe (array w.base) (array w.mine) S) old new = joined_looks (same_array S.array (array w.base)) (merges S.kind) (found (array w.base) (array w.mine)) h probe looks in
    subst (λ v. LooksUpTo (looks_for_number v (λ k. looks_for_array (reg T b) (λ base. looks_for_array (reg T c) (λ mine. looks_for (segment P k) (λ s. mcas_looks (width m) probe base mine s))))) old new) (sym w.number)
    (subst (λ v. LooksUpTo (looks_for_array v (λ base. looks_for_array (reg T c) (λ mine. looks_for (segment P n) (λ s. mcas_looks (width m) probe base mine s)))) old new) (sym w.first)
    (subst (λ v. LooksUpTo (looks_for_array v (λ mine. looks_for (segment P n) (λ s. mcas_looks (width m) probe (array w.base) mine s))) old new) (sym w.second)
    (subst (λ o. LooksUpTo (looks_for o (λ s. mcas_looks (width m) probe (array w.base) (array w.mine) s)) old new) (sym w.here) all)))
