-- One step of the machine of plain arrays: one whole instruction of one task.
use Rattle.std.specs.Prelude.{ℕ, ◌+◌, ◌-◌, ◌*◌, ◌%◌, ◌^◌, Bool, true, false, not, List, [], ◌∷◌, Option, Some, None, Result, Ok, Err, nat_le, nat_lt, if◌then◌else◌, slice_get, decimal}
use Rattle.std.specs.Option.{is_some}
use Rattle.hic_isa.specs.declared.instr.Instr.{Instr}
use Rattle.hic_isa.specs.declared.instr.Instr.TheVariants.{Halt, Li, Lih, Mov, Addi, Alu, Eq, Isref, Jmp, Jz, Jnz, Getb, Putb, Putn, Open, Openr, Seek, Pos, Load, Store, Find, Next, Commit, Abort, Close, Root, Snap, Seal, Mcas}
use Rattle.hic_isa.specs.declared.instr.Instr.TheVariants as instr
use Rattle.hic_exec.specs.declared.arithmetic.AluFault.{AluFault}
use Rattle.hic_exec.specs.declared.arithmetic.AluFault.TheVariants as fault
use Rattle.hic_exec.specs.Outcome.{of_numbers}
use Rattle.hic_word.specs.Values.{Value, Number, Ref, is_zero, pairs}
use Rattle.hic_word.specs.Same.{same_value}
use Rattle.segment_map.specs.Merging.{Updated, commit, mcas, number_of}
use Rattle.hic_plain.specs.declared.turn.Trap.TheVariants as trap
use Rattle.hic_plain.specs.declared.turn.Turn.{Turn}
use Rattle.hic_plain.specs.declared.turn.Turn.TheVariants.{Halted}
use Rattle.hic_plain.specs.Limits.{end_of_input, offset_count}
use Rattle.hic_plain.specs.Machine.{Iter, Machine, Task}
use Rattle.hic_plain.specs.Iters.{attached, committed, emptied, found_from, is_full, loaded, moved, sought, stored, view}
use Rattle.hic_plain.specs.Full.{full, full_with}
use Rattle.hic_plain.specs.Turns.{after, closes, halted, iter, jumps, jumps_if, opens, prints, reg, segment, sets, traps, traps_if, with_array, with_iter, put_new, with_number, with_open, with_own, with_segment}

-- ---- numbers

-- a number of 32 bits in two's complement, as one of 64 bits
abbrev pub sign_extended : ℕ → ℕ
sign_extended imm = if nat_lt imm (2 ^ 31) then imm else imm + (2 ^ 64 - 2 ^ 32)

abbrev pub computes : Machine → ℕ → Task → ℕ → Result ℕ AluFault → Machine × Turn
computes m t task a (Ok n) = sets m t task a (Number n)
computes m t task a (Err fault.BadType) = traps m trap.BadType
computes m t task a (Err fault.ZeroDivisor) = traps m trap.ZeroDivisor

abbrev pub one_if : Bool → ℕ
one_if true = 1
one_if false = 0

abbrev pub is_reference : Value → Bool
is_reference (Number n) = false
is_reference (Ref H) = true

-- the next byte of the input is used up
abbrev pub takes : Machine → ℕ → Task → ℕ → List ℕ → Machine × Turn
takes m t task a [] = sets m t task a (Number end_of_input)
takes m t task a (byte ∷ bytes) = sets (record m { input = bytes }) t task a (Number byte)

-- ---- iterator registers and segments

-- iterator register b goes to the offset that was found, and register a tells whether there is one
abbrev pub finds : Machine → ℕ → Task → ℕ → ℕ → Iter → Option ℕ → Machine × Turn
finds m t task a b r found = sets m t (with_open task b (moved r found)) a (Number (one_if (is_some found)))

-- segment n gets the new array, if there is one and there is room for it, and register a the answer
abbrev pub answers : Machine → ℕ → Task → ℕ → ℕ → Updated → Machine × Turn
answers m t task a n u =
    traps_if (full_with m u.array) m trap.Full (sets (record m { segments = put_new m.segments n u.array }) t task a (Number (number_of u.answer)))

-- and the iterator register is renewed on that array
abbrev pub commits : Machine → ℕ → Task → ℕ → ℕ → Iter → ℕ → Updated → Machine × Turn
commits m t task a b r n u = answers m t (with_open task b (committed r u.array)) a n u

-- ---- the row of each instruction

abbrev pub act : Machine → ℕ → Task → Instr → Machine × Turn
act m t task Halt = after m t (halted task) Halted
act m t task (Li a imm) = sets m t task a (Number imm)
act m t task (Lih a imm) = with_number m (reg task a) (λ n. sets m t task a (Number (n % 2 ^ 32 + imm * 2 ^ 32)))
act m t task (Mov a b) = sets m t task a (reg task b)
act m t task (Addi a b imm) = with_number m (reg task b) (λ n. sets m t task a (Number ((n + sign_extended imm) % 2 ^ 64)))
act m t task (Alu op a b c) = with_number m (reg task b) (λ x. with_number m (reg task c) (λ y. computes m t task a (of_numbers op x y)))
act m t task (Eq a b c) = sets m t task a (Number (one_if (same_value (reg task b) (reg task c))))
act m t task (Isref a b) = sets m t task a (Number (one_if (is_reference (reg task b))))
act m t task (Jmp imm) = jumps m t task imm
act m t task (Jz a imm) = jumps_if (is_zero (reg task a)) m t task imm
act m t task (Jnz a imm) = jumps_if (not (is_zero (reg task a))) m t task imm
act m t task (Getb a) = takes m t task a m.input
act m t task (Putb a) = with_number m (reg task a) (λ n. prints m t task (n % 256 ∷ []))
act m t task (Putn a) = with_number m (reg task a) (λ n. prints m t task (decimal n))
act m t task (instr.Task a) = sets m t task a (Number t)
act m t task (Open a b) = with_number m (reg task b) (λ n. with_segment m (segment m n) (λ s. opens m t task a (attached (Some n) s.array)))
act m t task (Openr a b) = with_array m (reg task b) (λ A. opens m t task a (attached None A))
act m t task (Seek a b) = with_iter m (iter task a) (λ r. with_number m (reg task b) (λ n. traps_if (nat_le offset_count n) m trap.Offset (opens m t task a (sought r n))))
act m t task (Pos a b) = with_iter m (iter task b) (λ r. sets m t task a (Number r.position))
act m t task (Load a b) = with_iter m (iter task b) (λ r. sets m t task a (loaded r))
act m t task (Store a b) = with_iter m (iter task a) (λ r. traps_if (is_full r) m trap.Buffer (opens m t task a (stored r (reg task b))))
act m t task (Find a b) = with_iter m (iter task b) (λ r. finds m t task a b r (found_from r r.position))
act m t task (Next a b) = with_iter m (iter task b) (λ r. finds m t task a b r (found_from r (r.position + 1)))
act m t task (Commit a b) = with_iter m (iter task b) (λ r. with_own m r.segment (λ n. with_segment m (segment m n) (λ s. commits m t task a b r n (commit s.kind r.snapshot r.buffered s.array))))
act m t task (Abort a) = with_iter m (iter task a) (λ r. opens m t task a (emptied r))
act m t task (Close a) = with_iter m (iter task a) (λ r. closes m t task a)
act m t task (Root a b) = with_number m (reg task b) (λ n. with_segment m (segment m n) (λ s. sets m t task a (Ref (pairs s.array))))
act m t task (Snap a b) = with_iter m (iter task b) (λ r. sets m t task a (Ref (pairs r.snapshot)))
act m t task (Seal a b) = with_iter m (iter task b) (λ r. traps_if (full m (view r)) m trap.Full (sets m t task a (Ref (pairs (view r)))))
act m t task (Mcas a b c) = with_number m (reg task a) (λ n. with_array m (reg task b) (λ base. with_array m (reg task c) (λ mine. with_segment m (segment m n) (λ s. answers m t task a n (mcas s.kind base mine s.array)))))

-- a task whose next instruction is not there traps
abbrev pub act_if : Machine → ℕ → Task → Option Instr → Machine × Turn
act_if m t task None = traps m trap.End
act_if m t task (Some i) = act m t task i

abbrev pub step_task : Machine → ℕ → Option Task → Machine × Turn
step_task m t None = traps m trap.End
step_task m t (Some task) = act_if m t task (slice_get m.code task.pc)

-- one step of task t
abbrev pub step : Machine → ℕ → Machine × Turn
step m t = step_task m t (slice_get m.tasks t)
