-- The machine of plain arrays that a machine is seen as: the one that its words stand for.
use Rattle.std.proofs.Common.{◌≡◌, ℕ, Bool, List, Option, refl}
use Rattle.std.specs.Ordering.{nat_cmp}
use Rattle.std.specs.FinMap.{FinMap}
use Rattle.std.specs.FinMap as map
use Rattle.std.specs.Coded.{Coded, code_by, coded×, coded_ℕ, coded_bool, coded_list, coded_option}
use Rattle.hic_isa.specs.declared.instr.Instr.{Instr}
use Rattle.hic_isa.specs.declared.instr.SegKind.{SegKind}
use Rattle.hic_isa.specs.contracts.instr.Instr as instr_type
use Rattle.hic_isa.specs.contracts.instr.SegKind as kind_type
use Rattle.hic_word.specs.contracts.Word as word_type
use Rattle.hic_word.specs.declared.Word.{Word}
use Rattle.hic_word.specs.Values.{Value}
use Rattle.hic_word.specs.Memory.{Layout, Memory}
use Rattle.hic_word.specs.UniqueChoice.{the_one, the_one_is}
use Rattle.hic_word.specs.ValueCode.{value_code}
use Rattle.segment_map.specs.declared.Segment.{Segment as Stored}
use Rattle.hic_plain.specs.Machine.{Iter, Machine, Segment, Task}
use Rattle.hic_task.specs.declared.task.Task.{Task as Kept}
use Rattle.hic_machine.specs.Held.{MachineFor}
use Rattle.hic_machine.specs.Telling.{tells}

-- ---- codes

abbrev pairs_code : Coded (List (ℕ × Value))
pairs_code = coded_list (coded× coded_ℕ value_code)

abbrev segment_code : Coded Segment
segment_code = code_by (SegKind × List (ℕ × Value)) (coded× kind_type.the_row.coded pairs_code) (λ s. (s.kind, s.array)) (λ p. record { kind = p.0; array = p.1 }) (λ _. refl)

abbrev iter_code : Coded Iter
iter_code = code_by (Option ℕ × (List (ℕ × Value) × (ℕ × List (ℕ × Value)))) (coded× (coded_option coded_ℕ) (coded× pairs_code (coded× coded_ℕ pairs_code)))
    (λ r. (r.segment, (r.snapshot, (r.position, r.buffered)))) (λ p. record { segment = p.0; snapshot = p.1.0; position = p.1.1.0; buffered = p.1.1.1 }) (λ _. refl)

abbrev task_code : Coded Task
task_code = code_by (Bool × (ℕ × (List Value × List (Option Iter)))) (coded× coded_bool (coded× coded_ℕ (coded× (coded_list value_code) (coded_list (coded_option iter_code)))))
    (λ t. (t.runs, (t.pc, (t.regs, t.iters)))) (λ p. record { runs = p.0; pc = p.1.0; regs = p.1.1.0; iters = p.1.1.1 }) (λ _. refl)

abbrev machine_code : Coded Machine
machine_code = code_by (List Instr × (ℕ × (List Segment × (List Task × List ℕ)))) (coded× (coded_list instr_type.the_row.coded) (coded× coded_ℕ (coded× (coded_list segment_code) (coded× (coded_list task_code) (coded_list coded_ℕ)))))
    (λ m. (m.code, (m.capacity, (m.segments, (m.tasks, m.input))))) (λ p. record { code = p.0; capacity = p.1.0; segments = p.1.1.0; tasks = p.1.1.1.0; input = p.1.1.1.1 }) (λ _. refl)

abbrev layout_code : Coded Layout
layout_code = code_by (ℕ × ℕ) (coded× coded_ℕ coded_ℕ) (λ l. (l.cap, l.probe)) (λ p. record { cap = p.0; probe = p.1 }) (λ _. refl)

abbrev memory_code : Coded Memory
memory_code = code_by (FinMap nat_cmp (List Word) × (FinMap nat_cmp ℕ × (List ℕ × Layout))) (coded× (map.code {R = nat_cmp} coded_ℕ (coded_list word_type.the_row.coded)) (coded× (map.code {R = nat_cmp} coded_ℕ coded_ℕ) (coded× (coded_list coded_ℕ) layout_code)))
    (λ m. (m.lines, (m.counts, (m.dead, m.layout)))) (λ p. record { lines = p.0; counts = p.1.0; dead = p.1.1.0; layout = p.1.1.1 }) (λ _. refl)

-- ---- what a machine is seen as

-- the plain machine, the memory, and the bytes that the last run has printed
pub record Seen : Type 0 where
  pub plain : Machine
  pub memory : Memory
  pub printed : List ℕ

abbrev pub seen_code : Coded Seen
seen_code = code_by (Machine × (Memory × List ℕ)) (coded× machine_code (coded× memory_code (coded_list coded_ℕ))) (λ s. (s.plain, (s.memory, s.printed))) (λ p. record { plain = p.0; memory = p.1.0; printed = p.1.1 }) (λ _. refl)

-- the words stand for some plain machine
abbrev pub IsSeen : Memory → List Instr → List Stored → List ℕ → List Kept → Type 0
IsSeen m code segments input tasks = ∥ ((P : Machine) × MachineFor m code segments input tasks P) ∥₁

-- and for one alone
unfoldable pub the_machine : (m : Memory) (code : List Instr) (segments : List Stored) (input : List ℕ) (tasks : List Kept) → IsSeen m code segments input tasks → Machine
the_machine m code segments input tasks seen = the_one machine_code (MachineFor m code segments input tasks) (tells m code segments input tasks) seen

pub the_machine_is : (m : Memory) (code : List Instr) (segments : List Stored) (input : List ℕ) (tasks : List Kept) (seen : IsSeen m code segments input tasks) (P : Machine) → MachineFor m code segments input tasks P → the_machine m code segments input tasks seen ≡ P
unfolding the_machine
the_machine_is m code segments input tasks seen P d = the_one_is machine_code (MachineFor m code segments input tasks) (tells m code segments input tasks) seen P d
