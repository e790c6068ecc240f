-- The program and the schedule that are made from a seed and a size.
use Rattle.std.specs.Prelude.{ℕ, ◌+◌, ◌*◌, ◌/◌, ◌%◌, List, [], ◌∷◌, ◌++◌, flat_map}
use Rattle.std.specs.Fmt.{decimal}
use Rattle.hic_isa.specs.declared.instr.AluOp.TheVariants as op
use Rattle.hic_isa.specs.declared.instr.Instr.{Instr}
use Rattle.hic_isa.specs.declared.instr.Instr.TheVariants.{Halt, Li, Addi, Alu, Jnz, Putn, Task, Open, Seek, Load, Store, Commit}
use Rattle.hic_isa.specs.declared.instr.SegKind.TheVariants.{Merge}
use Rattle.hic_object.specs.declared.object.DataRec.{DataRec}
use Rattle.hic_object.specs.Parts.{Parts, parts}
use Rattle.hic_gen.specs.Draws.{draws}

-- the most records
abbrev pub most_size : ℕ
most_size = 4096

-- record k takes one draw: a place among the 64 offsets of its own, and a value
abbrev pub record_of : ℕ → ℕ → DataRec
record_of k drawn = record { segment = 0; offset = 64 * k + drawn % 64; value = 65536 + drawn / 64 }

-- the records of these draws, numbered from k on
abbrev pub records : ℕ → List ℕ → List DataRec
records k [] = []
records k (drawn ∷ rest) = record_of k drawn ∷ records (k + 1) rest

-- The code. Tasks 0 and 2 begin at offset 0, tasks 1 and 3 at offset 32. Each adds 65,536 and its number to one word of
-- each 64 and prints what its commit answers.
abbrev pub code : ℕ → List Instr
code size =
    Task 0
    ∷ Li 1 size
    ∷ Li 2 0
    ∷ Li 3 1
    ∷ Alu op.And 4 0 3
    ∷ Li 7 32
    ∷ Alu op.Mul 4 4 7
    ∷ Addi 3 0 65536
    ∷ Open 0 2
    ∷ Seek 0 4
    ∷ Load 5 0
    ∷ Alu op.Add 5 5 3
    ∷ Store 0 5
    ∷ Commit 6 0
    ∷ Putn 6
    ∷ Addi 4 4 64
    ∷ Addi 1 1 0xffffffff
    ∷ Jnz 1 8
    ∷ Halt
    ∷ []

-- four tasks, one merge segment, a record for each draw
abbrev pub demo_object : ℕ → ℕ → Parts
demo_object seed size = parts (0 ∷ 0 ∷ 0 ∷ 0 ∷ []) (Merge ∷ []) (records 0 (draws size seed)) (code size)

-- an item of a draw: one of four tasks, 1 to 16 times; 42 is '*'
abbrev pub item_line : ℕ → List ℕ
item_line drawn = decimal (drawn % 4) ++ (42 ∷ decimal (1 + drawn / 4 % 16)) ++ 10 ∷ []

-- a line for each draw, again from the seed
abbrev pub demo_schedule : ℕ → ℕ → List ℕ
demo_schedule seed size = flat_map item_line (draws size seed)
