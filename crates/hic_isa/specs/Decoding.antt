-- The instruction that bytes spell: the one candidate for their opcode, where it is spelled so.
use Rattle.std.specs.Prelude.{ℕ, List, [], ◌∷◌, drop, slice_index, ◌&&◌, Option, Some, None, nat_lt, nat_le, bytes_eq, ◌==◌, if◌then◌else◌}
use Rattle.std.specs.Option.{option_and_then}
use Rattle.std.specs.Int.{w32, from_le_bytes}
use Rattle.hic_isa.specs.Spelling.{Fields, row, spelling}
use Rattle.hic_isa.specs.declared.instr.AluOp.TheVariants as op
use Rattle.hic_isa.specs.declared.instr.Instr.{Instr}
use Rattle.hic_isa.specs.declared.instr.Instr.TheVariants.{Halt, Li, Lih, Mov, Addi, Alu, Eq, Isref, Jmp, Jz, Jnz, Getb, Putb, Putn, Task, Open, Openr, Seek, Pos, Load, Store, Find, Next, Commit, Abort, Close, Root, Snap, Seal, Mcas}

-- instructions of numbers below limits, where the numbers are
abbrev pub with_one : ℕ → (ℕ → Instr) → ℕ → Option Instr
with_one low make a = if nat_lt a low then Some (make a) else None

abbrev pub with_two : ℕ → ℕ → (ℕ → ℕ → Instr) → ℕ → ℕ → Option Instr
with_two low high make a b = if nat_lt a low && nat_lt b high then Some (make a b) else None

abbrev pub with_three : (ℕ → ℕ → ℕ → Instr) → ℕ → ℕ → ℕ → Option Instr
with_three make a b c = if nat_lt a 8 && (nat_lt b 8 && nat_lt c 8) then Some (make a b c) else None

-- for each opcode the instruction with these fields, where they name registers
abbrev pub arithmetic : Fields → List (ℕ × Option Instr)
arithmetic f =
    (0x01, Some Halt)
    ∷ (0x02, with_one 8 (λ a. Li a f.imm) f.a)
    ∷ (0x03, with_one 8 (λ a. Lih a f.imm) f.a)
    ∷ (0x04, with_two 8 8 Mov f.a f.b)
    ∷ (0x05, with_two 8 8 (λ a b. Addi a b f.imm) f.a f.b)
    ∷ (0x06, with_three (Alu op.Add) f.a f.b f.c)
    ∷ (0x07, with_three (Alu op.Sub) f.a f.b f.c)
    ∷ (0x08, with_three (Alu op.Mul) f.a f.b f.c)
    ∷ (0x09, with_three (Alu op.Div) f.a f.b f.c)
    ∷ (0x0a, with_three (Alu op.Rem) f.a f.b f.c)
    ∷ (0x0b, with_three (Alu op.And) f.a f.b f.c)
    ∷ (0x0c, with_three (Alu op.Or) f.a f.b f.c)
    ∷ (0x0d, with_three (Alu op.Xor) f.a f.b f.c)
    ∷ (0x0e, with_three (Alu op.Shl) f.a f.b f.c)
    ∷ (0x0f, with_three (Alu op.Shr) f.a f.b f.c)
    ∷ (0x10, with_three (Alu op.Ltu) f.a f.b f.c)
    ∷ (0x11, with_three Eq f.a f.b f.c)
    ∷ (0x12, with_two 8 8 Isref f.a f.b)
    ∷ []

abbrev pub control : Fields → List (ℕ × Option Instr)
control f =
    (0x13, Some (Jmp f.imm))
    ∷ (0x14, with_one 8 (λ a. Jz a f.imm) f.a)
    ∷ (0x15, with_one 8 (λ a. Jnz a f.imm) f.a)
    ∷ (0x16, with_one 8 Getb f.a)
    ∷ (0x17, with_one 8 Putb f.a)
    ∷ (0x18, with_one 8 Putn f.a)
    ∷ (0x19, with_one 8 Task f.a)
    ∷ []

abbrev pub iterators : Fields → List (ℕ × Option Instr)
iterators f =
    (0x20, with_two 4 8 Open f.a f.b)
    ∷ (0x21, with_two 4 8 Openr f.a f.b)
    ∷ (0x22, with_two 4 8 Seek f.a f.b)
    ∷ (0x23, with_two 8 4 Pos f.a f.b)
    ∷ (0x24, with_two 8 4 Load f.a f.b)
    ∷ (0x25, with_two 4 8 Store f.a f.b)
    ∷ []

abbrev pub memory : Fields → List (ℕ × Option Instr)
memory f =
    (0x26, with_two 8 4 Find f.a f.b)
    ∷ (0x27, with_two 8 4 Next f.a f.b)
    ∷ (0x28, with_two 8 4 Commit f.a f.b)
    ∷ (0x29, with_one 4 Abort f.a)
    ∷ (0x2a, with_one 4 Close f.a)
    ∷ (0x2b, with_two 8 8 Root f.a f.b)
    ∷ (0x2c, with_two 8 4 Snap f.a f.b)
    ∷ (0x2d, with_two 8 4 Seal f.a f.b)
    ∷ (0x2e, with_three Mcas f.a f.b f.c)
    ∷ []

-- the instruction beside an opcode
abbrev pub chosen : ℕ → List (ℕ × Option Instr) → Option Instr
chosen opcode [] = None
chosen opcode (c ∷ cs) = if opcode == c.0 then c.1 else chosen opcode cs

-- the one candidate for an opcode
abbrev pub candidate_of : Fields → Option Instr
candidate_of f =
    if nat_le f.opcode 0x12 then chosen f.opcode (arithmetic f) else
    if nat_le f.opcode 0x19 then chosen f.opcode (control f) else
    if nat_le f.opcode 0x25 then chosen f.opcode (iterators f) else chosen f.opcode (memory f)

-- the five fields of eight bytes
abbrev pub fields_at : List ℕ → Fields
fields_at bytes = row (slice_index bytes 0) (slice_index bytes 1) (slice_index bytes 2) (slice_index bytes 3) (from_le_bytes w32 (drop 4 bytes))

-- the instruction, where these are its bytes
abbrev pub if_spelled : List ℕ → Instr → Option Instr
if_spelled bytes i = if bytes_eq (spelling i) bytes then Some i else None

-- the instruction that the bytes spell
unfoldable pub instr_at : List ℕ → Option Instr
instr_at bytes = option_and_then (if_spelled bytes) (candidate_of (fields_at bytes))
