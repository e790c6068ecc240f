-- The bytes of an instruction.
use Rattle.std.specs.Prelude.{◌≡◌, ◌<◌, ◌^◌, ℕ, List, [], ◌∷◌, refl}
use Rattle.std.specs.Int.{w32, to_le_bytes}
use Rattle.hic_isa.specs.declared.instr.AluOp.{AluOp}
use Rattle.hic_isa.specs.declared.instr.AluOp.TheVariants as op
use Rattle.hic_isa.specs.declared.instr.Instr.{Instr}
use Rattle.hic_isa.specs.declared.instr.Instr.TheVariants.{Halt, Li, Lih, Mov, Addi, Alu, Eq, Isref, Jmp, Jz, Jnz, Getb, Putb, Putn, Task, Open, Openr, Seek, Pos, Load, Store, Find, Next, Commit, Abort, Close, Root, Snap, Seal, Mcas}

-- the five fields of an instruction
pub record Fields : Type 0 where
  pub opcode : ℕ
  pub a : ℕ
  pub b : ℕ
  pub c : ℕ
  pub imm : ℕ

abbrev pub row : ℕ → ℕ → ℕ → ℕ → ℕ → Fields
row opcode a b c imm = record { opcode = opcode; a = a; b = b; c = c; imm = imm }

abbrev pub alu_opcode : AluOp → ℕ
alu_opcode op.Add = 0x06
alu_opcode op.Sub = 0x07
alu_opcode op.Mul = 0x08
alu_opcode op.Div = 0x09
alu_opcode op.Rem = 0x0a
alu_opcode op.And = 0x0b
alu_opcode op.Or = 0x0c
alu_opcode op.Xor = 0x0d
alu_opcode op.Shl = 0x0e
alu_opcode op.Shr = 0x0f
alu_opcode op.Ltu = 0x10

-- the table of instructions; a field that an instruction does not use is 0
abbrev pub fields_of : Instr → Fields
fields_of Halt = row 0x01 0 0 0 0
fields_of (Li a imm) = row 0x02 a 0 0 imm
fields_of (Lih a imm) = row 0x03 a 0 0 imm
fields_of (Mov a b) = row 0x04 a b 0 0
fields_of (Addi a b imm) = row 0x05 a b 0 imm
fields_of (Alu op a b c) = row (alu_opcode op) a b c 0
fields_of (Eq a b c) = row 0x11 a b c 0
fields_of (Isref a b) = row 0x12 a b 0 0
fields_of (Jmp imm) = row 0x13 0 0 0 imm
fields_of (Jz a imm) = row 0x14 a 0 0 imm
fields_of (Jnz a imm) = row 0x15 a 0 0 imm
fields_of (Getb a) = row 0x16 a 0 0 0
fields_of (Putb a) = row 0x17 a 0 0 0
fields_of (Putn a) = row 0x18 a 0 0 0
fields_of (Task a) = row 0x19 a 0 0 0
fields_of (Open a b) = row 0x20 a b 0 0
fields_of (Openr a b) = row 0x21 a b 0 0
fields_of (Seek a b) = row 0x22 a b 0 0
fields_of (Pos a b) = row 0x23 a b 0 0
fields_of (Load a b) = row 0x24 a b 0 0
fields_of (Store a b) = row 0x25 a b 0 0
fields_of (Find a b) = row 0x26 a b 0 0
fields_of (Next a b) = row 0x27 a b 0 0
fields_of (Commit a b) = row 0x28 a b 0 0
fields_of (Abort a) = row 0x29 a 0 0 0
fields_of (Close a) = row 0x2a a 0 0 0
fields_of (Root a b) = row 0x2b a b 0 0
fields_of (Snap a b) = row 0x2c a b 0 0
fields_of (Seal a b) = row 0x2d a b 0 0
fields_of (Mcas a b c) = row 0x2e a b c 0

-- one byte for each field but imm, which has four from the lowest
abbrev pub bytes_of : Fields → List ℕ
bytes_of f = f.opcode ∷ f.a ∷ f.b ∷ f.c ∷ to_le_bytes w32 f.imm

-- the eight bytes of an instruction
unfoldable pub spelling : Instr → List ℕ
spelling i = bytes_of (fields_of i)

-- the fields of an instruction are in their ranges: a register below 8, an iterator register below 4
abbrev pub IsInstr : Instr → Type 0
IsInstr Halt = Unit {0}
IsInstr (Li a imm) = (a < 8) × (imm < 2 ^ 32)
IsInstr (Lih a imm) = (a < 8) × (imm < 2 ^ 32)
IsInstr (Mov a b) = (a < 8) × (b < 8)
IsInstr (Addi a b imm) = (a < 8) × (b < 8) × (imm < 2 ^ 32)
IsInstr (Alu op a b c) = (a < 8) × (b < 8) × (c < 8)
IsInstr (Eq a b c) = (a < 8) × (b < 8) × (c < 8)
IsInstr (Isref a b) = (a < 8) × (b < 8)
IsInstr (Jmp imm) = imm < 2 ^ 32
IsInstr (Jz a imm) = (a < 8) × (imm < 2 ^ 32)
IsInstr (Jnz a imm) = (a < 8) × (imm < 2 ^ 32)
IsInstr (Getb a) = a < 8
IsInstr (Putb a) = a < 8
IsInstr (Putn a) = a < 8
IsInstr (Task a) = a < 8
IsInstr (Open a b) = (a < 4) × (b < 8)
IsInstr (Openr a b) = (a < 4) × (b < 8)
IsInstr (Seek a b) = (a < 4) × (b < 8)
IsInstr (Pos a b) = (a < 8) × (b < 4)
IsInstr (Load a b) = (a < 8) × (b < 4)
IsInstr (Store a b) = (a < 4) × (b < 8)
IsInstr (Find a b) = (a < 8) × (b < 4)
IsInstr (Next a b) = (a < 8) × (b < 4)
IsInstr (Commit a b) = (a < 8) × (b < 4)
IsInstr (Abort a) = a < 4
IsInstr (Close a) = a < 4
IsInstr (Root a b) = (a < 8) × (b < 8)
IsInstr (Snap a b) = (a < 8) × (b < 4)
IsInstr (Seal a b) = (a < 8) × (b < 4)
IsInstr (Mcas a b c) = (a < 8) × (b < 8) × (c < 8)

-- the letter H in register 0 is spelled so
row-li : spelling (Li 0 72) ≡ 0x02 ∷ 0 ∷ 0 ∷ 0 ∷ 0x48 ∷ 0 ∷ 0 ∷ 0 ∷ []
unfolding spelling
row-li = refl

-- one less in register 5
row-addi : spelling (Addi 5 5 0xffffffff) ≡ 0x05 ∷ 5 ∷ 5 ∷ 0 ∷ 0xff ∷ 0xff ∷ 0xff ∷ 0xff ∷ []
unfolding spelling
row-addi = refl
