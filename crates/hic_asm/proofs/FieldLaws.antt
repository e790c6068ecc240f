-- The fields of an instruction, from its bytes.
use Rattle.std.proofs.Common.{◌≡◌, ◌<◌, ◌^◌, ℕ, List, [], ◌∷◌, ap, ◌∙◌, get_or, lit<}
use Rattle.std.specs.Int.{w32, from_le_bytes}
use Rattle.std.proofs.lemmas.Nat.{from_le_bytes-to_le_bytes_4}
use Rattle.hic_isa.specs.declared.instr.Instr.{Instr}
use Rattle.hic_isa.specs.declared.instr.Instr.TheVariants.{Halt, Li, Lih, Mov, Addi, Alu, Eq, Isref, Jmp, Jz, Jnz, Getb, Putb, Putn, Task, Open, Openr, Seek, Pos, Load, Store, Find, Next, Commit, Abort, Close, Root, Snap, Seal, Mcas}
use Rattle.hic_isa.specs.Spelling.{Fields, row, fields_of, spelling, bytes_of, IsInstr}

-- the field imm fits its bytes
pub imm-below : (i : Instr) → IsInstr i → (fields_of i).imm < 2 ^ 32
imm-below (Li a imm) h = h.1
imm-below (Lih a imm) h = h.1
imm-below (Addi a b imm) h = h.2
imm-below (Jmp imm) h = h
imm-below (Jz a imm) h = h.1
imm-below (Jnz a imm) h = h.1
imm-below Halt h = lit< tt
imm-below (Mov a b) h = lit< tt
imm-below (Alu op a b c) h = lit< tt
imm-below (Eq a b c) h = lit< tt
imm-below (Isref a b) h = lit< tt
imm-below (Getb a) h = lit< tt
imm-below (Putb a) h = lit< tt
imm-below (Putn a) h = lit< tt
imm-below (Task a) h = lit< tt
imm-below (Open a b) h = lit< tt
imm-below (Openr a b) h = lit< tt
imm-below (Seek a b) h = lit< tt
imm-below (Pos a b) h = lit< tt
imm-below (Load a b) h = lit< tt
imm-below (Store a b) h = lit< tt
imm-below (Find a b) h = lit< tt
imm-below (Next a b) h = lit< tt
imm-below (Commit a b) h = lit< tt
imm-below (Abort a) h = lit< tt
imm-below (Close a) h = lit< tt
imm-below (Root a b) h = lit< tt
imm-below (Snap a b) h = lit< tt
imm-below (Seal a b) h = lit< tt
imm-below (Mcas a b c) h = lit< tt

-- the fields that stand in an instruction's bytes
abbrev fields_in : List ℕ → Fields
fields_in bytes = row (get_or bytes 0 0) (get_or bytes 1 0) (get_or bytes 2 0) (get_or bytes 3 0) (from_le_bytes w32 (get_or bytes 4 0 ∷ get_or bytes 5 0 ∷ get_or bytes 6 0 ∷ get_or bytes 7 0 ∷ []))

spelled_fields : (f : Fields) → f.imm < 2 ^ 32 → fields_in (bytes_of f) ≡ f
spelled_fields f fits = ap (row f.opcode f.a f.b f.c) (from_le_bytes-to_le_bytes_4 f.imm fits)

pub fields_in-spelling : (i : Instr) (bytes : List ℕ) → IsInstr i → bytes ≡ spelling i → fields_in bytes ≡ fields_of i
unfolding spelling
fields_in-spelling i bytes fits is = ap fields_in is ∙ spelled_fields (fields_of i) (imm-below i fits)
