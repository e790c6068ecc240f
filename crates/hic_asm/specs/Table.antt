-- The instructions: their words, as their bytes stand in the encoding of instructions.
use Rattle.std.specs.Prelude.{ℕ, ◌+◌, List, [], ◌∷◌, codes, find, bytes_eq, ◌==◌, Option}
use Rattle.hic_asm.specs.declared.table.Form.{Form as CodeForm}
use Rattle.hic_asm.specs.declared.table.RegisterField.{RegisterField}
use Rattle.hic_asm.specs.declared.table.RegisterField.TheVariants as field
use Rattle.hic_asm.specs.declared.table.NumberField.{NumberField}
use Rattle.hic_asm.specs.declared.table.NumberField.TheVariants as imm

-- a mnemonic, its opcode, and how each of the fields a, b, c and imm is written; the words of the used fields stand in
-- this order
pub record Form : Type 0 where
  pub mnemonic : List ℕ
  pub opcode : ℕ
  pub a : RegisterField
  pub b : RegisterField
  pub c : RegisterField
  pub imm : NumberField

abbrev pub form : List ℕ → ℕ → RegisterField → RegisterField → RegisterField → NumberField → Form
form mnemonic opcode a b c imm = record { mnemonic = mnemonic; opcode = opcode; a = a; b = b; c = c; imm = imm }

-- a form of the code
abbrev pub form_of : CodeForm → Form
form_of f = form f.0.now f.1 f.2 f.3 f.4 f.5

-- a register, an iterator register, and fields that are not used
abbrev r : RegisterField
r = field.Register

abbrev i : RegisterField
i = field.Iterator

abbrev o : RegisterField
o = field.Unused

abbrev none : NumberField
none = imm.NoNumber

abbrev pub forms : List Form
forms =
    form (codes "halt") 0x01 o o o none
    ∷ form (codes "li") 0x02 r o o imm.Number
    ∷ form (codes "lih") 0x03 r o o imm.Number
    ∷ form (codes "mov") 0x04 r r o none
    ∷ form (codes "addi") 0x05 r r o imm.Signed
    ∷ form (codes "add") 0x06 r r r none
    ∷ form (codes "sub") 0x07 r r r none
    ∷ form (codes "mul") 0x08 r r r none
    ∷ form (codes "div") 0x09 r r r none
    ∷ form (codes "rem") 0x0a r r r none
    ∷ form (codes "and") 0x0b r r r none
    ∷ form (codes "or") 0x0c r r r none
    ∷ form (codes "xor") 0x0d r r r none
    ∷ form (codes "shl") 0x0e r r r none
    ∷ form (codes "shr") 0x0f r r r none
    ∷ form (codes "ltu") 0x10 r r r none
    ∷ form (codes "eq") 0x11 r r r none
    ∷ form (codes "isref") 0x12 r r o none
    ∷ form (codes "jmp") 0x13 o o o imm.Target
    ∷ form (codes "jz") 0x14 r o o imm.Target
    ∷ form (codes "jnz") 0x15 r o o imm.Target
    ∷ form (codes "getb") 0x16 r o o none
    ∷ form (codes "putb") 0x17 r o o none
    ∷ form (codes "putn") 0x18 r o o none
    ∷ form (codes "task") 0x19 r o o none
    ∷ form (codes "open") 0x20 i r o none
    ∷ form (codes "openr") 0x21 i r o none
    ∷ form (codes "seek") 0x22 i r o none
    ∷ form (codes "pos") 0x23 r i o none
    ∷ form (codes "load") 0x24 r i o none
    ∷ form (codes "store") 0x25 i r o none
    ∷ form (codes "find") 0x26 r i o none
    ∷ form (codes "next") 0x27 r i o none
    ∷ form (codes "commit") 0x28 r i o none
    ∷ form (codes "abort") 0x29 i o o none
    ∷ form (codes "close") 0x2a i o o none
    ∷ form (codes "root") 0x2b r r o none
    ∷ form (codes "snap") 0x2c r i o none
    ∷ form (codes "seal") 0x2d r i o none
    ∷ form (codes "mcas") 0x2e r r r none
    ∷ []

-- the form with this mnemonic
unfoldable pub form_named : List ℕ → Option Form
form_named mnemonic = find (λ form. bytes_eq form.mnemonic mnemonic) forms

-- the form with this opcode
unfoldable pub form_with : ℕ → Option Form
form_with opcode = find (λ form. form.opcode == opcode) forms

-- the number of words of a register field, and of the field imm
abbrev pub register_words : RegisterField → ℕ
register_words field.Unused = 0
register_words field.Register = 1
register_words field.Iterator = 1

abbrev pub number_words : NumberField → ℕ
number_words imm.NoNumber = 0
number_words imm.Number = 1
number_words imm.Signed = 1
number_words imm.Target = 1

-- how many words stand after the mnemonic
abbrev pub operand_count : Form → ℕ
operand_count form = register_words form.a + register_words form.b + register_words form.c + number_words form.imm
