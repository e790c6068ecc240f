-- The text of an object.
use Rattle.std.specs.Prelude.{ℕ, ◌-◌, ◌^◌, nat_lt, if◌then◌else◌, List, [], ◌∷◌, ◌++◌, flat_map, codes, Option, Some, None}
use Rattle.std.specs.Fmt.{decimal}
use Rattle.hic_isa.specs.declared.instr.Instr.{Instr}
use Rattle.hic_isa.specs.declared.instr.SegKind.{SegKind}
use Rattle.hic_isa.specs.declared.instr.SegKind.TheVariants.{Plain, Merge}
use Rattle.hic_isa.specs.Spelling.{Fields, fields_of}
use Rattle.hic_object.specs.declared.object.DataRec.{DataRec}
use Rattle.hic_object.specs.Parts.{Parts}
use Rattle.hic_asm.specs.declared.table.RegisterField.{RegisterField}
use Rattle.hic_asm.specs.declared.table.RegisterField.TheVariants as field
use Rattle.hic_asm.specs.declared.table.NumberField.{NumberField}
use Rattle.hic_asm.specs.declared.table.NumberField.TheVariants as imm
use Rattle.hic_asm.specs.Table.{Form, form_with}

-- words after a first one, each after a space
abbrev pub spaced : List (List ℕ) → List ℕ
spaced operands = flat_map (λ word. 32 ∷ word) operands

-- a line of words
abbrev pub text_line : List ℕ → List (List ℕ) → List ℕ
text_line first operands = first ++ (spaced operands ++ 10 ∷ [])

abbrev pub task_line : ℕ → List ℕ
task_line entry = text_line (codes ".task") (decimal entry ∷ [])

abbrev pub kind_word : SegKind → List ℕ
kind_word Plain = codes "plain"
kind_word Merge = codes "merge"

abbrev pub segment_line : SegKind → List ℕ
segment_line kind = text_line (codes ".seg") (kind_word kind ∷ [])

abbrev pub record_line : DataRec → List ℕ
record_line word = text_line (codes ".data") (decimal word.segment ∷ decimal word.offset ∷ decimal word.value ∷ [])

-- r0 to r7, i0 to i3
abbrev pub register_text : RegisterField → ℕ → List (List ℕ)
register_text field.Unused n = []
register_text field.Register n = (114 ∷ decimal n) ∷ []
register_text field.Iterator n = (105 ∷ decimal n) ∷ []

-- a two's complement number of 32 bits
abbrev pub signed_text : ℕ → List ℕ
signed_text n = if nat_lt n (2 ^ 31) then decimal n else 45 ∷ decimal (2 ^ 32 - n)

abbrev pub imm_text : NumberField → ℕ → List (List ℕ)
imm_text imm.NoNumber n = []
imm_text imm.Number n = decimal n ∷ []
imm_text imm.Signed n = signed_text n ∷ []
imm_text imm.Target n = decimal n ∷ []

abbrev pub operands_text : Form → Fields → List (List ℕ)
operands_text form f = register_text form.a f.a ++ (register_text form.b f.b ++ (register_text form.c f.c ++ imm_text form.imm f.imm))

-- a line of this form with these fields; every opcode has its form
abbrev pub formed : Option Form → Fields → List ℕ
formed None f = []
formed (Some form) f = text_line form.mnemonic (operands_text form f)

unfoldable pub instruction_line : Instr → List ℕ
instruction_line instr = formed (form_with (fields_of instr).opcode) (fields_of instr)

-- the tasks, the segments, the records and the instructions, each in a line
unfoldable pub dis_text : Parts → List ℕ
dis_text o = flat_map task_line o.entries ++ (flat_map segment_line o.kinds ++ (flat_map record_line o.words ++ flat_map instruction_line o.code))
