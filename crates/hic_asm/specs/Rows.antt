-- Worked rows: a program, and a source for each fault.
use Rattle.std.specs.Prelude.{◌≡◌, ℕ, List, [], ◌∷◌, ◌++◌, codes, Ok, Err, refl}
use Rattle.std.specs.Fmt.{digits}
use Rattle.hic_isa.specs.declared.instr.Instr.TheVariants as instr
use Rattle.hic_isa.specs.declared.instr.SegKind.TheVariants.{Merge}
use Rattle.hic_isa.specs.Spelling.{spelling}
use Rattle.hic_isa.specs.Decoding.{instr_at}
use Rattle.hic_object.specs.Parts.{Parts, parts}
use Rattle.hic_asm.specs.declared.error.AsmError.{AsmError}
use Rattle.hic_asm.specs.declared.error.AsmError.TheVariants.{NotText, Word, LabelTwice, Operand, Register, Number, Limit, Order, LabelMissing}
use Rattle.hic_asm.specs.Words.{words}
use Rattle.hic_asm.specs.Table.{form_named, form_with}
use Rattle.hic_asm.specs.Lines.{register_at, imm_at, fields_at, task_at, segment_at, record_at, worded, line_at}
use Rattle.hic_asm.specs.Assembly.{defined_by, line_after, built_by, line_built, pass, assembled_lines, assembled}
use Rattle.hic_asm.specs.ObjectText.{instruction_line, dis_text}

-- lines, each with a line feed
abbrev text : List (List ℕ) → List ℕ
text [] = []
text (line ∷ lines) = line ++ (10 ∷ text lines)

-- the program that writes the letter H
abbrev hello : List ℕ
hello = text (codes ".task 0" ∷ codes "li r0 72" ∷ codes "putb r0" ∷ codes "halt" ∷ [])

abbrev hello_object : Parts
hello_object = parts (0 ∷ []) [] [] (instr.Li 0 72 ∷ instr.Putb 0 ∷ instr.Halt ∷ [])

assembled_hello : assembled hello ≡ Ok hello_object
unfolding words form_named register_at imm_at fields_at task_at segment_at record_at worded line_at defined_by line_after built_by line_built pass assembled_lines instr_at spelling
assembled_hello = refl

hello_text : dis_text hello_object ≡ hello
unfolding dis_text instruction_line form_with digits
hello_text = refl

-- a segment with a word, a task at a label, a jump back to it, and a number below 0
abbrev backwards : List ℕ
backwards = text (codes ".task again ; the one task" ∷ codes ".seg merge" ∷ codes ".data 0 0x10 7" ∷ [] ∷ codes "halt" ∷ codes "again:" ∷ codes "addi r1 r2 -1" ∷ codes "jnz r1 again" ∷ [])

abbrev backwards_object : Parts
backwards_object = parts (1 ∷ []) (Merge ∷ []) (record { segment = 0; offset = 16; value = 7 } ∷ []) (instr.Halt ∷ instr.Addi 1 2 0xffffffff ∷ instr.Jnz 1 1 ∷ [])

assembled_backwards : assembled backwards ≡ Ok backwards_object
unfolding words form_named register_at imm_at fields_at task_at segment_at record_at worded line_at defined_by line_after built_by line_built pass assembled_lines instr_at spelling
assembled_backwards = refl

backwards_text : dis_text backwards_object ≡ text (codes ".task 1" ∷ codes ".seg merge" ∷ codes ".data 0 16 7" ∷ codes "halt" ∷ codes "addi r1 r2 -1" ∷ codes "jnz r1 1" ∷ [])
unfolding dis_text instruction_line form_with digits
backwards_text = refl

-- a source and its first fault
abbrev IsRefused : List (List ℕ) → AsmError → Type 0
IsRefused lines error = assembled (text lines) ≡ Err error

refusals :
    IsRefused (codes "halt" ∷ (codes "; " ++ 0x7F ∷ []) ∷ []) (NotText 2)
    × IsRefused (codes "halt" ∷ codes "stop" ∷ []) (Word 2)
    × IsRefused (codes "a: li r0 1" ∷ []) (Word 1)
    × IsRefused (codes "a:" ∷ [] ∷ codes "a:" ∷ []) (LabelTwice 3)
    × IsRefused (codes "li r0" ∷ []) (Operand 1)
    × IsRefused (codes "li r8 1 1" ∷ []) (Operand 1)
    × IsRefused (codes "li r8 1" ∷ []) (Register 1)
    × IsRefused (codes "li r0 4294967296" ∷ []) (Number 1)
    × IsRefused (codes "li r0 000000000000000000001" ∷ []) (Number 1)
    × IsRefused (codes "addi r0 r0 -2147483649" ∷ []) (Number 1)
    × IsRefused (codes ".seg plain" ∷ codes ".data 1 0 5" ∷ []) (Limit 2)
    × IsRefused (codes ".seg plain" ∷ codes ".data 0 0 5" ∷ codes ".data 0 0 5" ∷ []) (Order 3)
    × IsRefused [] (Limit 1)
    × IsRefused (codes "; nothing" ∷ []) (Limit 2)
    × IsRefused (codes ".task 1" ∷ codes "halt" ∷ []) (Limit 1)
    × IsRefused (codes "halt" ∷ codes "jmp ab" ∷ codes "a:" ∷ []) (LabelMissing 2)
unfolding words form_named register_at imm_at fields_at task_at segment_at record_at worded line_at defined_by line_after built_by line_built pass assembled_lines instr_at spelling
refusals = (refl, refl, refl, refl, refl, refl, refl, refl, refl, refl, refl, refl, refl, refl, refl, refl)
