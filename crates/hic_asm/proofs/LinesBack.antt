-- Lines that are written are read back.
use Rattle.std.proofs.Common.{◌≡◌, ℕ, ◌<◌, ◌≤◌, ◌^◌, Bool, true, false, not, cond, ◌&&◌, eqb, leb, List, [], ◌∷◌, ◌++◌, length, codes, bytes_eq, flat_map, map, Option, Some, None, is_none, Ok, refl, ap, sym, subst, ◌∙◌, arith}
use Rattle.std.specs.Fmt.{decimal}
use Rattle.std.specs.List.{AllByRecursion, list_all}
use Rattle.std.proofs.lemmas.Bool.{leb-true}
use Rattle.std.proofs.lemmas.List.{append_assoc}
use Rattle.std.proofs.lemmas.List.Concat.{flat_map-cons}
use Rattle.hic_isa.specs.declared.instr.AluOp.TheVariants as op
use Rattle.hic_isa.specs.declared.instr.Instr.{Instr}
use Rattle.hic_isa.specs.declared.instr.Instr.TheVariants.{Halt, Li, Lih, Mov, Addi, Alu, Eq, Isref, Jmp, Jz, Jnz, Getb, Putb, Putn, Task, Open, Openr, Seek, Pos, Load, Store, Find, Next, Commit, Abort, Close, Root, Snap, Seal, Mcas}
use Rattle.hic_isa.specs.declared.instr.SegKind.{SegKind}
use Rattle.hic_isa.specs.declared.instr.SegKind.TheVariants.{Plain, Merge}
use Rattle.hic_isa.specs.Spelling.{fields_of, IsInstr}
use Rattle.hic_object.specs.declared.object.DataRec.{DataRec}
use Rattle.text_lines.specs.Pieces.{pieces}
use Rattle.hic_asm.specs.declared.error.Fault.TheVariants.{NotText, Word}
use Rattle.hic_asm.specs.declared.table.RegisterField.TheVariants as field
use Rattle.hic_asm.specs.declared.table.NumberField.TheVariants as imm
use Rattle.hic_asm.specs.Faults.{given, and_then}
use Rattle.hic_asm.specs.Operands.{Index, number_within, most_16, most_32, most_64}
use Rattle.hic_asm.specs.Table.{Form, form, forms, form_named, form_with}
use Rattle.hic_asm.specs.Words.{words_of_line}
use Rattle.hic_asm.specs.Lines.{Line, Segment, Record, Code, task_at, segment_at, record_at, counted, value, with_rest, onward, ◌>>=◌, gives, word_at, before_colon, label_or_mnemonic, instruction_at, worded, by_words, line_at}
use Rattle.hic_asm.specs.Lines as lines
use Rattle.hic_asm.specs.ObjectText.{text_line, task_line, segment_line, record_line, operands_text, formed, instruction_line}
use Rattle.hic_asm.proofs.FormLaws.{find-all}
use Rattle.hic_asm.proofs.OperandsBack.{FieldsFit, draft_of, instruction_at-text, plain-operands, plain-decimal, target_of-decimal, number_within-decimal}
use Rattle.hic_asm.proofs.PlainLines.{is_plain, IsPlainWord, ArePlain, line_of, quiet-line, is_text-quiet, words_of_line-plain, pieces-text_line}

-- a line of plain words is read by them
line_at-plain : (first : List ℕ) (operands : List (List ℕ)) → IsPlainWord first → ArePlain operands → line_at (line_of first operands) ≡ worded first operands
unfolding line_at
line_at-plain first operands is all =
    let line = line_of first operands in
    ap (λ b. and_then (given (cond b (Some line) None) NotText) (λ text. by_words (words_of_line text))) (is_text-quiet line (quiet-line first operands is all))
    ∙ ap by_words (words_of_line-plain first operands is all)

-- ---- texts that spell lines

-- pieces are read as lines
abbrev pub ReadAs : List (List ℕ) → List Line → Type 0
ReadAs [] [] = Unit {0}
ReadAs [] (line ∷ lines) = ⊥
ReadAs (piece ∷ pieces) [] = ⊥
ReadAs (piece ∷ pieces) (line ∷ lines) = (line_at piece ≡ Ok line) × ReadAs pieces lines

-- a text before any other is of pieces that are read as these lines
pub record Spells (text : List ℕ) (lines : List Line) : Type 0 where
  pub contents : List (List ℕ)
  pub cut : (rest : List ℕ) → pieces (text ++ rest) ≡ contents ++ pieces rest
  pub reads : ReadAs contents lines

ReadAs-append : (ps qs : List (List ℕ)) (ls ms : List Line) → ReadAs ps ls → ReadAs qs ms → ReadAs (ps ++ qs) (ls ++ ms)
ReadAs-append [] qs [] ms front back = back
ReadAs-append [] qs (l ∷ ls) ms front back = absurd front
ReadAs-append (p ∷ ps) qs [] ms front back = absurd front
ReadAs-append (p ∷ ps) qs (l ∷ ls) ms front back = (front.0, ReadAs-append ps qs ls ms front.1 back)

pub Spells-nil : Spells [] []
Spells-nil = record { contents = []; cut = λ rest. refl; reads = tt }

pub Spells-append : (text more : List ℕ) (ls ms : List Line) → Spells text ls → Spells more ms → Spells (text ++ more) (ls ++ ms)
Spells-append text more ls ms first second = record {
  contents = first.contents ++ second.contents;
  cut = λ rest. ap pieces (append_assoc text more rest) ∙ first.cut (more ++ rest) ∙ ap (λ ps. first.contents ++ ps) (second.cut rest) ∙ sym (append_assoc first.contents second.contents (pieces rest));
  reads = ReadAs-append first.contents second.contents ls ms first.reads second.reads;
}

Spells-line : (first : List ℕ) (operands : List (List ℕ)) (line : Line) → IsPlainWord first → ArePlain operands → worded first operands ≡ Ok line → Spells (text_line first operands) (line ∷ [])
Spells-line first operands line is all reads = record {
  contents = line_of first operands ∷ [];
  cut = λ rest. pieces-text_line first operands rest is all;
  reads = (line_at-plain first operands is all ∙ reads, tt);
}

-- an item for each line
pub Spells-each : {X : Type 0} (P : X → Type 0) (text : X → List ℕ) (line : X → Line) → ((x : X) → P x → Spells (text x) (line x ∷ [])) → (xs : List X) → AllByRecursion P xs → Spells (flat_map text xs) (map line xs)
Spells-each P text line each [] all = Spells-nil
Spells-each P text line each (x ∷ xs) all =
    subst (λ t. Spells t (map line (x ∷ xs))) (sym (flat_map-cons text x xs))
    (Spells-append (text x) (flat_map text xs) (line x ∷ []) (map line xs) (each x all.0) (Spells-each P text line each xs all.1))

-- ---- directives

pub Spells-task : (entry : ℕ) → entry < 2 ^ 32 → Spells (task_line entry) (lines.Task (Index entry) ∷ [])
unfolding task_at worded
Spells-task entry fits =
    Spells-line (codes ".task") (decimal entry ∷ []) (lines.Task (Index entry)) (record { some = omega arith; plain = refl }) (plain-decimal entry (omega arith), tt)
    (ap (λ r. value (onward (with_rest [] r) (λ e. gives (lines.Task e)))) (target_of-decimal entry fits))

pub Spells-segment : (kind : SegKind) → Spells (segment_line kind) (Segment kind ∷ [])
unfolding segment_at worded
Spells-segment Plain = Spells-line (codes ".seg") (codes "plain" ∷ []) (Segment Plain) (record { some = omega arith; plain = refl }) (record { some = omega arith; plain = refl }, tt) refl
Spells-segment Merge = Spells-line (codes ".seg") (codes "merge" ∷ []) (Segment Merge) (record { some = omega arith; plain = refl }) (record { some = omega arith; plain = refl }, tt) refl

-- the numbers of a record fit
pub record RecordFits (w : DataRec) : Type 0 where
  pub segment : w.segment ≤ most_16
  pub offset : w.offset ≤ most_32
  pub some : 1 ≤ w.value
  pub value : w.value ≤ most_64

record_at-text : (w : DataRec) → RecordFits w → record_at (decimal w.segment ∷ decimal w.offset ∷ decimal w.value ∷ []) ≡ Ok (Record w, [])
unfolding record_at
record_at-text w fits =
    let made = λ (segment offset value : ℕ). Record (record { segment = segment; offset = offset; value = value }) in
    ap (λ r. onward (with_rest (decimal w.offset ∷ decimal w.value ∷ []) r) (λ s. word_at (number_within 0 most_32) >>= λ o. word_at (number_within 1 most_64) >>= λ v. gives (made s o v))) (number_within-decimal 0 most_16 w.segment (omega arith) fits.segment (omega (arith, fits.segment)))
    ∙ ap (λ r. onward (with_rest (decimal w.value ∷ []) r) (λ o. word_at (number_within 1 most_64) >>= λ v. gives (made w.segment o v))) (number_within-decimal 0 most_32 w.offset (omega arith) fits.offset (omega (arith, fits.offset)))
    ∙ ap (λ r. onward (with_rest [] r) (λ v. gives (made w.segment w.offset v))) (number_within-decimal 1 most_64 w.value fits.some fits.value (omega (arith, fits.value)))

pub Spells-record : (w : DataRec) → RecordFits w → Spells (record_line w) (Record w ∷ [])
unfolding worded
Spells-record w fits =
    Spells-line (codes ".data") (decimal w.segment ∷ decimal w.offset ∷ decimal w.value ∷ []) (Record w) (record { some = omega arith; plain = refl })
    (plain-decimal w.segment (omega (arith, fits.segment)), (plain-decimal w.offset (omega (arith, fits.offset)), (plain-decimal w.value (omega (arith, fits.value)), tt)))
    (ap value (record_at-text w fits))

-- ---- instructions

-- a mnemonic is a plain word, no directive and no label
is_mnemonic : List ℕ → Bool
is_mnemonic word = (leb 1 (length word) && list_all is_plain word) && ((not (bytes_eq word (codes ".task")) && not (bytes_eq word (codes ".seg"))) && (not (bytes_eq word (codes ".data")) && is_none (before_colon word)))

record IsMnemonic (word : List ℕ) : Type 0 where
  plain : IsPlainWord word
  no_task : bytes_eq word (codes ".task") ≡ false
  no_segment : bytes_eq word (codes ".seg") ≡ false
  no_data : bytes_eq word (codes ".data") ≡ false
  no_label : before_colon word ≡ None

both : (a b : Bool) → (a && b) ≡ true → (a ≡ true) × (b ≡ true)
both true b h = (refl, h)
both false b h = absurd (cc)

negated : (b : Bool) → not b ≡ true → b ≡ false
negated true h = absurd (cc)
negated false h = refl

none_is : {X : Type 0} (o : Option X) → is_none o ≡ true → o ≡ None
none_is None h = refl
none_is (Some x) h = absurd (cc)

mnemonic_is : (word : List ℕ) → is_mnemonic word ≡ true → IsMnemonic word
unfolding is_mnemonic
mnemonic_is word h =
    let plain_test = leb 1 (length word) && list_all is_plain word in
    let directive_test = not (bytes_eq word (codes ".task")) && not (bytes_eq word (codes ".seg")) in
    let other_test = not (bytes_eq word (codes ".data")) && is_none (before_colon word) in
    let all = both plain_test (directive_test && other_test) h in
    let plain = both (leb 1 (length word)) (list_all is_plain word) all.0 in
    let names = both directive_test other_test all.1 in
    let first = both (not (bytes_eq word (codes ".task"))) (not (bytes_eq word (codes ".seg"))) names.0 in
    let second = both (not (bytes_eq word (codes ".data"))) (is_none (before_colon word)) names.1 in
    record {
      plain = record { some = omega (arith, leb-true 1 (length word) plain.0); plain = plain.1 };
      no_task = negated _ first.0;
      no_segment = negated _ first.1;
      no_data = negated _ second.0;
      no_label = none_is _ second.1;
    }

forms_mnemonic : AllByRecursion (λ f. is_mnemonic f.mnemonic ≡ true) forms
unfolding is_mnemonic
forms_mnemonic = (refl, (refl, (refl, (refl, (refl, (refl, (refl, (refl, (refl, (refl, (refl, (refl, (refl, (refl, (refl, (refl, (refl, (refl, (refl, (refl, (refl, (refl, (refl, (refl, (refl, (refl, (refl, (refl, (refl, (refl, (refl, (refl, (refl, (refl, (refl, (refl, (refl, (refl, (refl, (refl, tt))))))))))))))))))))))))))))))))))))))))

forms_named : AllByRecursion (λ f. form_named f.mnemonic ≡ Some f) forms
unfolding form_named
forms_named = (refl, (refl, (refl, (refl, (refl, (refl, (refl, (refl, (refl, (refl, (refl, (refl, (refl, (refl, (refl, (refl, (refl, (refl, (refl, (refl, (refl, (refl, (refl, (refl, (refl, (refl, (refl, (refl, (refl, (refl, (refl, (refl, (refl, (refl, (refl, (refl, (refl, (refl, (refl, (refl, tt))))))))))))))))))))))))))))))))))))))))

worded-mnemonic : (form : Form) (operands : List (List ℕ)) → IsMnemonic form.mnemonic → form_named form.mnemonic ≡ Some form → worded form.mnemonic operands ≡ instruction_at form operands
unfolding worded
worded-mnemonic form operands is named =
    let word = form.mnemonic in
    let other = label_or_mnemonic (before_colon word) word operands in
    let data_line = cond (bytes_eq word (codes ".data")) (value (counted 3 record_at operands)) other in
    ap (λ b. cond b (task_at operands) (cond (bytes_eq word (codes ".seg")) (segment_at operands) data_line)) is.no_task
    ∙ ap (λ b. cond b (segment_at operands) data_line) is.no_segment
    ∙ ap (λ b. cond b (value (counted 3 record_at operands)) other) is.no_data
    ∙ ap (λ o. label_or_mnemonic o word operands) is.no_label
    ∙ ap (λ o. and_then (given o Word) (λ f. instruction_at f operands)) named

-- the form of an instruction, which its fields fit
pub record Written (i : Instr) : Type 0 where
  pub form : Form
  pub found : form_with (fields_of i).opcode ≡ Some form
  pub fits : FieldsFit form (fields_of i)

pub written : (i : Instr) → IsInstr i → Written i
unfolding form_with
written Halt h = record { form = form (codes "halt") 0x01 field.Unused field.Unused field.Unused imm.NoNumber; found = refl; fits = record { opcode = refl; a = refl; b = refl; c = refl; imm = refl } }
written (Li a n) h = record { form = form (codes "li") 0x02 field.Register field.Unused field.Unused imm.Number; found = refl; fits = record { opcode = refl; a = h.0; b = refl; c = refl; imm = h.1 } }
written (Lih a n) h = record { form = form (codes "lih") 0x03 field.Register field.Unused field.Unused imm.Number; found = refl; fits = record { opcode = refl; a = h.0; b = refl; c = refl; imm = h.1 } }
written (Mov a b) h = record { form = form (codes "mov") 0x04 field.Register field.Register field.Unused imm.NoNumber; found = refl; fits = record { opcode = refl; a = h.0; b = h.1; c = refl; imm = refl } }
written (Addi a b n) h = record { form = form (codes "addi") 0x05 field.Register field.Register field.Unused imm.Signed; found = refl; fits = record { opcode = refl; a = h.0; b = h.1; c = refl; imm = h.2 } }
written (Alu op.Add a b c) h = record { form = form (codes "add") 0x06 field.Register field.Register field.Register imm.NoNumber; found = refl; fits = record { opcode = refl; a = h.0; b = h.1; c = h.2; imm = refl } }
written (Alu op.Sub a b c) h = record { form = form (codes "sub") 0x07 field.Register field.Register field.Register imm.NoNumber; found = refl; fits = record { opcode = refl; a = h.0; b = h.1; c = h.2; imm = refl } }
written (Alu op.Mul a b c) h = record { form = form (codes "mul") 0x08 field.Register field.Register field.Register imm.NoNumber; found = refl; fits = record { opcode = refl; a = h.0; b = h.1; c = h.2; imm = refl } }
written (Alu op.Div a b c) h = record { form = form (codes "div") 0x09 field.Register field.Register field.Register imm.NoNumber; found = refl; fits = record { opcode = refl; a = h.0; b = h.1; c = h.2; imm = refl } }
written (Alu op.Rem a b c) h = record { form = form (codes "rem") 0x0a field.Register field.Register field.Register imm.NoNumber; found = refl; fits = record { opcode = refl; a = h.0; b = h.1; c = h.2; imm = refl } }
written (Alu op.And a b c) h = record { form = form (codes "and") 0x0b field.Register field.Register field.Register imm.NoNumber; found = refl; fits = record { opcode = refl; a = h.0; b = h.1; c = h.2; imm = refl } }
written (Alu op.Or a b c) h = record { form = form (codes "or") 0x0c field.Register field.Register field.Register imm.NoNumber; found = refl; fits = record { opcode = refl; a = h.0; b = h.1; c = h.2; imm = refl } }
written (Alu op.Xor a b c) h = record { form = form (codes "xor") 0x0d field.Register field.Register field.Register imm.NoNumber; found = refl; fits = record { opcode = refl; a = h.0; b = h.1; c = h.2; imm = refl } }
written (Alu op.Shl a b c) h = record { form = form (codes "shl") 0x0e field.Register field.Register field.Register imm.NoNumber; found = refl; fits = record { opcode = refl; a = h.0; b = h.1; c = h.2; imm = refl } }
written (Alu op.Shr a b c) h = record { form = form (codes "shr") 0x0f field.Register field.Register field.Register imm.NoNumber; found = refl; fits = record { opcode = refl; a = h.0; b = h.1; c = h.2; imm = refl } }
written (Alu op.Ltu a b c) h = record { form = form (codes "ltu") 0x10 field.Register field.Register field.Register imm.NoNumber; found = refl; fits = record { opcode = refl; a = h.0; b = h.1; c = h.2; imm = refl } }
written (Eq a b c) h = record { form = form (codes "eq") 0x11 field.Register field.Register field.Register imm.NoNumber; found = refl; fits = record { opcode = refl; a = h.0; b = h.1; c = h.2; imm = refl } }
written (Isref a b) h = record { form = form (codes "isref") 0x12 field.Register field.Register field.Unused imm.NoNumber; found = refl; fits = record { opcode = refl; a = h.0; b = h.1; c = refl; imm = refl } }
written (Jmp n) h = record { form = form (codes "jmp") 0x13 field.Unused field.Unused field.Unused imm.Target; found = refl; fits = record { opcode = refl; a = refl; b = refl; c = refl; imm = h } }
written (Jz a n) h = record { form = form (codes "jz") 0x14 field.Register field.Unused field.Unused imm.Target; found = refl; fits = record { opcode = refl; a = h.0; b = refl; c = refl; imm = h.1 } }
written (Jnz a n) h = record { form = form (codes "jnz") 0x15 field.Register field.Unused field.Unused imm.Target; found = refl; fits = record { opcode = refl; a = h.0; b = refl; c = refl; imm = h.1 } }
written (Getb a) h = record { form = form (codes "getb") 0x16 field.Register field.Unused field.Unused imm.NoNumber; found = refl; fits = record { opcode = refl; a = h; b = refl; c = refl; imm = refl } }
written (Putb a) h = record { form = form (codes "putb") 0x17 field.Register field.Unused field.Unused imm.NoNumber; found = refl; fits = record { opcode = refl; a = h; b = refl; c = refl; imm = refl } }
written (Putn a) h = record { form = form (codes "putn") 0x18 field.Register field.Unused field.Unused imm.NoNumber; found = refl; fits = record { opcode = refl; a = h; b = refl; c = refl; imm = refl } }
written (Task a) h = record { form = form (codes "task") 0x19 field.Register field.Unused field.Unused imm.NoNumber; found = refl; fits = record { opcode = refl; a = h; b = refl; c = refl; imm = refl } }
written (Open a b) h = record { form = form (codes "open") 0x20 field.Iterator field.Register field.Unused imm.NoNumber; found = refl; fits = record { opcode = refl; a = h.0; b = h.1; c = refl; imm = refl } }
written (Openr a b) h = record { form = form (codes "openr") 0x21 field.Iterator field.Register field.Unused imm.NoNumber; found = refl; fits = record { opcode = refl; a = h.0; b = h.1; c = refl; imm = refl } }
written (Seek a b) h = record { form = form (codes "seek") 0x22 field.Iterator field.Register field.Unused imm.NoNumber; found = refl; fits = record { opcode = refl; a = h.0; b = h.1; c = refl; imm = refl } }
written (Pos a b) h = record { form = form (codes "pos") 0x23 field.Register field.Iterator field.Unused imm.NoNumber; found = refl; fits = record { opcode = refl; a = h.0; b = h.1; c = refl; imm = refl } }
written (Load a b) h = record { form = form (codes "load") 0x24 field.Register field.Iterator field.Unused imm.NoNumber; found = refl; fits = record { opcode = refl; a = h.0; b = h.1; c = refl; imm = refl } }
written (Store a b) h = record { form = form (codes "store") 0x25 field.Iterator field.Register field.Unused imm.NoNumber; found = refl; fits = record { opcode = refl; a = h.0; b = h.1; c = refl; imm = refl } }
written (Find a b) h = record { form = form (codes "find") 0x26 field.Register field.Iterator field.Unused imm.NoNumber; found = refl; fits = record { opcode = refl; a = h.0; b = h.1; c = refl; imm = refl } }
written (Next a b) h = record { form = form (codes "next") 0x27 field.Register field.Iterator field.Unused imm.NoNumber; found = refl; fits = record { opcode = refl; a = h.0; b = h.1; c = refl; imm = refl } }
written (Commit a b) h = record { form = form (codes "commit") 0x28 field.Register field.Iterator field.Unused imm.NoNumber; found = refl; fits = record { opcode = refl; a = h.0; b = h.1; c = refl; imm = refl } }
written (Abort a) h = record { form = form (codes "abort") 0x29 field.Iterator field.Unused field.Unused imm.NoNumber; found = refl; fits = record { opcode = refl; a = h; b = refl; c = refl; imm = refl } }
written (Close a) h = record { form = form (codes "close") 0x2a field.Iterator field.Unused field.Unused imm.NoNumber; found = refl; fits = record { opcode = refl; a = h; b = refl; c = refl; imm = refl } }
written (Root a b) h = record { form = form (codes "root") 0x2b field.Register field.Register field.Unused imm.NoNumber; found = refl; fits = record { opcode = refl; a = h.0; b = h.1; c = refl; imm = refl } }
written (Snap a b) h = record { form = form (codes "snap") 0x2c field.Register field.Iterator field.Unused imm.NoNumber; found = refl; fits = record { opcode = refl; a = h.0; b = h.1; c = refl; imm = refl } }
written (Seal a b) h = record { form = form (codes "seal") 0x2d field.Register field.Iterator field.Unused imm.NoNumber; found = refl; fits = record { opcode = refl; a = h.0; b = h.1; c = refl; imm = refl } }
written (Mcas a b c) h = record { form = form (codes "mcas") 0x2e field.Register field.Register field.Register imm.NoNumber; found = refl; fits = record { opcode = refl; a = h.0; b = h.1; c = h.2; imm = refl } }

pub Spells-instruction : (i : Instr) → IsInstr i → Spells (instruction_line i) (Code (draft_of (fields_of i)) ∷ [])
unfolding instruction_line form_with
Spells-instruction i is =
    let w = written i is in
    let f = fields_of i in
    let mnemonic = mnemonic_is w.form.mnemonic (find-all (λ g. is_mnemonic g.mnemonic ≡ true) (λ g. eqb g.opcode f.opcode) forms w.form forms_mnemonic w.found) in
    let named = find-all (λ g. form_named g.mnemonic ≡ Some g) (λ g. eqb g.opcode f.opcode) forms w.form forms_named w.found in
    subst (λ t. Spells t (Code (draft_of f) ∷ [])) (sym (ap (λ o. formed o f) w.found))
    (Spells-line w.form.mnemonic (operands_text w.form f) (Code (draft_of f)) mnemonic.plain (plain-operands w.form f w.fits)
    (worded-mnemonic w.form (operands_text w.form f) mnemonic named ∙ instruction_at-text w.form f w.fits))
