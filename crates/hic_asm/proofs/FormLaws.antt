-- Each form of the table is of an instruction.
use Rattle.std.proofs.Common.{◌≡◌, ◌<◌, ◌^◌, ℕ, Bool, true, false, cond, List, [], ◌∷◌, find, Option, Some, bytes_eq, refl, ap, sym, subst, ◌∙◌}
use Rattle.std.specs.List.{AllByRecursion}
use Rattle.hic_isa.specs.declared.instr.AluOp.TheVariants as op
use Rattle.hic_isa.specs.declared.instr.Instr.{Instr}
use Rattle.hic_isa.specs.declared.instr.Instr.TheVariants.{Halt, Li, Lih, Mov, Addi, Alu, Eq, Isref, Jmp, Jz, Jnz, Getb, Putb, Putn, Task, Open, Openr, Seek, Pos, Load, Store, Find, Next, Commit, Abort, Close, Root, Snap, Seal, Mcas}
use Rattle.hic_isa.specs.Spelling.{Fields, row, fields_of, spelling, bytes_of, IsInstr}
use Rattle.hic_isa.specs.Decoding.{instr_at}
use Rattle.hic_isa.proofs.SpellingLaws.{instr_at-spelling}
use Rattle.hic_asm.specs.declared.table.RegisterField.{RegisterField}
use Rattle.hic_asm.specs.declared.table.RegisterField.TheVariants as field
use Rattle.hic_asm.specs.declared.table.NumberField.{NumberField}
use Rattle.hic_asm.specs.declared.table.NumberField.TheVariants as imm
use Rattle.hic_asm.specs.Table.{Form, forms, form_named}

-- a number that a register field and the field imm may have
abbrev pub RegisterFits : RegisterField → ℕ → Type 0
RegisterFits field.Unused n = n ≡ 0
RegisterFits field.Register n = n < 8
RegisterFits field.Iterator n = n < 4

abbrev pub NumberFits : NumberField → ℕ → Type 0
NumberFits imm.NoNumber n = n ≡ 0
NumberFits imm.Number n = n < 2 ^ 32
NumberFits imm.Signed n = n < 2 ^ 32
NumberFits imm.Target n = n < 2 ^ 32

-- an instruction with these fields
pub record Made (f : Fields) : Type 0 where
  pub instr : Instr
  pub fits : IsInstr instr
  pub fields : fields_of instr ≡ f

-- fields that fit a form are those of an instruction
pub record IsForm (f : Form) : Type 0 where
  pub makes : (a b c imm : ℕ) → RegisterFits f.a a → RegisterFits f.b b → RegisterFits f.c c → NumberFits f.imm imm → Made (row f.opcode a b c imm)

same : (opcode : ℕ) {a b c imm a' b' c' imm' : ℕ} → a' ≡ a → b' ≡ b → c' ≡ c → imm' ≡ imm → row opcode a b c imm ≡ row opcode a' b' c' imm'
same opcode ea eb ec ei = sym (λ i. row opcode (ea i) (eb i) (ec i) (ei i))

forms_made : AllByRecursion IsForm forms
forms_made = (
  record { makes = λ a b c imm fa fb fc fi. record { instr = Halt; fits = tt; fields = same 0x01 fa fb fc fi } },
  (
    record { makes = λ a b c imm fa fb fc fi. record { instr = Li a imm; fits = (fa, fi); fields = same 0x02 refl fb fc refl } },
    (
      record { makes = λ a b c imm fa fb fc fi. record { instr = Lih a imm; fits = (fa, fi); fields = same 0x03 refl fb fc refl } },
      (
        record { makes = λ a b c imm fa fb fc fi. record { instr = Mov a b; fits = (fa, fb); fields = same 0x04 refl refl fc fi } },
        (
          record { makes = λ a b c imm fa fb fc fi. record { instr = Addi a b imm; fits = (fa, fb, fi); fields = same 0x05 refl refl fc refl } },
          (
            record { makes = λ a b c imm fa fb fc fi. record { instr = Alu op.Add a b c; fits = (fa, fb, fc); fields = same 0x06 refl refl refl fi } },
            (
              record { makes = λ a b c imm fa fb fc fi. record { instr = Alu op.Sub a b c; fits = (fa, fb, fc); fields = same 0x07 refl refl refl fi } },
              (
                record { makes = λ a b c imm fa fb fc fi. record { instr = Alu op.Mul a b c; fits = (fa, fb, fc); fields = same 0x08 refl refl refl fi } },
                (
                  record { makes = λ a b c imm fa fb fc fi. record { instr = Alu op.Div a b c; fits = (fa, fb, fc); fields = same 0x09 refl refl refl fi } },
                  (
                    record { makes = λ a b c imm fa fb fc fi. record { instr = Alu op.Rem a b c; fits = (fa, fb, fc); fields = same 0x0a refl refl refl fi } },
                    (
                      record { makes = λ a b c imm fa fb fc fi. record { instr = Alu op.And a b c; fits = (fa, fb, fc); fields = same 0x0b refl refl refl fi } },
                      (
                        record { makes = λ a b c imm fa fb fc fi. record { instr = Alu op.Or a b c; fits = (fa, fb, fc); fields = same 0x0c refl refl refl fi } },
                        (
                          record { makes = λ a b c imm fa fb fc fi. record { instr = Alu op.Xor a b c; fits = (fa, fb, fc); fields = same 0x0d refl refl refl fi } },
                          (
                            record { makes = λ a b c imm fa fb fc fi. record { instr = Alu op.Shl a b c; fits = (fa, fb, fc); fields = same 0x0e refl refl refl fi } },
                            (
                              record { makes = λ a b c imm fa fb fc fi. record { instr = Alu op.Shr a b c; fits = (fa, fb, fc); fields = same 0x0f refl refl refl fi } },
                              (
                                record { makes = λ a b c imm fa fb fc fi. record { instr = Alu op.Ltu a b c; fits = (fa, fb, fc); fields = same 0x10 refl refl refl fi } },
                                (
                                  record { makes = λ a b c imm fa fb fc fi. record { instr = Eq a b c; fits = (fa, fb, fc); fields = same 0x11 refl refl refl fi } },
                                  (
                                    record { makes = λ a b c imm fa fb fc fi. record { instr = Isref a b; fits = (fa, fb); fields = same 0x12 refl refl fc fi } },
                                    (
                                      record { makes = λ a b c imm fa fb fc fi. record { instr = Jmp imm; fits = fi; fields = same 0x13 fa fb fc refl } },
                                      (
                                        record { makes = λ a b c imm fa fb fc fi. record { instr = Jz a imm; fits = (fa, fi); fields = same 0x14 refl fb fc refl } },
                                        (
                                          record { makes = λ a b c imm fa fb fc fi. record { instr = Jnz a imm; fits = (fa, fi); fields = same 0x15 refl fb fc refl } },
                                          (
                                            record { makes = λ a b c imm fa fb fc fi. record { instr = Getb a; fits = fa; fields = same 0x16 refl fb fc fi } },
                                            (
                                              record { makes = λ a b c imm fa fb fc fi. record { instr = Putb a; fits = fa; fields = same 0x17 refl fb fc fi } },
                                              (
                                                record { makes = λ a b c imm fa fb fc fi. record { instr = Putn a; fits = fa; fields = same 0x18 refl fb fc fi } },
                                                (
                                                  record { makes = λ a b c imm fa fb fc fi. record { instr = Task a; fits = fa; fields = same 0x19 refl fb fc fi } },
                                                  (
                                                    record { makes = λ a b c imm fa fb fc fi. record { instr = Open a b; fits = (fa, fb); fields = same 0x20 refl refl fc fi } },
                                                    (
                                                      record { makes = λ a b c imm fa fb fc fi. record { instr = Openr a b; fits = (fa, fb); fields = same 0x21 refl refl fc fi } },
                                                      (
                                                        record { makes = λ a b c imm fa fb fc fi. record { instr = Seek a b; fits = (fa, fb); fields = same 0x22 refl refl fc fi } },
                                                        (
                                                          record { makes = λ a b c imm fa fb fc fi. record { instr = Pos a b; fits = (fa, fb); fields = same 0x23 refl refl fc fi } },
                                                          (
                                                            record { makes = λ a b c imm fa fb fc fi. record { instr = Load a b; fits = (fa, fb); fields = same 0x24 refl refl fc fi } },
                                                            (
                                                              record { makes = λ a b c imm fa fb fc fi. record { instr = Store a b; fits = (fa, fb); fields = same 0x25 refl refl fc fi } },
                                                              (
                                                                record { makes = λ a b c imm fa fb fc fi. record { instr = Find a b; fits = (fa, fb); fields = same 0x26 refl refl fc fi } },
                                                                (
                                                                  record { makes = λ a b c imm fa fb fc fi. record { instr = Next a b; fits = (fa, fb); fields = same 0x27 refl refl fc fi } },
                                                                  (
                                                                    record { makes = λ a b c imm fa fb fc fi. record { instr = Commit a b; fits = (fa, fb); fields = same 0x28 refl refl fc fi } },
                                                                    (
                                                                      record { makes = λ a b c imm fa fb fc fi. record { instr = Abort a; fits = fa; fields = same 0x29 refl fb fc fi } },
                                                                      (
                                                                        record { makes = λ a b c imm fa fb fc fi. record { instr = Close a; fits = fa; fields = same 0x2a refl fb fc fi } },
                                                                        (
                                                                          record { makes = λ a b c imm fa fb fc fi. record { instr = Root a b; fits = (fa, fb); fields = same 0x2b refl refl fc fi } },
                                                                          (
                                                                            record { makes = λ a b c imm fa fb fc fi. record { instr = Snap a b; fits = (fa, fb); fields = same 0x2c refl refl fc fi } },
                                                                            (
                                                                              record { makes = λ a b c imm fa fb fc fi. record { instr = Seal a b; fits = (fa, fb); fields = same 0x2d refl refl fc fi } },
                                                                              (
                                                                                record { makes = λ a b c imm fa fb fc fi. record { instr = Mcas a b c; fits = (fa, fb, fc); fields = same 0x2e refl refl refl fi } },
                                                                                tt,
                                                                              ),
                                                                            ),
                                                                          ),
                                                                        ),
                                                                      ),
                                                                    ),
                                                                  ),
                                                                ),
                                                              ),
                                                            ),
                                                          ),
                                                        ),
                                                      ),
                                                    ),
                                                  ),
                                                ),
                                              ),
                                            ),
                                          ),
                                        ),
                                      ),
                                    ),
                                  ),
                                ),
                              ),
                            ),
                          ),
                        ),
                      ),
                    ),
                  ),
                ),
              ),
            ),
          ),
        ),
      ),
    ),
  ),
)

found_at : {X : Type 0} (P : X → Type 0) (b : Bool) (x : X) (further : Option X) (found : X) → P x → (further ≡ Some found → P found) → cond b (Some x) further ≡ Some found → P found
found_at P true x further found here later is = let e : x ≡ found = cc in subst P e here
found_at P false x further found here later is = later is

-- what is found among items has what all of them have
pub find-all : {X : Type 0} (P : X → Type 0) (p : X → Bool) (xs : List X) (found : X) → AllByRecursion P xs → find p xs ≡ Some found → P found
find-all P p [] found all is = absurd (cc)
find-all P p (x ∷ xs) found all is = found_at P (p x) x (find p xs) found all.0 (find-all P p xs found all.1) is

pub form_named-is : (mnemonic : List ℕ) (form : Form) → form_named mnemonic ≡ Some form → IsForm form
unfolding form_named
form_named-is mnemonic form is = find-all IsForm (λ f. bytes_eq f.mnemonic mnemonic) forms form forms_made is

-- the instruction of its fields
pub instr_at-made : (f : Fields) (made : Made f) → instr_at (bytes_of f) ≡ Some made.instr
unfolding spelling
instr_at-made f made = ap (λ g. instr_at (bytes_of g)) (sym made.fields) ∙ instr_at-spelling made.instr made.fits
