use Rattle.std.proofs.Common.{sym, ◌∙◌, ap}
use Rattle.hic_plain.specs.Turns.{prints, reg}
use Rattle.hic_plain.proofs.RowLaws.{putn_of, putn_type}
use Rattle.hic_task.proofs.ByteRows.{prints_with, traps_with}
use Rattle.hic_task.proofs.Rows.{number_told, reference_told}
use Rattle.hic_task.proofs.task.Task.putn.Goals as goal

pub returns-in_default : goal.returns-in_default
returns-in_default c = record {
  row = λ m t. traps_with (λ P T can.
      let (H, e) = reference_told (reg T c.args.a) (sym (c.number.ensures m (reg T c.args.a) (c.word.ensures m P t T can)) ∙ c.in_default.is) in
      putn_type P t T c.args.a H e);
}

pub returns : goal.returns
returns c = record {
  row = λ m t. prints_with c.number-2.result c.print.ensures.printed c.print.ensures.next (λ P T can.
      let e = number_told (reg T c.args.a) c.in-Some.n (sym (c.number.ensures m (reg T c.args.a) (c.word.ensures m P t T can)) ∙ c.in-Some.is) in
      putn_of P t T c.args.a c.in-Some.n e ∙ ap (prints P t T) (sym c.number-2.ensures));
}
