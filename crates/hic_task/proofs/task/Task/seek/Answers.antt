use Rattle.std.proofs.Common.{◌∙◌, Some, ap, refl, sym}
use Rattle.iter_regs.specs.Iters.{iter_words}
use Rattle.hic_plain.specs.Iters.{sought}
use Rattle.hic_plain.specs.Turns.{reg}
use Rattle.hic_plain.proofs.RowLaws.{seek_closed, seek_of, seek_type}
use Rattle.hic_task.proofs.IterCalls.{seek_refused, seek_went, sought_for}
use Rattle.hic_task.proofs.IterRows.{closed_row, is_read, none_told, open_at, place, put_back_row, put_row, same_words, some_told}
use Rattle.hic_task.proofs.Rows.{number_told, reference_told, trapped}
use Rattle.hic_task.proofs.task.Task.seek.Goals as goal

pub returns-then-not-is_open : goal.returns-then-not-is_open
returns-then-not-is_open c = record {
  row = λ m ready. closed_row c.args.a c.iter.result.now c.iter.ensures (none_told c.iter.result.now c.is_open.ensures c.if-not-is_open.true) refl (λ P t T e. seek_closed P t T c.args.a c.args.b e);
}

pub returns-in_default : goal.returns-in_default
returns-in_default c = record {
  row = λ m ready. trapped (λ P t T can.
      let (q, there) = some_told c.iter.result.now c.is_open.ensures c.if-not-is_open.false in
      let (Q, at, for) = open_at c.args.a c.iter.result.now c.iter.ensures q can there in
      let (H, is) = reference_told (reg T c.args.b) (sym (c.number.ensures m (reg T c.args.b) (c.word.ensures m P t T can)) ∙ c.in_default.is) in
      seek_type P t T c.args.a c.args.b Q H at is);
}

pub returns-in-Err : goal.returns-in-Err
returns-in-Err c = record {
  row = λ m ready.
      let p = place c.get.result c.index-self-get.result ready c.get.ensures.number c.get.ensures.bound in
      let (same, row) = seek_refused c.in-Some.offset c.seek.new.self c.args.a c.args.b c.in-Err.refusal _ (is_read p) c.in-Err.ensures c.trap_of.ensures (λ P t T can.
      number_told (reg T c.args.b) c.in-Some.offset (sym (c.number.ensures m (reg T c.args.b) (c.word.ensures m P t T can)) ∙ c.in-Some.is)) in
      put_back_row p same row;
}

pub returns-in-Ok : goal.returns-in-Ok
returns-in-Ok c = record {
  row = λ m ready.
      let p = place c.get.result c.index-self-get.result ready c.get.ensures.number c.get.ensures.bound in
      let (q, opened, is, low) = seek_went c.in-Some.offset c.seek.new.self _ c.in-Ok.ensures in
      put_row p c.seek.new.self (same_words _ c.seek.new.self (ap iter_words is ∙ sym (ap iter_words opened))) (λ P t T can.
      let (Q, at, for) = open_at c.args.a _ (is_read p) q can opened in
      let n = number_told (reg T c.args.b) c.in-Some.offset (sym (c.number.ensures m (reg T c.args.b) (c.word.ensures m P t T can)) ∙ c.in-Some.is) in
      (Some (sought Q c.in-Some.offset), sought_for c.in-Some.offset is for, seek_of P t T c.args.a c.args.b Q c.in-Some.offset at n low));
}
