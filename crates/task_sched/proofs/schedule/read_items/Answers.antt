use Rattle.std.proofs.Common.{◌≡◌, ◌+◌, length, None, sym, ap, ◌∙◌, arith}
use Rattle.std.proofs.lemmas.Bool.{eqb-true}
use Rattle.std.proofs.lemmas.List.Elements.{All-push}
use Rattle.task_sched.specs.Faults.{item_fault}
use Rattle.task_sched.specs.Items.{item_of, IsLeft}
use Rattle.task_sched.proofs.Reading.{ReadSoFar-empty, ReadSoFar-item, not_empty}
use Rattle.task_sched.proofs.schedule.read_items.Goals as goal

pub loop-piece-preserved-then-is_empty : goal.loop-piece-preserved-then-is_empty
loop-piece-preserved-then-is_empty c = record {
  read = ReadSoFar-empty c.args.tasks c.args.bytes.now c.loop-piece.rest.now c.loop-piece.line c.loop-piece.items.items c.loop-piece.invariant.read c.in-Some.piece.now c.in-Some.after.now c.in-Some.ensures.piece (eqb-true _ 0 (sym c.is_empty.ensures ∙ c.if-is_empty.true));
  left = c.loop-piece.invariant.left;
  fits = omega (arith, c.in-Some.ensures.shorter);
}

pub loop-piece-preserved : goal.loop-piece-preserved
loop-piece-preserved c =
    let items = c.loop-piece.items.items in
    let len : c.len.result ≡ length items = c.len.ensures ∙ c.loop-piece.items.ok.0 in
    let faultless : item_fault c.args.tasks (c.loop-piece.line + 1) (length items) (item_of c.in-Some.piece.now) ≡ None = ap (λ n. item_fault c.args.tasks (c.loop-piece.line + 1) n (item_of c.in-Some.piece.now)) (sym len) ∙ c.in_ok-item.ensures.faultless in
    let read = ReadSoFar-item c.args.tasks c.args.bytes.now c.loop-piece.rest.now c.loop-piece.line items c.loop-piece.invariant.read c.in-Some.piece.now c.in-Some.after.now c.in-Some.ensures.piece c.in_ok-item.item (not_empty _ (sym c.is_empty.ensures ∙ c.if-is_empty.false)) c.in_ok-item.ensures.item faultless in
    rw c.in_ok-push.ensures.items (record {
      read = read;
      left = All-push IsLeft items c.in_ok-item.item c.loop-piece.invariant.left (omega (arith, c.in_ok-item.ensures.below), c.in_ok-item.ensures.some);
      fits = omega (arith, c.in-Some.ensures.shorter);
    })
