use Rattle.std.proofs.Common.{◌<◌, ◌∙◌, sym, ap, length, arith, below_more, Some}
use Rattle.std.proofs.lemmas.List.Sums.{count_by_more_no, count_by_more_yes}
use Rattle.std.proofs.lemmas.Option.{none-some}
use Rattle.std.proofs.Math.Seq.{take_all}
use Rattle.std.specs.Prelude.{count_by}
use Rattle.line_mem.specs.declared.slots.Slot.TheVariants.{Vacant}
use Rattle.line_mem.specs.Places.{is_taken, line_in}
use Rattle.line_mem.proofs.Seen.{as_read, line-slot, not_seen, not_this}
use Rattle.line_mem.proofs.slots.find_line.Goals as goal
use Rattle.line_mem.proofs.slots.find_line.Goals.{in-Taken+else-same_line, in-Vacant}

pub returns-then-same_line-clause-place : goal.returns-then-same_line-clause-place
returns-then-same_line-clause-place g c =
    let h : c.loop-i.i < length c.args.slots.now = omega arith in
    (h, line-slot c.args.slots.now c.loop-i.i _ h ∙ ap line_in (sym c.index-slots-i.is ∙ c.in-Taken.is) ∙ ap Some (c.same_line.ensures.0 c.if-same_line.true))

pub returns-then-same_line-clause-looks : goal.returns-then-same_line-clause-looks
returns-then-same_line-clause-looks g c =
    let one = count_by_more_yes is_taken c.args.slots.now c.loop-i.i _ (omega arith) (ap is_taken (sym c.index-slots-i.is ∙ c.in-Taken.is)) in
    let so_far = c.loop-i.invariant.looks in
    omega (arith, c.tick.ensures, so_far, one)

pub loop-i-preserved : goal.loop-i-preserved
loop-i-preserved g c = elim c.match-slot.branch [
  | in-Taken+else-same_line w ↦ record {
    looks =
        let one = count_by_more_yes is_taken c.args.slots.now c.loop-i.i _ (omega arith) (ap is_taken (sym c.index-slots-i.is ∙ w.in-Taken.is)) in
        let so_far = c.loop-i.invariant.looks in
        omega (arith, w.tick.ensures, w.steps-is, so_far, one);
    not_yet = below_more _ _ c.loop-i.invariant.not_yet (λ e. not_this w.same_line.result w.in-Taken.other c.args.line.now w.same_line.ensures.1 w.if-same_line.false (sym (ap line_in (sym c.index-slots-i.is ∙ w.in-Taken.is)) ∙ as_read c.args.slots.now c.loop-i.i _ Vacant (omega arith) ∙ e));
  }
  | in-Vacant w ↦ record {
    looks =
        let none = count_by_more_no is_taken c.args.slots.now c.loop-i.i _ (omega arith) (ap is_taken (sym c.index-slots-i.is ∙ w.in-Vacant.is)) in
        let so_far = c.loop-i.invariant.looks in
        omega (arith, w.steps-is, so_far, none);
    not_yet = below_more _ _ c.loop-i.invariant.not_yet (λ e. none-some c.args.line.now.w (sym (ap line_in (sym c.index-slots-i.is ∙ w.in-Vacant.is)) ∙ as_read c.args.slots.now c.loop-i.i _ Vacant (omega arith) ∙ e));
  }
]

pub returns-clause-place : goal.returns-clause-place
returns-clause-place g c = not_seen c.args.slots.now c.args.line.now.w _ (λ k h. c.loop-i.invariant.not_yet k (omega arith))

pub returns-clause-looks : goal.returns-clause-looks
returns-clause-looks g c =
    let all = ap (count_by is_taken) (take_all c.loop-i.i c.args.slots.now (omega arith)) in
    let so_far = c.loop-i.invariant.looks in
    omega (arith, so_far, all)
