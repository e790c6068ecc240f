use Rattle.std.proofs.Common.{ℕ, List, [], length, Ok, Err, refl, sym, ◌∙◌, ap, arith}
use Rattle.std.proofs.lemmas.List.{append-nil}
use Rattle.std.specs.Prelude.{slice_set}
use Rattle.hic_word.specs.Memory.{Layout}
use Rattle.hic_task.specs.declared.done.Done.TheVariants as done
use Rattle.hic_machine.specs.declared.ran.Stop.TheVariants as stops
use Rattle.hic_machine.proofs.Keeping.{all_left, goes_on_numbers, kept, kept_so, short, whole_ends, whole_goes, whole_left, whole_looks}
use Rattle.hic_machine.proofs.TaskRunning.{looks_so_far, stops_here}
use Rattle.hic_machine.proofs.running.run_many.Goals as goal

pub loop-left-init : goal.loop-left-init
loop-left-init g c = record {
  reached = λ ks P h. all_left c.args.most (g.S.HoldCounts.memory c.args.mem.now).layout.probe c.args.steps.now _ c.clear.ensures h;
  layout = refl;
  few = omega arith;
  room = (let none = ap (λ (bs : List ℕ). length bs) c.clear.ensures in omega (arith, none));
  some = λ one. (let none = ap (λ (bs : List ℕ). length bs) c.clear.ensures in omega (arith, none, one));
}

pub number_step-requires : goal.number_step-requires
number_step-requires g c = let (ks, P, h) = c.requires in short h.stands

-- ---- a row on numbers

pub loop-left-preserved-in-Some : goal.loop-left-preserved-in-Some
loop-left-preserved-in-Some g c = record {
  reached = λ ks P h. goes_on_numbers c.loop-left.shared ks c.args.one.now (record c.loop-left.one { pc = c.loop-left.pc }) h.there c.loop-left-test.true c.loop-left.invariant.few (c.loop-left.invariant.reached ks P h) c.number_step.new.regs c.in-Some.next c.in-Some.ensures;
  layout = c.loop-left.invariant.layout;
  few = let few = c.loop-left.invariant.few in omega (arith, few);
  room = c.loop-left.invariant.room;
  some = λ _. (let few = c.loop-left.invariant.few in let more = c.loop-left-test.true in omega (arith, few, more));
}

-- ---- any other row

pub whole_step-requires : goal.whole_step-requires
whole_step-requires g c =
    let (ks, P, h) = c.requires in
    let k = record c.loop-left.one { pc = c.loop-left.pc } in
    let r = c.loop-left.invariant.reached ks P h in
    (slice_set ks c.args.task k, r.now, kept_so c.number_step.new.regs c.in-None.ensures (kept c.loop-left.shared ks c.args.one.now k h.there c.loop-left-test.true c.loop-left.invariant.few r))

pub loop-left-preserved-in-Ok-Went : goal.loop-left-preserved-in-Ok-Went
loop-left-preserved-in-Ok-Went g c = record {
  reached = λ ks P h. whole_goes c.loop-left.shared ks c.args.one.now (record c.loop-left.one { pc = c.loop-left.pc }) h.there c.loop-left-test.true c.loop-left.invariant.few (c.loop-left.invariant.reached ks P h) c.number_step.new.regs c.in-None.ensures (ap (λ (l : Layout). l.probe) c.loop-left.invariant.layout) (g.S.HoldCounts.memory c.whole_step.new.mem) c.whole_step.new.shared c.whole_step.new.one c.whole_step.new.steps c.whole_step.result (Ok done.Went) (c.in-Ok-Went.is ∙ ap Ok c.in-Ok-Went.field-0-is) c.whole_step.ensures.step c.whole_step.ensures.looks [] c.loop-left.printed refl (sym (append-nil c.loop-left.printed));
  layout = c.whole_step.ensures.layout ∙ c.loop-left.invariant.layout;
  few = (let few = c.loop-left.invariant.few in omega (arith, few));
  room = c.loop-left.invariant.room;
  some = λ _. (let few = c.loop-left.invariant.few in let more = c.loop-left-test.true in omega (arith, few, more));
}

-- ---- one that prints

pub loop-left-preserved : goal.loop-left-preserved
loop-left-preserved g c = record {
  reached = λ ks P h. whole_goes c.loop-left.shared ks c.args.one.now (record c.loop-left.one { pc = c.loop-left.pc }) h.there c.loop-left-test.true c.loop-left.invariant.few (c.loop-left.invariant.reached ks P h) c.number_step.new.regs c.in-None.ensures (ap (λ (l : Layout). l.probe) c.loop-left.invariant.layout) (g.S.HoldCounts.memory c.whole_step.new.mem) c.whole_step.new.shared c.whole_step.new.one c.whole_step.new.steps c.whole_step.result (Ok done.Printed) (c.in-Ok-Printed.is ∙ ap Ok c.in-Ok-Printed.field-0-is) c.whole_step.ensures.step c.whole_step.ensures.looks c.whole_step.new.shared.printed c.take.new.self refl c.take.ensures;
  layout = c.whole_step.ensures.layout ∙ c.loop-left.invariant.layout;
  few = (let few = c.loop-left.invariant.few in omega (arith, few));
  room = c.if-not-has_room.ensures.0 refl;
  some = λ _. (let few = c.loop-left.invariant.few in let more = c.loop-left-test.true in omega (arith, few, more));
}

pub returns-then-not-has_room-clause-run : goal.returns-then-not-has_room-clause-run
returns-then-not-has_room-clause-run g c = λ ks P h. stops_here (whole_goes c.loop-left.shared ks c.args.one.now (record c.loop-left.one { pc = c.loop-left.pc }) h.there c.loop-left-test.true c.loop-left.invariant.few (c.loop-left.invariant.reached ks P h) c.number_step.new.regs c.in-None.ensures (ap (λ (l : Layout). l.probe) c.loop-left.invariant.layout) (g.S.HoldCounts.memory c.whole_step.new.mem) c.whole_step.new.shared c.whole_step.new.one c.whole_step.new.steps c.whole_step.result (Ok done.Printed) (c.in-Ok-Printed.is ∙ ap Ok c.in-Ok-Printed.field-0-is) c.whole_step.ensures.step c.whole_step.ensures.looks c.whole_step.new.shared.printed c.take.new.self refl c.take.ensures) stops.Out c.take.new.self refl refl

pub returns-then-not-has_room-clause-looks : goal.returns-then-not-has_room-clause-looks
returns-then-not-has_room-clause-looks g c = λ ks P h. looks_so_far (whole_goes c.loop-left.shared ks c.args.one.now (record c.loop-left.one { pc = c.loop-left.pc }) h.there c.loop-left-test.true c.loop-left.invariant.few (c.loop-left.invariant.reached ks P h) c.number_step.new.regs c.in-None.ensures (ap (λ (l : Layout). l.probe) c.loop-left.invariant.layout) (g.S.HoldCounts.memory c.whole_step.new.mem) c.whole_step.new.shared c.whole_step.new.one c.whole_step.new.steps c.whole_step.result (Ok done.Printed) (c.in-Ok-Printed.is ∙ ap Ok c.in-Ok-Printed.field-0-is) c.whole_step.ensures.step c.whole_step.ensures.looks c.whole_step.new.shared.printed c.take.new.self refl c.take.ensures) c.args.most (omega arith)

-- ---- the last one

pub returns-in-Ok-Halted-clause-run : goal.returns-in-Ok-Halted-clause-run
returns-in-Ok-Halted-clause-run g c = λ ks P h. whole_ends c.loop-left.shared ks c.args.one.now (record c.loop-left.one { pc = c.loop-left.pc }) h.there c.loop-left-test.true c.loop-left.invariant.few (c.loop-left.invariant.reached ks P h) c.number_step.new.regs c.in-None.ensures (ap (λ (l : Layout). l.probe) c.loop-left.invariant.layout) (g.S.HoldCounts.memory c.whole_step.new.mem) c.whole_step.new.shared c.whole_step.new.one c.whole_step.new.steps c.whole_step.result (Ok done.Halted) (c.in-Ok-Halted.is ∙ ap Ok c.in-Ok-Halted.field-0-is) c.whole_step.ensures.step c.whole_step.ensures.looks stops.Halted c.loop-left.printed tt refl refl

pub returns-in-Ok-Halted-clause-looks : goal.returns-in-Ok-Halted-clause-looks
returns-in-Ok-Halted-clause-looks g c = λ ks P h. whole_looks c.loop-left.shared ks c.args.one.now (record c.loop-left.one { pc = c.loop-left.pc }) h.there c.loop-left-test.true c.loop-left.invariant.few (c.loop-left.invariant.reached ks P h) c.number_step.new.regs c.in-None.ensures (ap (λ (l : Layout). l.probe) c.loop-left.invariant.layout) (g.S.HoldCounts.memory c.whole_step.new.mem) c.whole_step.new.shared c.whole_step.new.one c.whole_step.new.steps c.whole_step.result (Ok done.Halted) (c.in-Ok-Halted.is ∙ ap Ok c.in-Ok-Halted.field-0-is) c.whole_step.ensures.step c.whole_step.ensures.looks

pub returns-then-is_empty-clause-run : goal.returns-then-is_empty-clause-run
returns-then-is_empty-clause-run g c = λ ks P h. whole_ends c.loop-left.shared ks c.args.one.now (record c.loop-left.one { pc = c.loop-left.pc }) h.there c.loop-left-test.true c.loop-left.invariant.few (c.loop-left.invariant.reached ks P h) c.number_step.new.regs c.in-None.ensures (ap (λ (l : Layout). l.probe) c.loop-left.invariant.layout) (g.S.HoldCounts.memory c.whole_step.new.mem) c.whole_step.new.shared c.whole_step.new.one c.whole_step.new.steps c.whole_step.result (Err c.in-Err.trap) c.in-Err.is c.whole_step.ensures.step c.whole_step.ensures.looks (stops.Trapped c.in-Err.trap) c.loop-left.printed tt refl (sym (c.if-is_empty.ensures.0 refl))

pub returns-then-is_empty-clause-looks : goal.returns-then-is_empty-clause-looks
returns-then-is_empty-clause-looks g c = λ ks P h. whole_looks c.loop-left.shared ks c.args.one.now (record c.loop-left.one { pc = c.loop-left.pc }) h.there c.loop-left-test.true c.loop-left.invariant.few (c.loop-left.invariant.reached ks P h) c.number_step.new.regs c.in-None.ensures (ap (λ (l : Layout). l.probe) c.loop-left.invariant.layout) (g.S.HoldCounts.memory c.whole_step.new.mem) c.whole_step.new.shared c.whole_step.new.one c.whole_step.new.steps c.whole_step.result (Err c.in-Err.trap) c.in-Err.is c.whole_step.ensures.step c.whole_step.ensures.looks

-- ---- before one that traps

pub returns-in-Err-clause-run : goal.returns-in-Err-clause-run
returns-in-Err-clause-run g c = λ ks P h. whole_left c.loop-left.shared ks c.args.one.now (record c.loop-left.one { pc = c.loop-left.pc }) h.there c.loop-left-test.true c.loop-left.invariant.few (c.loop-left.invariant.reached ks P h) c.number_step.new.regs c.in-None.ensures (ap (λ (l : Layout). l.probe) c.loop-left.invariant.layout) (g.S.HoldCounts.memory c.whole_step.new.mem) c.whole_step.new.shared c.whole_step.new.one c.whole_step.new.steps c.whole_step.result (Err c.in-Err.trap) c.in-Err.is c.whole_step.ensures.step c.whole_step.ensures.looks c.in-Err.trap c.loop-left.printed refl refl

pub returns-in-Err-clause-looks : goal.returns-in-Err-clause-looks
returns-in-Err-clause-looks g c = λ ks P h. whole_looks c.loop-left.shared ks c.args.one.now (record c.loop-left.one { pc = c.loop-left.pc }) h.there c.loop-left-test.true c.loop-left.invariant.few (c.loop-left.invariant.reached ks P h) c.number_step.new.regs c.in-None.ensures (ap (λ (l : Layout). l.probe) c.loop-left.invariant.layout) (g.S.HoldCounts.memory c.whole_step.new.mem) c.whole_step.new.shared c.whole_step.new.one c.whole_step.new.steps c.whole_step.result (Err c.in-Err.trap) c.in-Err.is c.whole_step.ensures.step c.whole_step.ensures.looks

-- ---- all are made

pub returns-then-is_empty-2-clause-run : goal.returns-then-is_empty-2-clause-run
returns-then-is_empty-2-clause-run g c = λ ks P h. stops_here (c.loop-left.invariant.reached ks P h) stops.Most c.loop-left.printed refl (sym (c.if-is_empty-2.ensures.0 refl))

pub returns-clause-run : goal.returns-clause-run
returns-clause-run g c = λ ks P h. stops_here (c.loop-left.invariant.reached ks P h) stops.Out c.loop-left.printed refl refl
