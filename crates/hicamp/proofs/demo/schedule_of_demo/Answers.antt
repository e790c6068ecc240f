use Rattle.std.proofs.Common.{◌∙◌, ℕ, List, ap, arith, length, subst, sym}
use Rattle.task_sched.specs.Grammar.{IsSchedule}
use Rattle.hicamp.proofs.DemoLaws.{demo-is_schedule, demo-short}
use Rattle.hicamp.proofs.demo.schedule_of_demo.Goals as goal

pub parse-requires-clause-text : goal.parse-requires-clause-text
parse-requires-clause-text c =
    let d = c.args.demo.now in
    let slice = ap length c.as_slice.ensures.value in
    let text = ap length c.in_ok-text.ensures in
    let short = demo-short d.seed d.size c.requires.most in
    omega (arith, slice, text, short)

pub unreachable-requires : goal.unreachable-requires
unreachable-requires c =
    let d = c.args.demo.now in
    let text = c.as_slice.ensures.value ∙ c.in_ok-text.ensures in
    let complete = c.in-Err.ensures.complete (subst (λ (text : List ℕ). IsSchedule text 4) (sym text) (demo-is_schedule d.seed d.size c.requires.most)) in
    c.in_default.not-OutOfMemory complete
