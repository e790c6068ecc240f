use Rattle.std.proofs.Common.{◌≡◌, ℕ, ◌-◌, [], refl, sym, ◌∙◌, ap, subst, arith}
use Rattle.std.specs.Prelude.{min}
use Rattle.hic_plain.specs.declared.turn.End.TheVariants as ends
use Rattle.hic_plain.specs.Run.{ended}
use Rattle.hic_machine.specs.TaskRuns.{IsMadeOf, out_at, turn_at}
use Rattle.task_sched.specs.Pick.{pick, tasks_in}
use Rattle.task_sched.proofs.Tasks.{pick-nobody}
use Rattle.hicamp.specs.Running.{after_steps, run_by}
use Rattle.hicamp.proofs.RunLaws.{after-more, after-none, picks-none, there-below}
use Rattle.hicamp.proofs.RowRuns.{next_row, row_goes, row_made, row_on, row_runs, row_spent, row_valid, row_within}
use Rattle.hicamp.proofs.running.Running.go_on.Goals as goal

pub loop-row-init : goal.loop-row-init
loop-row-init g c =
    let self = c.args.self.now in
    let none : self.left - self.left ≡ 0 = omega arith in
    record {
      so_far = after-none (self.left - self.left) (run_by c.args.machine.now.plain self.schedule self.left) none;
      within = omega arith;
      tasks = c.requires;
    }

-- ---- no step is left

pub returns-then-self-eq0-clause-run : goal.returns-then-self-eq0-clause-run
returns-then-self-eq0-clause-run g c =
    let loop = c.loop-row in
    let row = next_row c.row.new.self loop.invariant.tasks c.in-Some.ensures.some c.in-Some.ensures.in_row in
    loop.invariant.so_far ∙ ap (after_steps (c.args.self.now.left - loop.self.left) []) (row_spent row loop.self.left c.if-self-eq0.true)

-- ---- a row

pub run-ran-requires : goal.run-ran-requires
run-ran-requires g c = row_runs (next_row c.row.new.self c.loop-row.invariant.tasks c.in-Some.ensures.some c.in-Some.ensures.in_row)

pub pass-requires-clause-made : goal.pass-requires-clause-made
pass-requires-clause-made g c =
    let loop = c.loop-row in
    let row = next_row c.row.new.self loop.invariant.tasks c.in-Some.ensures.some c.in-Some.ensures.in_row in
    let many = subst (λ (n : ℕ). IsMadeOf n c.run-ran.result c.run-ran.new.self.printed) c.min.ensures c.run-ran.ensures.made in
    let ran = c.run-ran.ensures.run in
    row_within row loop.self.left c.run-ran.new.self.plain c.run-ran.result c.run-ran.new.self.printed _ _ c.if-self-eq0.false many ran

pub pass-requires-in-Halted-clause-made : goal.pass-requires-in-Halted-clause-made
pass-requires-in-Halted-clause-made g c =
    let loop = c.loop-row in
    let row = next_row c.row.new.self loop.invariant.tasks c.in-Some.ensures.some c.in-Some.ensures.in_row in
    let many = subst (λ (n : ℕ). IsMadeOf n c.run-ran.result c.run-ran.new.self.printed) c.min.ensures c.run-ran.ensures.made in
    let ran = c.run-ran.ensures.run in
    row_within row loop.self.left c.run-ran.new.self.plain c.run-ran.result c.run-ran.new.self.printed _ _ c.if-self-eq0.false many ran

pub pass-requires-in-Out-clause-made : goal.pass-requires-in-Out-clause-made
pass-requires-in-Out-clause-made g c =
    let loop = c.loop-row in
    let row = next_row c.row.new.self loop.invariant.tasks c.in-Some.ensures.some c.in-Some.ensures.in_row in
    let many = subst (λ (n : ℕ). IsMadeOf n c.run-ran.result c.run-ran.new.self.printed) c.min.ensures c.run-ran.ensures.made in
    let ran = c.run-ran.ensures.run in
    row_within row loop.self.left c.run-ran.new.self.plain c.run-ran.result c.run-ran.new.self.printed _ _ c.if-self-eq0.false many ran

pub pass-requires-in-Trapped-clause-made : goal.pass-requires-in-Trapped-clause-made
pass-requires-in-Trapped-clause-made g c =
    let loop = c.loop-row in
    let row = next_row c.row.new.self loop.invariant.tasks c.in-Some.ensures.some c.in-Some.ensures.in_row in
    let many = subst (λ (n : ℕ). IsMadeOf n c.run-ran.result c.run-ran.new.self.printed) c.min.ensures c.run-ran.ensures.made in
    let ran = c.run-ran.ensures.run in
    row_within row loop.self.left c.run-ran.new.self.plain c.run-ran.result c.run-ran.new.self.printed _ _ c.if-self-eq0.false many ran

pub loop-row-smaller : goal.loop-row-smaller
loop-row-smaller g c =
    let loop = c.loop-row in
    let row = next_row c.row.new.self loop.invariant.tasks c.in-Some.ensures.some c.in-Some.ensures.in_row in
    let many = subst (λ (n : ℕ). IsMadeOf n c.run-ran.result c.run-ran.new.self.printed) c.min.ensures c.run-ran.ensures.made in
    let ran = c.run-ran.ensures.run in
    let some = row_made row loop.self.left c.run-ran.new.self.plain c.run-ran.result c.run-ran.new.self.printed _ _ c.if-self-eq0.false many ran in
    let over = c.if-self-eq0.false in
    rw c.pass.ensures (omega (arith, some, over))

pub loop-row-preserved : goal.loop-row-preserved
loop-row-preserved g c =
    let loop = c.loop-row in
    let row = next_row c.row.new.self loop.invariant.tasks c.in-Some.ensures.some c.in-Some.ensures.in_row in
    let many = subst (λ (n : ℕ). IsMadeOf n c.run-ran.result c.run-ran.new.self.printed) c.min.ensures c.run-ran.ensures.made in
    let ran = c.run-ran.ensures.run
    ∙ ap (λ stop. record { left = c.run-ran.new.self.plain; made = c.run-ran.result.made; out = out_at stop c.run-ran.new.self.printed; turn = turn_at stop }) c.in-Most.is in
    let most = row_within row loop.self.left c.run-ran.new.self.plain c.run-ran.result c.run-ran.new.self.printed _ _ c.if-self-eq0.false many ran in
    let within = loop.invariant.within in
    rw c.pass.ensures (record {
      so_far = after-more _ (c.args.self.now.left - loop.self.left) c.run-ran.result.made _ [] (omega (arith, most, within)) loop.invariant.so_far
          (row_goes row loop.self.left c.run-ran.new.self.plain c.run-ran.result c.run-ran.new.self.printed _ _ c.if-self-eq0.false many ran);
      within = omega (arith, most, within);
      tasks = record {
        valid = row_valid row loop.self.left c.run-ran.new.self.plain c.run-ran.result c.run-ran.new.self.printed _ _ c.if-self-eq0.false many ran;
        tasks = loop.invariant.tasks.tasks ∙ sym (row_on row loop.self.left c.run-ran.new.self.plain c.run-ran.result c.run-ran.new.self.printed _ _ c.if-self-eq0.false many ran (λ halts. cc)).same;
      };
    })

-- ---- its task has halted

pub returns-in-Halted : goal.returns-in-Halted
returns-in-Halted g c =
    let loop = c.loop-row in
    let row = next_row c.row.new.self loop.invariant.tasks c.in-Some.ensures.some c.in-Some.ensures.in_row in
    let many = subst (λ (n : ℕ). IsMadeOf n c.run-ran.result c.run-ran.new.self.printed) c.min.ensures c.run-ran.ensures.made in
    let ran = c.run-ran.ensures.run
    ∙ ap (λ stop. record { left = c.run-ran.new.self.plain; made = c.run-ran.result.made; out = out_at stop c.run-ran.new.self.printed; turn = turn_at stop }) c.in-Halted.is in
    let some = row_made row loop.self.left c.run-ran.new.self.plain c.run-ran.result c.run-ran.new.self.printed _ _ c.if-self-eq0.false many ran in
    let most = row_within row loop.self.left c.run-ran.new.self.plain c.run-ran.result c.run-ran.new.self.printed _ _ c.if-self-eq0.false many ran in
    let within = loop.invariant.within in
    rw c.pass-in-Halted.ensures (record {
      run = after-more _ (c.args.self.now.left - loop.self.left) c.run-ran.result.made _ c.run-ran.new.self.printed (omega (arith, most, within)) loop.invariant.so_far
          (row_goes row loop.self.left c.run-ran.new.self.plain c.run-ran.result c.run-ran.new.self.printed _ _ c.if-self-eq0.false many ran);
      tasks = record { valid = c.running-self.ensures.machine; tasks = c.running-self.ensures.tasks };
      most = omega (arith, most, within);
      fewer = omega (arith, some, most, within);
    })

-- ---- something was printed

pub returns-in-Out : goal.returns-in-Out
returns-in-Out g c =
    let loop = c.loop-row in
    let row = next_row c.row.new.self loop.invariant.tasks c.in-Some.ensures.some c.in-Some.ensures.in_row in
    let many = subst (λ (n : ℕ). IsMadeOf n c.run-ran.result c.run-ran.new.self.printed) c.min.ensures c.run-ran.ensures.made in
    let ran = c.run-ran.ensures.run
    ∙ ap (λ stop. record { left = c.run-ran.new.self.plain; made = c.run-ran.result.made; out = out_at stop c.run-ran.new.self.printed; turn = turn_at stop }) c.in-Out.is in
    let some = row_made row loop.self.left c.run-ran.new.self.plain c.run-ran.result c.run-ran.new.self.printed _ _ c.if-self-eq0.false many ran in
    let most = row_within row loop.self.left c.run-ran.new.self.plain c.run-ran.result c.run-ran.new.self.printed _ _ c.if-self-eq0.false many ran in
    let within = loop.invariant.within in
    rw c.pass-in-Out.ensures (record {
      run = after-more _ (c.args.self.now.left - loop.self.left) c.run-ran.result.made _ c.run-ran.new.self.printed (omega (arith, most, within)) loop.invariant.so_far
          (row_goes row loop.self.left c.run-ran.new.self.plain c.run-ran.result c.run-ran.new.self.printed _ _ c.if-self-eq0.false many ran);
      tasks = record {
        valid = row_valid row loop.self.left c.run-ran.new.self.plain c.run-ran.result c.run-ran.new.self.printed _ _ c.if-self-eq0.false many ran;
        tasks = loop.invariant.tasks.tasks ∙ sym (row_on row loop.self.left c.run-ran.new.self.plain c.run-ran.result c.run-ran.new.self.printed _ _ c.if-self-eq0.false many ran (λ halts. cc)).same;
      };
      most = omega (arith, most, within);
      fewer = omega (arith, some, most, within);
    })

-- ---- a trap

pub pc-requires : goal.pc-requires
pc-requires g c =
    let loop = c.loop-row in
    let row = next_row c.row.new.self loop.invariant.tasks c.in-Some.ensures.some c.in-Some.ensures.in_row in
    let many = subst (λ (n : ℕ). IsMadeOf n c.run-ran.result c.run-ran.new.self.printed) c.min.ensures c.run-ran.ensures.made in
    let ran = c.run-ran.ensures.run
    ∙ ap (λ stop. record { left = c.run-ran.new.self.plain; made = c.run-ran.result.made; out = out_at stop c.run-ran.new.self.printed; turn = turn_at stop }) c.in-Trapped.is in
    there-below (row_on row loop.self.left c.run-ran.new.self.plain c.run-ran.result c.run-ran.new.self.printed _ _ c.if-self-eq0.false many ran (λ halts. cc)).runs

pub returns-in-Trapped : goal.returns-in-Trapped
returns-in-Trapped g c =
    let loop = c.loop-row in
    let row = next_row c.row.new.self loop.invariant.tasks c.in-Some.ensures.some c.in-Some.ensures.in_row in
    let many = subst (λ (n : ℕ). IsMadeOf n c.run-ran.result c.run-ran.new.self.printed) c.min.ensures c.run-ran.ensures.made in
    let ran = c.run-ran.ensures.run
    ∙ ap (λ stop. record { left = c.run-ran.new.self.plain; made = c.run-ran.result.made; out = out_at stop c.run-ran.new.self.printed; turn = turn_at stop }) c.in-Trapped.is in
    let most = row_within row loop.self.left c.run-ran.new.self.plain c.run-ran.result c.run-ran.new.self.printed _ _ c.if-self-eq0.false many ran in
    let within = loop.invariant.within in
    let m = c.run-ran.new.self.plain in
    rw c.pass-in-Trapped.ensures (record {
      run = after-more _ (c.args.self.now.left - loop.self.left) c.run-ran.result.made _ [] (omega (arith, most, within)) loop.invariant.so_far
          (row_goes row loop.self.left m c.run-ran.result c.run-ran.new.self.printed _ _ c.if-self-eq0.false many ran)
          ∙ ap (λ (pc : ℕ). after_steps (c.args.self.now.left - (loop.self.left - c.run-ran.result.made)) [] (ended (ends.Trapped c.in-Trapped.trap c.in-Some.row.task pc) m)) (sym c.pc.ensures);
      tasks = record {
        valid = row_valid row loop.self.left m c.run-ran.result c.run-ran.new.self.printed _ _ c.if-self-eq0.false many ran;
        tasks = loop.invariant.tasks.tasks ∙ sym (row_on row loop.self.left m c.run-ran.result c.run-ran.new.self.printed _ _ c.if-self-eq0.false many ran (λ halts. cc)).same;
      };
      most = omega (arith, most, within);
      fewer = tt;
    })

-- ---- no task runs

pub returns-clause-run : goal.returns-clause-run
returns-clause-run g c =
    let loop = c.loop-row in
    let order = loop.self.schedule in
    let none = sym (pick-nobody order.entries order.last) ∙ ap (λ bits. pick (tasks_in bits) order.entries order.last) (sym (c.in_default.ensures.none.0 refl)) ∙ ap (λ tasks. pick tasks order.entries order.last) loop.invariant.tasks.tasks in
    loop.invariant.so_far ∙ ap (after_steps (c.args.self.now.left - loop.self.left) []) (picks-none loop.machine.plain order none loop.self.left)
