use Rattle.std.proofs.Common.{ap, arith}
use Rattle.hicamp.proofs.RunLaws.{counts-none, same_run}
use Rattle.hicamp.proofs.running.count_run.Goals as goal

pub told-init : goal.told-init
told-init g c =
    let same = same_run c.args.machine.now.plain c.make-running.ensures.schedule c.make-running.ensures.left in
    let steps = ap (λ x. x.steps) same in
    let left = c.make-running.ensures.left in
    let none = c.none-answers.ensures in
    record {
      end = ap (λ x. x.end) same;
      last = ap (λ x. x.last) same;
      steps = omega (arith, steps, left);
      within = omega (arith, left);
      zeros = counts-none 48 (ap (λ x. x.out) same) none.0 left;
      ones = counts-none 49 (ap (λ x. x.out) same) none.1 left;
      twos = counts-none 50 (ap (λ x. x.out) same) none.2 left;
      tasks = c.make-running.ensures.tasks;
    }
