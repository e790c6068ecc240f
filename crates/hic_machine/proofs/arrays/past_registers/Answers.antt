use Rattle.std.proofs.Common.{◌∙◌, ap, arith}
use Rattle.hic_machine.specs.HeldAt.{sought}
use Rattle.hic_machine.proofs.Seeking.{all_alone, alone, stops, there}
use Rattle.hic_machine.proofs.arrays.past_registers.Goals as goal

pub returns-in_err-left : goal.returns-in_err-left
returns-in_err-left c =
    let low = c.requires in
    let test = c.loop-r-test.true in
    c.from_residual.ensures
    ∙ stops alone c.args.regs.now c.args.k c.loop-r.r c.loop-r.left c.get.result (omega (arith, low, test)) (there c.args.regs.now c.loop-r.r c.get.result c.get.ensures) c.loop-r.invariant c.past_word.result _ c.past_word.ensures c.in_err-left.was
    ∙ ap (λ ws. sought ws c.args.k) (all_alone c.args.regs.now)
