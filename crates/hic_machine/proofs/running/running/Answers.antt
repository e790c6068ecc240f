use Rattle.std.proofs.Common.{subst, arith}
use Rattle.std.proofs.lemmas.List.{take_all}
use Rattle.hic_machine.proofs.RunningBits.{AreBits, bits_are, clear_more, no_bits, set_more}
use Rattle.hic_machine.proofs.running.running.Goals as goal
use Rattle.hic_machine.proofs.running.running.Goals.{then-task, else-task}

pub loop-number-init : goal.loop-number-init
loop-number-init c = no_bits

pub loop-number-preserved : goal.loop-number-preserved
loop-number-preserved c = elim c.if-task.branch [
  | then-task w ↦ set_more c.loop-number.bits c.if-task.bits c.loop-number.number c.args.tasks.now _ c.loop-number-test.true c.requires c.index-tasks-number.is c.loop-number.invariant w.if-task.true w.bits-is
  | else-task w ↦ clear_more c.loop-number.bits c.if-task.bits c.loop-number.number c.args.tasks.now _ c.loop-number-test.true c.requires c.index-tasks-number.is c.loop-number.invariant w.if-task.false w.bits-is
]

pub returns : goal.returns
returns c = λ m Ts d. bits_are m c.loop-number.bits c.args.tasks.now Ts d c.requires (subst (AreBits c.loop-number.bits) (take_all c.loop-number.number c.args.tasks.now (omega (arith, c.loop-number-test.false))) c.loop-number.invariant)
