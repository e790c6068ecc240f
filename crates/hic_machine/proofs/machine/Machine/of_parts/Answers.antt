use Rattle.std.proofs.Common.{sym, subst}
use Rattle.hic_machine.specs.Held.{MachineFor}
use Rattle.hic_machine.specs.Seen.{the_machine_is}
use Rattle.hic_machine.proofs.machine.Machine.of_parts.Goals as goal

pub invariant_of-result-2 : goal.invariant_of-result-2
invariant_of-result-2 g c = subst (MachineFor (g.S.HoldCounts.memory c.args.mem) c.args.code.items c.args.shared.segments c.args.shared.input c.args.tasks.items) (sym (the_machine_is (g.S.HoldCounts.memory c.args.mem) c.args.code.items c.args.shared.segments c.args.shared.input c.args.tasks.items _ c.requires.0 c.requires.1)) c.requires.1

pub returns-clause-plain : goal.returns-clause-plain
returns-clause-plain g c = λ P d. the_machine_is (g.S.HoldCounts.memory c.args.mem) c.args.code.items c.args.shared.segments c.args.shared.input c.args.tasks.items _ P d
