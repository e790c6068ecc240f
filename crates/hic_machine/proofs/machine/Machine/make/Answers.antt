use Rattle.hic_machine.proofs.machine.Machine.make.Goals as goal

pub returns-clause-start : goal.returns-clause-start
returns-clause-start g c = c.of_parts.ensures.plain _ c.in_ok-parts.ensures.start
