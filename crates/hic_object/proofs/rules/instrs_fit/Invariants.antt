use Rattle.std.proofs.Common.{drop}
use Rattle.std.specs.List.{AllByRecursion}
use Rattle.hic_isa.specs.Spelling.{IsInstr}
use Rattle.hic_object.proofs.rules.instrs_fit.Given as goal

abbrev pub invariant-loop-instr : goal.invariant-loop-instr
invariant-loop-instr l = AllByRecursion IsInstr (drop l.instr-index l.code) → AllByRecursion IsInstr l.code
