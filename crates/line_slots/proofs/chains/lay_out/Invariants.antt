use Rattle.line_slots.proofs.Laying.{AreLaidHeads}
use Rattle.line_slots.proofs.chains.lay_out.Given as goal

abbrev pub invariant-loop-slot : goal.invariant-loop-slot
invariant-loop-slot l = AreLaidHeads l.bits l.slot l.fn.links l.heads l.links
