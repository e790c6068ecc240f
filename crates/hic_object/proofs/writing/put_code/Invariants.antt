use Rattle.std.proofs.Common.{◌≡◌, ◌++◌, take}
use Rattle.std.specs.List.{flat_map}
use Rattle.hic_isa.specs.Spelling.{spelling}
use Rattle.hic_object.proofs.writing.put_code.Given as goal

abbrev pub invariant-loop-instr : goal.invariant-loop-instr
invariant-loop-instr l = l.out.items ≡ l.fn.out.items ++ flat_map spelling (take l.instr-index l.code)
