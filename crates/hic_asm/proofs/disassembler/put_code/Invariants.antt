use Rattle.std.proofs.Common.{◌≡◌, ◌++◌, take, flat_map}
use Rattle.std.specs.String.{string_bytes}
use Rattle.hic_asm.specs.ObjectText.{instruction_line}
use Rattle.hic_asm.proofs.disassembler.put_code.Given as goal

abbrev pub invariant-loop-instr : goal.invariant-loop-instr
invariant-loop-instr l = string_bytes l.text ≡ string_bytes l.fn.text ++ flat_map instruction_line (take l.instr-index l.code)
