use Rattle.std.proofs.Common.{◌≡◌, ◌++◌, take, flat_map}
use Rattle.std.specs.String.{string_bytes}
use Rattle.hic_asm.specs.ObjectText.{segment_line}
use Rattle.hic_asm.proofs.disassembler.put_segments.Given as goal

abbrev pub invariant-loop-segment : goal.invariant-loop-segment
invariant-loop-segment l = string_bytes l.text ≡ string_bytes l.fn.text ++ flat_map segment_line (take l.segment l.object.kinds)
