use Rattle.std.proofs.Common.{◌≡◌, ◌++◌, take, flat_map}
use Rattle.std.specs.String.{string_bytes}
use Rattle.hic_asm.specs.ObjectText.{record_line}
use Rattle.hic_asm.proofs.disassembler.put_records.Given as goal

abbrev pub invariant-loop-word : goal.invariant-loop-word
invariant-loop-word l = string_bytes l.text ≡ string_bytes l.fn.text ++ flat_map record_line (take l.word-index l.words)
