use Rattle.std.proofs.Common.{◌<◌, drop}
use Rattle.std.specs.List.{AllByRecursion}
use Rattle.hic_machine.proofs.opening.bytes_fit.Given as goal

abbrev pub invariant-loop-byte : goal.invariant-loop-byte
invariant-loop-byte l = AllByRecursion (λ byte. byte < 256) (drop l.byte-index l.bytes) → AllByRecursion (λ byte. byte < 256) l.bytes
