use Rattle.std.proofs.Common.{◌≡◌, drop}
use Rattle.hic_asm.specs.Seen.{built_of, seen_of}
use Rattle.hic_asm.specs.Waiting.{build_all}
use Rattle.hic_asm.proofs.program.Program.take_lines.Given as goal

-- the lines that are left build what all lines build
abbrev pub invariant-loop-waiting : goal.invariant-loop-waiting
invariant-loop-waiting l = build_all (seen_of l.seen) (built_of l.self) (drop l.waiting-index l.lines) ≡ build_all (seen_of l.seen) (built_of l.fn.self) l.lines
