use Rattle.std.proofs.Common.{◌≡◌, ◌≤◌, ◌+◌, length}
use Rattle.text_lines.specs.Pieces.{pieces}
use Rattle.hic_asm.specs.Faults.{and_then}
use Rattle.hic_asm.specs.Assembly.{Seen, Built, pass, line_after, line_built}
use Rattle.hic_asm.specs.Seen.{seen_of}
use Rattle.hic_asm.specs.Waiting.{build_all}
use Rattle.hic_asm.proofs.first_pass.FirstPass.take_lines.Given as goal

-- the lines that are left give what all lines give
abbrev pub invariant-loop-bytes : goal.invariant-loop-bytes
invariant-loop-bytes l = record {
  passed : pass line_after (l.number + 1) (seen_of l.self.seen) (pieces l.rest) ≡ pass line_after 1 (seen_of l.fn.self.seen) (pieces l.text);
  waiting : (s : Seen) (b : Built) → and_then (build_all s b l.self.waiting.items) (λ x. pass (line_built s) (l.number + 1) x (pieces l.rest)) ≡ and_then (build_all s b l.fn.self.waiting.items) (λ x. pass (line_built s) 1 x (pieces l.text));
  count : l.number + length (pieces l.rest) ≡ length (pieces l.text);
  fits : l.number + length l.rest ≤ length l.text;
}

abbrev pub decreases-loop-bytes : goal.decreases-loop-bytes
decreases-loop-bytes l = length l.rest
