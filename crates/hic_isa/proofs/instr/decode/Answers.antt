use Rattle.std.proofs.Common.{◌≡◌, sym, ◌∙◌, ap}
use Rattle.hic_isa.specs.Spelling.{spelling}
use Rattle.hic_isa.proofs.SpellingLaws.{spelled-candidate}
use Rattle.hic_isa.proofs.instr.decode.Goals as goal

pub returns-in_err-instr-clause-only : goal.returns-in_err-instr-clause-only
returns-in_err-instr-clause-only c i fits spelled =
    let is = spelled-candidate c.args.bytes.now c.candidate.result c.candidate.ensures i fits spelled in
    let was = c.in_err-instr.was in
    absurd (cc (is, was))

pub returns-then-is_spelled-clause-only : goal.returns-then-is_spelled-clause-only
returns-then-is_spelled-clause-only c i fits spelled =
    let is = spelled-candidate c.args.bytes.now c.candidate.result c.candidate.ensures i fits spelled in
    sym c.in_ok-instr.was ∙ is

pub returns-else-is_spelled-clause-only : goal.returns-else-is_spelled-clause-only
returns-else-is_spelled-clause-only c i fits spelled =
    let is = spelled-candidate c.args.bytes.now c.candidate.result c.candidate.ensures i fits spelled in
    let was = c.in_ok-instr.was in
    let same : c.in_ok-instr.instr ≡ i = cc (is, was) in
    let test = c.if-is_spelled.ensures.same.1 (ap spelling same ∙ spelled) in
    absurd (cc test)
