use Rattle.std.proofs.Common.{[], ap, ◌∙◌, sym}
use Rattle.text_lines.specs.Pieces.{pieces}
use Rattle.hic_asm.specs.Assembly.{built, pass, line_built}
use Rattle.hic_asm.specs.Faults.{and_then}
use Rattle.hic_asm.specs.Waiting.{build_all}
use Rattle.hic_asm.proofs.source.first_pass_of.Goals as goal

pub returns-clause-waiting : goal.returns-clause-waiting
unfolding build_all
returns-clause-waiting c = λ s. sym (c.in_ok-count.ensures.waiting s (built [] []) ∙ ap (λ ws. and_then (build_all s (built [] []) ws) (λ b. pass (line_built s) 1 b (pieces c.args.text.now))) c.new-first.ensures.waiting)
