use Rattle.std.proofs.Common.{sym, ◌∙◌}
use Rattle.hic_asm.specs.Lines.{line_seen}
use Rattle.hic_asm.proofs.WaitingLaws.{continues-same, continues-more}
use Rattle.hic_asm.proofs.first_pass.put_off.Goals as goal

pub returns-in_ok-push-clause-waiting : goal.returns-in_ok-push-clause-waiting
returns-in_ok-push-clause-waiting c = continues-more c.args.waiting.now.items c.push.new.self.items (record { line = c.args.line; number = c.args.number }) c.in_ok-push.ensures.items

pub returns-else-builds-clause-waiting : goal.returns-else-builds-clause-waiting
returns-else-builds-clause-waiting c = continues-same c.args.waiting.now.items c.args.number (line_seen c.args.line) (sym c.builds.ensures ∙ c.if-builds.false)
