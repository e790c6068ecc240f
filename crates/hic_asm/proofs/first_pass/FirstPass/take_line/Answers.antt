use Rattle.hic_asm.specs.Lines.{line_seen}
use Rattle.hic_asm.proofs.WaitingLaws.{continues-read}
use Rattle.hic_asm.proofs.first_pass.FirstPass.take_line.Goals as goal

pub returns-in_ok-define-in-Ok-clause-waiting : goal.returns-in_ok-define-in-Ok-clause-waiting
returns-in_ok-define-in-Ok-clause-waiting c =
    continues-read c.put_off.result c.args.self.now.waiting.items c.put_off.new.waiting.items c.args.number c.args.bytes.now (line_seen c.in-Ok.line) c.in-Ok.ensures c.put_off.ensures.waiting
