use Rattle.std.proofs.Common.{◌+◌, length, refl, ap, arith}
use Rattle.std.proofs.lemmas.Result.{err_from_is_err_and}
use Rattle.text_lines.specs.Pieces.{pieces}
use Rattle.hic_asm.specs.Assembly.{pass, line_after}
use Rattle.hic_asm.specs.Seen.{seen_of}
use Rattle.hic_asm.proofs.Passes.{pass-next, pass-fault, pass-end}
use Rattle.hic_asm.proofs.WaitingLaws.{continue-line, continue-end}
use Rattle.hic_asm.proofs.first_pass.FirstPass.take_lines.Goals as goal

pub returns-in_err-take_line-clause-seen : goal.returns-in_err-take_line-clause-seen
returns-in_err-take_line-clause-seen c =
    let p = err_from_is_err_and c.from_residual.result c.from_residual.ensures.1 in
    rw (p.1, p.2) (λ not_memory. pass-fault line_after c.loop-bytes.number (c.loop-bytes.number + 1) (seen_of c.loop-bytes.self.seen) (pieces c.loop-bytes.rest.now) (pass line_after 1 (seen_of c.args.self.now.seen) (pieces c.args.text.now)) refl c.loop-bytes.invariant.passed c.in-Some.bytes.now (pieces c.in-Some.after.now) c.in_err-take_line.field-0.0 c.in-Some.ensures.piece (c.in_err-take_line.ensures.seen not_memory))

pub loop-bytes-preserved : goal.loop-bytes-preserved
loop-bytes-preserved c =
    let more = ap length c.in-Some.ensures.piece in
    record {
      passed = pass-next line_after c.loop-bytes.number (c.loop-bytes.number + 1) (seen_of c.loop-bytes.self.seen) (pieces c.loop-bytes.rest.now) (pass line_after 1 (seen_of c.args.self.now.seen) (pieces c.args.text.now)) refl c.loop-bytes.invariant.passed c.in-Some.bytes.now (pieces c.in-Some.after.now) (seen_of c.take_line.new.self.seen) c.in-Some.ensures.piece c.in_ok-take_line.ensures.seen;
      waiting = λ s b. continue-line s b c.loop-bytes.self.waiting.items c.take_line.new.self.waiting.items (c.loop-bytes.number + 1) c.in-Some.bytes.now (pieces c.in-Some.after.now) (pieces c.loop-bytes.rest.now) _ c.in-Some.ensures.piece c.in_ok-take_line.ensures.waiting (c.loop-bytes.invariant.waiting s b);
      count = omega arith;
      fits = omega (arith, c.in-Some.ensures.shorter);
    }

pub returns-clause-seen : goal.returns-clause-seen
returns-clause-seen c = pass-end line_after c.loop-bytes.number (c.loop-bytes.number + 1) (seen_of c.loop-bytes.self.seen) (pieces c.loop-bytes.rest.now) (pass line_after 1 (seen_of c.args.self.now.seen) (pieces c.args.text.now)) refl c.loop-bytes.invariant.passed c.in_default.ensures.piece

pub returns-clause-waiting : goal.returns-clause-waiting
returns-clause-waiting c = λ s b. continue-end s b c.loop-bytes.self.waiting.items (c.loop-bytes.number + 1) (pieces c.loop-bytes.rest.now) _ c.in_default.ensures.piece (c.loop-bytes.invariant.waiting s b)
