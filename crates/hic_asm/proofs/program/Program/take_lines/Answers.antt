use Rattle.std.proofs.Common.{refl, arith}
use Rattle.std.proofs.lemmas.Result.{err_from_is_err_and}
use Rattle.hic_asm.specs.Seen.{seen_of, built_of}
use Rattle.hic_asm.proofs.WaitingLaws.{build-next, build-fault, build-end}
use Rattle.hic_asm.proofs.program.Program.take_lines.Goals as goal

pub returns-in_err-build : goal.returns-in_err-build
returns-in_err-build c =
    let p = err_from_is_err_and c.from_residual.result c.from_residual.ensures.1 in
    rw (p.1, p.2) (λ not_memory. build-fault (seen_of c.args.seen.now) (built_of c.loop-waiting.self) c.args.lines.now c.loop-waiting.waiting-index _ _ _ c.loop-waiting-test.true refl c.loop-waiting.invariant _ (c.in_err-build.ensures not_memory))

pub loop-waiting-preserved : goal.loop-waiting-preserved
loop-waiting-preserved c =
    build-next (seen_of c.args.seen.now) (built_of c.loop-waiting.self) c.args.lines.now c.loop-waiting.waiting-index _ _ _ c.loop-waiting-test.true refl c.loop-waiting.invariant (built_of c.build.new.self) c.in_ok-build.ensures

pub returns : goal.returns
returns c = build-end (seen_of c.args.seen.now) (built_of c.loop-waiting.self) c.args.lines.now c.loop-waiting.waiting-index _ (omega arith) c.loop-waiting.invariant
