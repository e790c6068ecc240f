use Rattle.std.proofs.Common.{◌^◌, ◌≤◌, length, sym, arith}
use Rattle.std.proofs.Math.Nat.{pow-le-pow_right}
use Rattle.std.proofs.lemmas.Result.{MatchResult-from_err}
use Rattle.hic_word.specs.Canon.{enc}
use Rattle.hic_word.specs.Heights.{height}
use Rattle.seg_read.specs.Levels.{levels}
use Rattle.seg_read.proofs.Levels.{levels_low}
use Rattle.seg_write.specs.Puts.{put_at}
use Rattle.seg_write.proofs.Falling.{lowest_looks}
use Rattle.seg_write.proofs.Putting.{changed_part}
use Rattle.seg_write.proofs.Rooted.{root_in, same_held, tall_rooted}
use Rattle.seg_write.proofs.Tops.{top_named}
use Rattle.seg_write.proofs.Trimming.{reached_top}
use Rattle.seg_write.proofs.shrink.tall_root.Goals as goal

pub put-requires-clause-low : goal.put-requires-clause-low
put-requires-clause-low g c =
    let (A, L, f) = c.requires.put in
    let most : 4 ^ c.args.top ≤ 4 ^ 16 = pow-le-pow_right (omega arith) f.part.is_part.low in
    omega (arith, most)

pub returns-clause-passes : goal.returns-clause-passes
returns-clause-passes g c =
    let (A, L, f) = c.requires.put in
    let reach = reached_top f c.requires.high c.requires.past c.requires.word in
    let rooted = tall_rooted (c.in_ok-entry.ensures.stands A L f) reach c.requires.high c.root_with.ensures in
    let taken = c.in_ok-entry.ensures.trades.passes in
    record { holds = λ held h. same_held held (sym rooted.names) (taken.holds held h); lines = taken.lines; layout = taken.layout }

pub returns-clause-stands : goal.returns-clause-stands
returns-clause-stands g c = λ A L f. root_in (tall_rooted (c.in_ok-entry.ensures.stands A L f) (reached_top f c.requires.high c.requires.past c.requires.word) c.requires.high c.root_with.ensures).root

pub returns-clause-looks : goal.returns-clause-looks
returns-clause-looks g c = λ A L f.
    let C = put_at c.args.top 0 A L in
    let reach = reached_top f c.requires.high c.requires.past c.requires.word in
    let most = levels_low c.args.top C in
    lowest_looks (length c.args.changes.now) (levels (enc 4 c.args.top A)) (levels (enc 4 c.args.top C)) (height 4 C) (g.M.HoldCounts.memory c.args.mem.now).layout.probe c.args.steps.now c.put.new.steps c.put.new.steps (omega (arith, most, reach)) (c.put.ensures.looks A L f) (omega arith) (omega arith)

pub returns-in_err-entry-clause-full : goal.returns-in_err-entry-clause-full
returns-in_err-entry-clause-full g c = MatchResult-from_err c.from_residual.result _ _ c.from_residual.ensures.0 (λ _ A L f.
    c.in_err-entry.ensures.full A L (put_at c.args.top 0 A L) f (changed_part f).valid (top_named c.args.top (put_at c.args.top 0 A L) c.requires.high (changed_part f) (reached_top f c.requires.high c.requires.past c.requires.word)))

pub returns-in_err-entry-clause-looks : goal.returns-in_err-entry-clause-looks
returns-in_err-entry-clause-looks g c = λ A L f.
    let C = put_at c.args.top 0 A L in
    let reach = reached_top f c.requires.high c.requires.past c.requires.word in
    let most = levels_low c.args.top C in
    lowest_looks (length c.args.changes.now) (levels (enc 4 c.args.top A)) (levels (enc 4 c.args.top C)) (height 4 C) (g.M.HoldCounts.memory c.args.mem.now).layout.probe c.args.steps.now c.put.new.steps c.put.new.steps (omega (arith, most, reach)) (c.put.ensures.looks A L f) (omega arith) (omega arith)
