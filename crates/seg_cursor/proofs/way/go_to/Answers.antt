use Rattle.std.proofs.Common.{subst, sym, inr, arith}
use Rattle.hic_word.specs.Memory.{line_at}
use Rattle.hic_word.specs.Stands.{WordFor}
use Rattle.seg_cursor.proofs.Lines.{lines_all}
use Rattle.seg_cursor.proofs.Walking.{arrived}
use Rattle.seg_cursor.proofs.way.go_to.Goals as goal

pub returns-in-None-clause-word : goal.returns-in-None-clause-word
returns-in-None-clause-word g c = λ A r kept.
    let known = (c.in-None.ensures.start _ A r kept).0 in
    subst (WordFor 4 (line_at (g.M.HoldCounts.memory c.args.mem.now)) c.num.result) (sym known) (c.num.ensures.stands 4 _)

pub returns-in-None-clause-kept : goal.returns-in-None-clause-kept
returns-in-None-clause-kept g c = λ A r kept. (c.in-None.ensures.start _ A r kept).1

pub returns-in-Some-clause-word : goal.returns-in-Some-clause-word
returns-in-Some-clause-word g c = λ A r kept. c.go_down.ensures.word _ A (c.in-Some.ensures.start _ A r kept)

pub returns-in-Some-clause-kept : goal.returns-in-Some-clause-kept
returns-in-Some-clause-kept g c = λ A r kept. c.go_down.ensures.kept _ A (c.in-Some.ensures.start _ A r kept)

pub returns-in-Some-clause-walk : goal.returns-in-Some-clause-walk
returns-in-Some-clause-walk g c = λ A r kept. inr (record {
  begin = c.in-Some.height;
  high = c.in-Some.ensures.height;
  near = c.in-Some.ensures.near;
  low = c.go_down.ensures.low;
  more = c.go_down.ensures.more;
  looks = c.go_down.ensures.looks;
  some = c.go_down.ensures.some _ A (c.in-Some.ensures.start _ A r kept);
})

pub returns-in-Some-clause-way : goal.returns-in-Some-clause-way
returns-in-Some-clause-way g c = λ A r kept.
    let down = c.go_down.ensures.way _ A (c.in-Some.ensures.start _ A r kept) in
    let all = lines_all c.args.offset c.in-Some.height r c.in-Some.ensures.height in
    omega (arith, down, all)

pub returns-in-Some-default-eq0-clause-kept : goal.returns-in-Some-default-eq0-clause-kept
returns-in-Some-default-eq0-clause-kept g c = λ A r kept. (arrived c.in-Some-default-eq0.field-0-1 (c.in-Some-default-eq0.ensures.start _ A r kept) c.in-Some-default-eq0.field-0-1-test).1
