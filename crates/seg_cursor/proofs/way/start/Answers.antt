use Rattle.std.proofs.Common.{◌≡◌, ◌-◌, [], length, ◌∙◌, ap, subst, rules, arith}
use Rattle.std.proofs.lemmas.List.{get_or_default}
use Rattle.hic_word.specs.Memory.{line_at}
use Rattle.seg_read.specs.Founds.{word_in}
use Rattle.seg_cursor.specs.Trails.{KeptFor}
use Rattle.seg_cursor.proofs.Walking.{start_ended, start_kept, start_past, start_root}
use Rattle.seg_cursor.proofs.way.start.Goals as goal

pub returns-then-height-end-clause-start : goal.returns-then-height-end-clause-start
returns-then-height-end-clause-start c = λ m A r kept.
    let there = subst (KeptFor (line_at m) c.args.root A c.args.lines.now c.args.end) c.in-Some.is kept in
    start_ended (line_at m) c.args.root A c.args.lines.now c.args.end c.in-Some.last c.args.offset c.join-height.result there c.join-height.ensures.some c.if-height-end.true c.join-height.ensures.joined

pub returns-then-height-root-clause-start : goal.returns-then-height-root-clause-start
returns-then-height-root-clause-start c = λ m A r kept.
    let there = subst (KeptFor (line_at m) c.args.root A c.args.lines.now c.args.end) c.in-Some.is kept in
    let long : length c.args.lines.now ≡ 16 = search rules in
    let low = c.join-height.ensures.low in
    let some = c.join-height.ensures.some in
    let line = get_or_default c.args.lines.now (c.join-height.result - 1) c.index-lines-height.result [] (omega (arith, long, low, some)) in
    start_kept (line_at m) c.args.root A c.args.lines.now c.args.end c.in-Some.last c.args.offset c.join-height.result c.place_at.result there c.if-height-end.false c.if-height-root.true c.join-height.ensures.joined c.place_at.ensures.place c.word.result (c.word.ensures ∙ ap (λ words. word_in words c.place_at.result) line)

pub returns-in-Some-whole_to-clause-start : goal.returns-in-Some-whole_to-clause-start
returns-in-Some-whole_to-clause-start c = λ m A r kept.
    start_root c.args.lines.now c.args.offset r c.in-Some-whole_to.ensures.some.0 c.in-Some-whole_to.ensures.some.1 (c.in-Some-whole_to.ensures.part m A r) (c.in-Some-whole_to.ensures.names m A r)

pub returns-in-None-clause-start : goal.returns-in-None-clause-start
returns-in-None-clause-start c = λ m A r kept.
    start_past c.args.lines.now c.args.offset r c.num.ensures.value (c.in-None.ensures.none m A r c.args.offset (omega arith)) c.in-None.ensures.past (c.num.ensures.stands 4 (line_at m))
