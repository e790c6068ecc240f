use Rattle.std.proofs.Common.{◌≡◌, [], length, refl, sym, ◌∙◌, ap, rules, arith}
use Rattle.std.proofs.lemmas.List.{get_or_default}
use Rattle.hic_word.specs.Memory.{line_at}
use Rattle.seg_read.specs.Founds.{word_in}
use Rattle.seg_cursor.proofs.Nexts.{later_fits, later_past, later_way}
use Rattle.seg_cursor.proofs.way.go_past.Goals as goal

pub returns-in-None : goal.returns-in-None
returns-in-None g c = λ root A z. (refl, c.in-None.ensures (line_at (g.M.HoldCounts.memory c.args.mem.now)) root A z.below z.height z.kept z.zero)

pub bounds-lines-height : goal.bounds-lines-height
bounds-lines-height g c =
    let (root, A, z) = c.requires.kept in
    let l = c.in-Some.ensures (line_at (g.M.HoldCounts.memory c.args.mem.now)) root A z.below z.height z.kept z.zero in
    let high = l.high in
    let low = c.requires.low in
    omega (arith, high, low)

pub listed : goal.listed
listed g c =
    let (root, A, z) = c.requires.kept in
    let l = c.in-Some.ensures (line_at (g.M.HoldCounts.memory c.args.mem.now)) root A z.below z.height z.kept z.zero in
    let high = l.high in
    let low = c.requires.low in
    let long : length c.args.lines.now ≡ 16 = search rules in
    omega (arith, long, high, low)

pub word-entry-requires : goal.word-entry-requires
word-entry-requires g c =
    let (root, A, z) = c.requires.kept in
    let l = c.in-Some.ensures (line_at (g.M.HoldCounts.memory c.args.mem.now)) root A z.below z.height z.kept z.zero in
    l.low

pub number_of-number-requires-clause-height : goal.number_of-number-requires-clause-height
number_of-number-requires-clause-height g c =
    let (root, A, z) = c.requires.kept in
    let l = c.in-Some.ensures (line_at (g.M.HoldCounts.memory c.args.mem.now)) root A z.below z.height z.kept z.zero in
    let high = l.high in
    let low = c.requires.low in
    omega (arith, high, low)

pub number_of-number-requires-clause-place : goal.number_of-number-requires-clause-place
number_of-number-requires-clause-place g c =
    let (root, A, z) = c.requires.kept in
    let l = c.in-Some.ensures (line_at (g.M.HoldCounts.memory c.args.mem.now)) root A z.below z.height z.kept z.zero in
    l.low

pub go_to_first-requires : goal.go_to_first-requires
go_to_first-requires g c =
    let (root, A, z) = c.requires.kept in
    let l = c.in-Some.ensures (line_at (g.M.HoldCounts.memory c.args.mem.now)) root A z.below z.height z.kept z.zero in
    let high = l.high in
    let low = c.requires.low in
    let long : length c.args.lines.now ≡ 16 = search rules in
    let line = get_or_default c.args.lines.now c.in-Some.height c.index-lines-height.result [] (omega (arith, long, high, low)) in
    record {
      low = omega (arith, high, low);
      fits = later_fits c.args.offset c.in-Some.height c.in-Some.place c.number_of-number.result c.ranges.offset.fits (omega (arith, high, low)) l.low c.number_of-number.ensures;
      way = (root, A, later_way c.number_of-number.result z.kept.1 z.height l c.number_of-number.ensures c.word-entry.result (c.word-entry.ensures ∙ ap (λ words. word_in words c.in-Some.place) line));
      some = λ none. l.some (sym (c.word-entry.ensures ∙ ap (λ words. word_in words c.in-Some.place) line) ∙ none);
    }

pub returns-in-Some : goal.returns-in-Some
returns-in-Some g c = λ root A z.
    let l = c.in-Some.ensures (line_at (g.M.HoldCounts.memory c.args.mem.now)) root A z.below z.height z.kept z.zero in
    let high = l.high in
    let low = c.requires.low in
    let long : length c.args.lines.now ≡ 16 = search rules in
    let line = get_or_default c.args.lines.now c.in-Some.height c.index-lines-height.result [] (omega (arith, long, high, low)) in
    later_past c.number_of-number.result l c.number_of-number.ensures (c.go_to_first.ensures.first root A (later_way c.number_of-number.result z.kept.1 z.height l c.number_of-number.ensures c.word-entry.result (c.word-entry.ensures ∙ ap (λ words. word_in words c.in-Some.place) line))) c.go_to_first.ensures.looks
