use Rattle.std.proofs.Common.{subst}
use Rattle.hic_word.specs.Memory.{line_at}
use Rattle.seg_cursor.specs.Pieces.{OpensTo}
use Rattle.seg_cursor.proofs.Firsts.{all_zero, is_open, place_there}
use Rattle.seg_cursor.proofs.quarters.open_first.Goals as goal

pub unwrap-place-requires : goal.unwrap-place-requires
unwrap-place-requires g c =
    let (k, A, n, f) = c.requires.part in
    let m = line_at (g.M.HoldCounts.memory c.args.mem.now) in
    let words = c.open_quarters-opened.new.quarters in
    let opens = c.open_quarters-opened.ensures.opens k A n f in
    let pieces = (subst (λ b. OpensTo m b words k A n) (is_open m c.args.entry c.open_quarters-opened.result words k A n f c.requires.some opens) opens).1 in
    place_there c.next_place.result words c.next_place.ensures.none (λ zeros. c.requires.some (all_zero words A k n f pieces zeros))

pub returns-clause-opens : goal.returns-clause-opens
returns-clause-opens g c = λ k A n f.
    let m = line_at (g.M.HoldCounts.memory c.args.mem.now) in
    let words = c.open_quarters-opened.new.quarters in
    let opens = c.open_quarters-opened.ensures.opens k A n f in
    subst (λ b. OpensTo m b words k A n) (is_open m c.args.entry c.open_quarters-opened.result words k A n f c.requires.some opens) opens

pub returns-clause-reached : goal.returns-clause-reached
returns-clause-reached g c = λ root r.
    let (k, A, n, f) = c.requires.part in
    let m = line_at (g.M.HoldCounts.memory c.args.mem.now) in
    let opens = c.open_quarters-opened.ensures.opens k A n f in
    c.open_quarters-opened.ensures.reached root r (is_open m c.args.entry c.open_quarters-opened.result c.open_quarters-opened.new.quarters k A n f c.requires.some opens)
