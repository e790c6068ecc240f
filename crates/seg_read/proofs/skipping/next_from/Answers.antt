use Rattle.std.proofs.Common.{None, sym, subst, arith}
use Rattle.seg_read.specs.Founds.{NextFor}
use Rattle.seg_read.proofs.Levels.{levels_low}
use Rattle.seg_read.proofs.Rooting.{root_levels}
use Rattle.seg_read.proofs.Seeking.{found_next, looks_most}
use Rattle.seg_read.proofs.skipping.next_from.Goals as goal

pub returns-in_err-entry-clause-value : goal.returns-in_err-entry-clause-value
returns-in_err-entry-clause-value g c = λ A r.
    let m = g.M.HoldCounts.memory c.args.mem.now in
    subst (NextFor m A c.args.offset) (sym c.from_residual.ensures) (found_next m A c.args.offset None r.valid (c.in_err-entry.ensures.none _ A r))

pub returns-clause-value : goal.returns-clause-value
returns-clause-value g c = λ A r. found_next (g.M.HoldCounts.memory c.args.mem.now) A c.args.offset c.next_in.result r.valid (c.next_in.ensures.value A (c.in_ok-entry.ensures.part _ A r))

pub returns-clause-looks : goal.returns-clause-looks
returns-clause-looks g c =
    let f = c.in_ok-entry.ensures.part _ c.requires.0 c.requires.1 in
    let looks = looks_most c.args.offset c.next_in.result _ _ _ (c.next_in.ensures.looks c.requires.0 f) in
    let low = levels_low c.args.root.height c.requires.0 in
    let most = looks.1 in
    (looks.0, omega (arith, most, low))

pub returns-clause-path : goal.returns-clause-path
returns-clause-path g c = λ A r.
    let f = c.in_ok-entry.ensures.part _ A r in
    let looks = looks_most c.args.offset c.next_in.result _ _ _ (c.next_in.ensures.looks A f) in
    let same = root_levels r c.in_ok-entry.ensures.some.0 in
    let most = looks.1 in
    omega (arith, most, same)
