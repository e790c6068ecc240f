use Rattle.std.proofs.Common.{arith}
use Rattle.form_rows.proofs.loads.load_four.Goals as goal

pub returns-clause-looks : goal.returns-clause-looks
returns-clause-looks g c =
    let (from, most) = c.load_at.ensures.looks in
    let second = c.load_at-2.ensures.near 0 (omega arith) c.in_ok-first.ensures.last in
    let third = c.load_at-3.ensures.near 1 (omega arith) c.in_ok-second.ensures.last in
    let fourth = c.load_at-4.ensures.near 2 (omega arith) c.in_ok-third.ensures.last in
    (omega arith, omega arith)
