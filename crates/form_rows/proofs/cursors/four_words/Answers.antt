use Rattle.std.proofs.Common.{ap, refl, arith}
use Rattle.form_rows.proofs.FirstCursor.{first_cursor}
use Rattle.form_rows.proofs.cursors.four_words.Goals as goal

pub read-first-requires : goal.read-first-requires
read-first-requires g c = let (A, r) = c.requires.root in (A, first_cursor r c.set.ensures)

-- the first makes the one look, and one part of height 1 has all four offsets
pub returns : goal.returns
returns g c =
    let height = ap (λ v. v.root.height) c.set.ensures in
    let low = c.requires.height in
    let first = c.read-first.ensures.looks.1 in
    let second = (c.read-second.ensures.near 0 c.read-first.ensures.last 1 (omega arith) refl).1 in
    let third = (c.read-third.ensures.near 1 c.read-second.ensures.last 1 (omega arith) refl).1 in
    let fourth = (c.read-fourth.ensures.near 2 c.read-third.ensures.last 1 (omega arith) refl).1 in
    omega (arith, height, low, first, second, third, fourth)
