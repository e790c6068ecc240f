use Rattle.std.proofs.Common.{sym, ap, rules}
use Rattle.hic_word.specs.Values.{depth, depth_of}
use Rattle.plain_form.specs.Value.{pairs_of, value_of}
use Rattle.plain_form.proofs.lines.«+depth».Goals as goal

pub depth-returns-in-NoPair : goal.depth-returns-in-NoPair
unfolding depth
depth-returns-in-NoPair t c = sym (ap (λ a. depth (pairs_of a)) c.in-NoPair.is)

pub depth-returns-in_ok-others-in-Pair : goal.depth-returns-in_ok-others-in-Pair
unfolding depth
depth-returns-in_ok-others-in-Pair t c =
    let first = c.in_ok-first-in-Pair.ensures in
    let others = c.in_ok-others-in-Pair.ensures in
    let greatest = c.max.ensures in
    let all = ap (λ a. depth (pairs_of a)) c.in-Pair.is in
    cc

pub depth_of-returns-in-Number : goal.depth_of-returns-in-Number
unfolding depth
depth_of-returns-in-Number t c = sym (ap (λ v. depth_of (value_of v)) c.in-Number.is)

pub depth_of-returns-in_ok-below-in-Ref : goal.depth_of-returns-in_ok-below-in-Ref
unfolding depth
depth_of-returns-in_ok-below-in-Ref t c = search rules
