use Rattle.std.proofs.Common.{rules, refl}
use Rattle.seg_write.proofs.Settling.{first_part, later_settled, opened_settled}
use Rattle.seg_write.proofs.root.«+settle».Goals as goal

pub settle-requires : goal.settle-requires
settle-requires t c =
    let (m, A, f) = c.requires in
    let o = c.in-One.ensures m A f in
    let top = o.top in
    let r = first_part f o c.if-place-eq0.true in
    (search rules, (m, A, r))

pub returns-then-place-eq0-clause-part : goal.returns-then-place-eq0-clause-part
returns-then-place-eq0-clause-part t c = λ m A f. c.settle.ensures.part m A (first_part f (c.in-One.ensures m A f) c.if-place-eq0.true)

pub returns-then-place-eq0-clause-settled : goal.returns-then-place-eq0-clause-settled
returns-then-place-eq0-clause-settled t c = λ m A f. c.settle.ensures.settled m A (first_part f (c.in-One.ensures m A f) c.if-place-eq0.true)

pub returns-else-place-eq0-clause-settled : goal.returns-else-place-eq0-clause-settled
returns-else-place-eq0-clause-settled t c = λ m A f. later_settled f (c.in-One.ensures m A f) c.if-place-eq0.false

pub returns-in_default : goal.returns-in_default
returns-in_default t c = record {
  part = λ m A f. f;
  settled = λ m A f. opened_settled c.open_part.result f (c.open_part.ensures m A f) c.in_default.not-One;
  names = refl;
}
