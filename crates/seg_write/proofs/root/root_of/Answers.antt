use Rattle.std.proofs.Common.{sym, ◌∙◌, arith}
use Rattle.seg_write.proofs.Rooted.{grew_same, line_some, one_rooted, root_in, same_held, settled_line, words_rooted, zero_names}
use Rattle.seg_write.proofs.root.root_of.Goals as goal

pub returns-in-Zero-clause-held : goal.returns-in-Zero-clause-held
returns-in-Zero-clause-held g c = λ held h.
    let (A, f) = c.requires.part in
    let p = c.settle-part.ensures.part _ A f in
    same_held held (sym (zero_names p (c.in-Zero.ensures _ A p) c.empty.ensures.value ∙ c.settle-part.ensures.names)) h

pub returns-in-Words-clause-held : goal.returns-in-Words-clause-held
returns-in-Words-clause-held g c = λ held h.
    let (A, f) = c.requires.part in
    let p = c.settle-part.ensures.part _ A f in
    let (one, ns, packed, stand) = c.in-Words.ensures _ A p in
    same_held held (sym ((words_rooted ns p one packed c.root_with.ensures).names ∙ c.settle-part.ensures.names)) h

pub returns-in-Words-clause-stands : goal.returns-in-Words-clause-stands
returns-in-Words-clause-stands g c = λ A f.
    let p = c.settle-part.ensures.part _ A f in
    let (one, ns, packed, stand) = c.in-Words.ensures _ A p in
    root_in (words_rooted ns p one packed c.root_with.ensures).root

pub returns-in-One-clause-held : goal.returns-in-One-clause-held
returns-in-One-clause-held g c = λ held h.
    let (A, f) = c.requires.part in
    let p = c.settle-part.ensures.part _ A f in
    same_held held (sym ((one_rooted p (c.settle-part.ensures.settled _ A f) (c.in-One.ensures _ A p) c.root_with-in-One.ensures).names ∙ c.settle-part.ensures.names)) h

pub returns-in-One-clause-stands : goal.returns-in-One-clause-stands
returns-in-One-clause-stands g c = λ A f.
    let p = c.settle-part.ensures.part _ A f in
    root_in (one_rooted p (c.settle-part.ensures.settled _ A f) (c.in-One.ensures _ A p) c.root_with-in-One.ensures).root

pub returns-then-part-eq2-clause-held : goal.returns-then-part-eq2-clause-held
returns-then-part-eq2-clause-held g c = λ held h. c.root_of_line.ensures.held held (same_held held (sym c.settle-part.ensures.names) h)

pub returns-then-part-eq2-clause-kept : goal.returns-then-part-eq2-clause-kept
returns-then-part-eq2-clause-kept g c = λ before held grew. c.root_of_line.ensures.kept before held (grew_same (sym c.settle-part.ensures.names) grew)

pub returns-then-part-eq2-clause-looks : goal.returns-then-part-eq2-clause-looks
returns-then-part-eq2-clause-looks g c = λ A f.
    let p = c.settle-part.ensures.part _ A f in
    let some = line_some p (c.in-Stored.ensures _ A p) in
    let one = c.root_of_line.ensures.looks in
    omega (arith, some, one)

pub returns-else-part-eq2-clause-stands : goal.returns-else-part-eq2-clause-stands
returns-else-part-eq2-clause-stands g c = λ A f.
    let p = c.settle-part.ensures.part _ A f in
    root_in (settled_line p (c.settle-part.ensures.settled _ A f) c.if-part-eq2.false (c.in-Stored.ensures _ A p) c.root_with-else-part-eq2.ensures).root
