use Rattle.std.proofs.Common.{rules, ◌-◌, ◌∙◌, ap, arith}
use Rattle.hic_word.specs.Canon.{enc}
use Rattle.hic_word.proofs.callers.Standing.{id_live}
use Rattle.seg_canon.proofs.Pieces.{enc-empty}
use Rattle.seg_read.specs.Levels.{own_line}
use Rattle.seg_read.proofs.Entering.{line_words}
use Rattle.seg_read.proofs.Raising.{one_raises, raises_whole}
use Rattle.seg_read.proofs.Ways.{one_own}
use Rattle.seg_changes.proofs.Insides.{only_raises, within_entries, within_nothing, within_only, within_words}
use Rattle.seg_changes.proofs.within.look_inside.Goals as goal

pub line-line-requires : goal.line-line-requires
line-line-requires g c = (omega arith, id_live (c.in-Stored.ensures _ c.requires.0 c.requires.1).line)

-- nothing
pub returns-in-Zero-clause-within : goal.returns-in-Zero-clause-within
returns-in-Zero-clause-within g c = λ A f. within_nothing f (c.in-Zero.ensures _ A f)

pub returns-in-Zero-clause-looks : goal.returns-in-Zero-clause-looks
returns-in-Zero-clause-looks g c = λ A f.
    let none = ap (λ B. own_line (enc 4 c.args.part.top B)) (c.in-Zero.ensures _ A f) ∙ ap own_line (enc-empty 4 c.args.part.top) in
    record { more = omega arith; whole = λ low. omega (arith, none); packed = λ some. omega arith }

-- packed numbers
pub returns-in-Words-clause-within : goal.returns-in-Words-clause-within
returns-in-Words-clause-within g c = λ A f. let (one, ns, packed, words) = c.in-Words.ensures _ A f in within_words c.args.part.top A c.in-Words.words one words

pub returns-in-Words-clause-looks : goal.returns-in-Words-clause-looks
returns-in-Words-clause-looks g c = λ A f.
    let (one, ns, packed, words) = c.in-Words.ensures _ A f in
    let none = ap own_line (ap (λ h. enc 4 h A) one ∙ packed) in
    record { more = omega arith; whole = λ low. omega (arith, none); packed = λ some. omega arith }

-- one quarter
pub returns-in-One-clause-within : goal.returns-in-One-clause-within
returns-in-One-clause-within g c = λ A f. within_only (c.in-One.ensures _ A f)

pub returns-in-One-clause-looks : goal.returns-in-One-clause-looks
returns-in-One-clause-looks g c = λ A f. record {
  more = omega arith;
  whole = λ low. let none = one_own (c.in-One.ensures _ A f) f low in omega (arith, none);
  packed = λ some. omega arith;
}

pub returns-in-One-clause-raises : goal.returns-in-One-clause-raises
returns-in-One-clause-raises g c = λ A f.
    let o = c.in-One.ensures _ A f in
    let less = one_raises o f in
    let all = only_raises (c.args.part.top - 1) c.in-One.place c.in-One.quarter o.place in
    omega (arith, less, all)

-- a line
pub returns-then-part-eq1-clause-within : goal.returns-then-part-eq1-clause-within
returns-then-part-eq1-clause-within g c = λ A f. within_words c.args.part.top A c.line-line.result.w c.if-part-eq1.true (line_words c.line-line.result.w (c.in-Stored.ensures _ A f) c.line-line.ensures.line c.if-part-eq1.true)

pub returns-else-part-eq1-clause-within : goal.returns-else-part-eq1-clause-within
returns-else-part-eq1-clause-within g c = λ A f. within_entries c.line-line.result.w f (c.in-Stored.ensures _ A f) c.line-line.ensures.line (search rules) c.if-part-eq1.false

pub returns-then-part-eq1-clause-looks : goal.returns-then-part-eq1-clause-looks
returns-then-part-eq1-clause-looks g c = λ A f.
    let l = c.in-Stored.ensures _ A f in
    let own = ap own_line l.made in
    let one = c.line-line.ensures.one_look in
    let free = raises_whole c.args.part l.at in
    record { more = omega (arith, one); whole = λ low. omega (arith, own, one); packed = λ some. absurd (omega (arith, some, free)) }

pub returns-else-part-eq1-clause-looks : goal.returns-else-part-eq1-clause-looks
returns-else-part-eq1-clause-looks g c = λ A f.
    let l = c.in-Stored.ensures _ A f in
    let own = ap own_line l.made in
    let one = c.line-line.ensures.one_look in
    let free = raises_whole c.args.part l.at in
    record { more = omega (arith, one); whole = λ low. omega (arith, own, one); packed = λ some. absurd (omega (arith, some, free)) }
