use Rattle.std.proofs.Common.{rules, sym, ◌∙◌, arith}
use Rattle.hic_word.specs.Width.{four_wide}
use Rattle.hic_word.specs.Memory.{line_at}
use Rattle.hic_word.proofs.callers.Standing.{id_live}
use Rattle.seg_canon.proofs.Opening.{path_opened, stored_opened}
use Rattle.seg_write.proofs.Opening.{opened_line, opened_pack, opened_path, opened_zero}
use Rattle.seg_write.proofs.opened.open.Goals as goal

pub returns-in-Pack-clause-pieces : goal.returns-in-Pack-clause-pieces
returns-in-Pack-clause-pieces g c = λ h A f. (opened_pack c.unpack.result f c.in-Pack.is (c.unpack.ensures (line_at (g.M.HoldCounts.memory c.args.mem.now)))).pieces

pub returns-in-Pack-clause-looks : goal.returns-in-Pack-clause-looks
returns-in-Pack-clause-looks g c = λ h A f. let none = (opened_pack c.unpack.result f c.in-Pack.is (c.unpack.ensures (line_at (g.M.HoldCounts.memory c.args.mem.now)))).own in omega (arith, none)

pub returns-in_default-clause-pieces : goal.returns-in_default-clause-pieces
returns-in_default-clause-pieces g c = λ h A f. (opened_zero c.num.result f c.in_default.not-Node c.in_default.not-Pack c.num.ensures.value).pieces

pub returns-in_default-clause-looks : goal.returns-in_default-clause-looks
returns-in_default-clause-looks g c = λ h A f. let none = (opened_zero c.num.result f c.in_default.not-Node c.in_default.not-Pack c.num.ensures.value).own in omega (arith, none)

pub line-requires : goal.line-requires
line-requires g c =
    let (h, A, f) = c.requires in
    (omega arith, id_live (stored_opened four_wide c.make.result f c.in-Node.is (omega arith) (sym c.length_of.ensures ∙ c.if-length_of-eq0.true) (c.make.ensures ∙ c.id_of.ensures)).line)

pub returns-then-length_of-eq0-clause-pieces : goal.returns-then-length_of-eq0-clause-pieces
returns-then-length_of-eq0-clause-pieces g c = λ h A f.
    (opened_line c.line.result.w f (stored_opened four_wide c.make.result f c.in-Node.is (omega arith) (sym c.length_of.ensures ∙ c.if-length_of-eq0.true) (c.make.ensures ∙ c.id_of.ensures)) c.line.ensures.line (search rules)).pieces

pub returns-then-length_of-eq0-clause-looks : goal.returns-then-length_of-eq0-clause-looks
returns-then-length_of-eq0-clause-looks g c = λ h A f.
    let own = (opened_line c.line.result.w f (stored_opened four_wide c.make.result f c.in-Node.is (omega arith) (sym c.length_of.ensures ∙ c.if-length_of-eq0.true) (c.make.ensures ∙ c.id_of.ensures)) c.line.ensures.line (search rules)).own in
    let one = c.line.ensures.one_look in
    omega (arith, own, one)

pub returns-clause-pieces : goal.returns-clause-pieces
returns-clause-pieces g c = λ h A f.
    (opened_path c.num-pieces.result f (path_opened four_wide c.path_of.result c.length_of.result c.shorter.result f c.in-Node.is (omega arith) c.path_of.ensures c.length_of.ensures (let more = c.if-length_of-eq0.false in omega (arith, more)) c.shorter.ensures) c.num-pieces.ensures.value).pieces

pub returns-clause-looks : goal.returns-clause-looks
returns-clause-looks g c = λ h A f.
    let own = (opened_path c.num-pieces.result f (path_opened four_wide c.path_of.result c.length_of.result c.shorter.result f c.in-Node.is (omega arith) c.path_of.ensures c.length_of.ensures (let more = c.if-length_of-eq0.false in omega (arith, more)) c.shorter.ensures) c.num-pieces.ensures.value).own in
    omega (arith, own)
