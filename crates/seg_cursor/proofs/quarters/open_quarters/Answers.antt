use Rattle.std.proofs.Common.{true, ◌∙◌, subst, sym, ap, rules, arith}
use Rattle.hic_word.specs.Width.{four_wide}
use Rattle.hic_word.specs.Memory.{line_at}
use Rattle.hic_word.proofs.callers.Standing.{id_live}
use Rattle.seg_canon.proofs.Opening.{stored_opened, zero_opened}
use Rattle.seg_read.specs.Levels.{own_line}
use Rattle.seg_cursor.specs.Pieces.{AreReached, OpensTo}
use Rattle.seg_cursor.proofs.Opening.{line_opens, line_reached, no_path, pack_opens, pack_reached}
use Rattle.seg_cursor.proofs.quarters.open_quarters.Goals as goal

pub returns-in-Pack-clause-opens : goal.returns-in-Pack-clause-opens
returns-in-Pack-clause-opens g c = λ k A n f. subst (λ words. OpensTo (line_at (g.M.HoldCounts.memory c.args.mem.now)) true words k A n) (sym c.of-in-Pack.ensures) (pack_opens k A n c.unpack.result f c.in-Pack.is (c.unpack.ensures (line_at (g.M.HoldCounts.memory c.args.mem.now))))

pub returns-in-Pack-clause-reached : goal.returns-in-Pack-clause-reached
returns-in-Pack-clause-reached g c = λ root r done.
    let (k, A, n, f) = c.requires in
    subst (AreReached (line_at (g.M.HoldCounts.memory c.args.mem.now)) root) (sym c.of-in-Pack.ensures) (pack_reached root k A n c.unpack.result f c.in-Pack.is (c.unpack.ensures (line_at (g.M.HoldCounts.memory c.args.mem.now))))

pub returns-in_default : goal.returns-in_default
returns-in_default g c = record {
  opens = λ k A n f. zero_opened f c.in_default.not-Node c.in_default.not-Pack;
  reached = λ root r done. absurd cc;
  line = λ k A n f. omega arith;
  looks = (omega arith, omega arith);
}

pub line-line-requires : goal.line-line-requires
line-line-requires g c =
    let (k, A, n, f) = c.requires in
    let none = no_path c.args.entry c.is_path.result c.is_path.ensures c.if-is_path.false c.in-Node.is in
    (omega arith, id_live (stored_opened four_wide c.make.result f c.in-Node.is (omega arith) none (c.make.ensures ∙ c.id_of.ensures)).line)

pub returns-in-Node-clause-opens : goal.returns-in-Node-clause-opens
returns-in-Node-clause-opens g c = λ k A n f.
    let none = no_path c.args.entry c.is_path.result c.is_path.ensures c.if-is_path.false c.in-Node.is in
    subst (λ words. OpensTo (line_at (g.M.HoldCounts.memory c.args.mem.now)) true words k A n) (sym c.of.ensures) (line_opens k A n c.line-line.result.w f (stored_opened four_wide c.make.result f c.in-Node.is (omega arith) none (c.make.ensures ∙ c.id_of.ensures)) c.line-line.ensures.line (search rules))

pub returns-in-Node-clause-reached : goal.returns-in-Node-clause-reached
returns-in-Node-clause-reached g c = λ root r done.
    let (k, A, n, f) = c.requires in
    let none = no_path c.args.entry c.is_path.result c.is_path.ensures c.if-is_path.false c.in-Node.is in
    subst (AreReached (line_at (g.M.HoldCounts.memory c.args.mem.now)) root) (sym c.of.ensures) (line_reached k c.line-line.result.w (stored_opened four_wide c.make.result f c.in-Node.is (omega arith) none (c.make.ensures ∙ c.id_of.ensures)) c.line-line.ensures.line r)

pub returns-in-Node-clause-line : goal.returns-in-Node-clause-line
returns-in-Node-clause-line g c = λ k A n f.
    let none = no_path c.args.entry c.is_path.result c.is_path.ensures c.if-is_path.false c.in-Node.is in
    let l = stored_opened four_wide c.make.result f c.in-Node.is (omega arith) none (c.make.ensures ∙ c.id_of.ensures) in
    let own = ap own_line l.made in
    let one = c.line-line.ensures.one_look in
    omega (arith, own, one)
