use Rattle.std.proofs.Common.{sym, ◌∙◌, arith}
use Rattle.seg_canon.proofs.Opening.{node_lowered, path_opened, stored_opened}
use Rattle.seg_canon.proofs.opened.open_node.Goals as goal

pub returns-then-part : goal.returns-then-part
returns-then-part g c = λ m A k f. node_lowered c.requires.wide c.lowered.result f k c.if-part.true c.lowered.ensures

pub returns-then-length_of-eq0 : goal.returns-then-length_of-eq0
returns-then-length_of-eq0 g c = λ m A k f. stored_opened c.requires.wide c.make.result f k c.if-part.false (sym c.length_of.ensures ∙ c.if-length_of-eq0.true) (c.make.ensures ∙ c.id_of.ensures)

pub returns : goal.returns
returns g c = λ m A k f. let more = c.if-length_of-eq0.false in path_opened c.requires.wide c.path_of.result c.length_of.result c.shorter-entry.result f k c.if-part.false c.path_of.ensures c.length_of.ensures (omega (arith, more)) c.shorter-entry.ensures
