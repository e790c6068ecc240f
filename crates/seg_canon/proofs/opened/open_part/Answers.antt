use Rattle.seg_canon.proofs.Opening.{pack_lowered, pack_opened, zero_opened}
use Rattle.seg_canon.proofs.opened.open_part.Goals as goal

pub returns-then-part-eq1 : goal.returns-then-part-eq1
returns-then-part-eq1 g c = λ m A f. let (ns, made, words) = pack_opened c.requires.wide c.unpack.result f c.in-Pack.is (c.unpack.ensures m) in (c.if-part-eq1.true, ns, made, words)

pub returns-else-part-eq1 : goal.returns-else-part-eq1
returns-else-part-eq1 g c = λ m A f. pack_lowered c.requires.wide c.lowered.result f c.in-Pack.is c.requires.some c.if-part-eq1.false c.lowered.ensures

pub returns-in_default : goal.returns-in_default
returns-in_default g c = λ m A f. zero_opened f c.in_default.not-Node c.in_default.not-Pack
