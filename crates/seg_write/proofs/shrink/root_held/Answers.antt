use Rattle.std.proofs.Common.{◌∷◌, ◌∙◌, sym, subst}
use Rattle.hic_word.specs.Holds.{Holds}
use Rattle.hic_word.specs.Memory.{line_at}
use Rattle.hic_word.specs.Values.{Array}
use Rattle.seg_canon.specs.Parts.{PartFor, whole_part}
use Rattle.seg_canon.proofs.Growing.{part_grows}
use Rattle.seg_write.proofs.Composing.{lines_within}
use Rattle.seg_write.proofs.Putting.{entry_live}
use Rattle.seg_write.proofs.shrink.root_held.Goals as goal
use Rattle.seg_write.proofs.shrink.root_held.Given.{Over}
use Rattle.seg_write.proofs.shrink.root_held.Goals.{After-whole}

held_part : (g : Over) (c : After-whole g) (A : Array) → PartFor 4 (line_at (g.M.HoldCounts.memory c.args.mem.now)) (whole_part c.args.top c.args.entry) A → PartFor 4 (line_at (g.M.HoldCounts.memory c.hold.new.mem)) c.whole.result A
held_part g c A f = subst (λ p. PartFor 4 (line_at (g.M.HoldCounts.memory c.hold.new.mem)) p A) (sym c.whole.ensures) (part_grows _ _ (lines_within (g.M.HoldCounts.memory c.args.mem.now) (g.M.HoldCounts.memory c.hold.new.mem) c.hold.ensures.lines) (whole_part c.args.top c.args.entry) A f)

pub hold-requires-clause-live : goal.hold-requires-clause-live
hold-requires-clause-live g c = let (A, f) = c.requires.part in entry_live (g.M.HoldCounts.memory c.args.mem.now) c.args.entry _ f.entry

pub root_of-requires-clause-held : goal.root_of-requires-clause-held
root_of-requires-clause-held g c = let (held, h) = c.requires.held in (held, subst (λ p. Holds 4 (g.M.HoldCounts.memory c.hold.new.mem) (p.entry ∷ held)) (sym c.whole.ensures) (c.hold.ensures.exchanges.holds held h))

pub root_of-requires-clause-part : goal.root_of-requires-clause-part
root_of-requires-clause-part g c = let (A, f) = c.requires.part in (A, held_part g (goal.at.root_of-requires-clause-part g c).After-whole A f)

pub returns-clause-passes : goal.returns-clause-passes
returns-clause-passes g c =
    let old = g.M.HoldCounts.memory c.args.mem.now in
    let m = g.M.HoldCounts.memory c.hold.new.mem in
    let (held, h) = c.requires.held in
    record {
      holds = λ held h. c.root_of.ensures.held held (subst (λ p. Holds 4 m (p.entry ∷ held)) (sym c.whole.ensures) (c.hold.ensures.exchanges.holds held h));
      lines = c.root_of.ensures.kept old held (record {
        held_before = h;
        held_now = subst (λ p. Holds 4 m (p.entry ∷ held)) (sym c.whole.ensures) (c.hold.ensures.exchanges.holds held h);
        lines = lines_within old m c.hold.ensures.lines;
        keys = (g.met.M.LineMem.sound c.args.mem.now).keys;
        layout = sym c.hold.ensures.exchanges.layout;
      });
      layout = c.root_of.ensures.layout ∙ c.hold.ensures.exchanges.layout;
    }

pub returns-clause-stands : goal.returns-clause-stands
returns-clause-stands g c = λ A f. c.root_of.ensures.stands A (held_part g (goal.at.returns-clause-stands g c).After-whole A f)

pub returns-clause-looks : goal.returns-clause-looks
returns-clause-looks g c = λ A f. (c.root_of.ensures.more, c.root_of.ensures.looks A (held_part g (goal.at.returns-clause-looks g c).After-whole A f))
