use Rattle.std.proofs.Common.{◌∷◌, length, ◌∙◌, sym, subst, arith}
use Rattle.std.proofs.lemmas.Result.{MatchResult-from_err}
use Rattle.hic_word.specs.Canon.{enc}
use Rattle.hic_word.specs.Heights.{height}
use Rattle.hic_word.specs.Holds.{Holds}
use Rattle.hic_word.specs.Memory.{line_at}
use Rattle.seg_canon.specs.Parts.{PartFor}
use Rattle.seg_read.specs.Levels.{levels}
use Rattle.seg_write.specs.Puts.{put_at}
use Rattle.seg_write.proofs.Falling.{lowest_looks}
use Rattle.seg_write.proofs.Leaves.{has_own_line, lowest_levels}
use Rattle.seg_write.proofs.Putting.{changed_part}
use Rattle.seg_write.proofs.shrink.lowest_root.Goals as goal

pub root_of-requires-clause-held : goal.root_of-requires-clause-held
root_of-requires-clause-held g c = let (held, h) = c.requires.held in (held, subst (λ p. Holds 4 (g.M.HoldCounts.memory c.put.new.mem) (p.entry ∷ held)) (sym c.whole.ensures) (c.in_ok-entry.ensures.trades.passes.holds held h))

pub root_of-requires-clause-part : goal.root_of-requires-clause-part
root_of-requires-clause-part g c =
    let (A, L, f) = c.requires.put in
    (put_at 1 0 A L, subst (λ p. PartFor 4 (line_at (g.M.HoldCounts.memory c.put.new.mem)) p (put_at 1 0 A L)) (sym c.whole.ensures) (c.in_ok-entry.ensures.stands A L f))

pub returns-clause-passes : goal.returns-clause-passes
returns-clause-passes g c =
    let m = g.M.HoldCounts.memory c.put.new.mem in
    let taken = c.in_ok-entry.ensures.trades.passes in
    let (held, h) = c.requires.held in
    record {
      holds = λ held h. c.root_of.ensures.held held (subst (λ p. Holds 4 m (p.entry ∷ held)) (sym c.whole.ensures) (taken.holds held h));
      lines = c.root_of.ensures.kept (g.M.HoldCounts.memory c.args.mem.now) held (record {
        held_before = h;
        held_now = subst (λ p. Holds 4 m (p.entry ∷ held)) (sym c.whole.ensures) (taken.holds held h);
        lines = taken.lines;
        keys = (g.met.M.LineMem.sound c.args.mem.now).keys;
        layout = sym taken.layout;
      });
      layout = c.root_of.ensures.layout ∙ taken.layout;
    }

pub returns-clause-stands : goal.returns-clause-stands
returns-clause-stands g c = λ A L f. c.root_of.ensures.stands (put_at 1 0 A L) (subst (λ p. PartFor 4 (line_at (g.M.HoldCounts.memory c.put.new.mem)) p (put_at 1 0 A L)) (sym c.whole.ensures) (c.in_ok-entry.ensures.stands A L f))

pub returns-clause-looks : goal.returns-clause-looks
returns-clause-looks g c = λ A L f.
    let C = put_at 1 0 A L in
    let last = c.root_of.ensures.looks C (subst (λ p. PartFor 4 (line_at (g.M.HoldCounts.memory c.put.new.mem)) p C) (sym c.whole.ensures) (c.in_ok-entry.ensures.stands A L f)) in
    lowest_looks (length c.args.changes.now) (levels (enc 4 1 A)) (levels (enc 4 1 C)) (height 4 C) (g.M.HoldCounts.memory c.args.mem.now).layout.probe c.args.steps.now c.put.new.steps c.root_of.new.steps (lowest_levels C) (c.put.ensures.looks A L f) c.root_of.ensures.more last

pub returns-in_err-entry-clause-full : goal.returns-in_err-entry-clause-full
returns-in_err-entry-clause-full g c = MatchResult-from_err c.from_residual.result _ _ c.from_residual.ensures.0 (λ _ A L f. c.in_err-entry.ensures.full A L (put_at 1 0 A L) f (changed_part f).valid (has_own_line (put_at 1 0 A L) (changed_part f)))

pub returns-in_err-entry-clause-looks : goal.returns-in_err-entry-clause-looks
returns-in_err-entry-clause-looks g c = λ A L f.
    let C = put_at 1 0 A L in
    lowest_looks (length c.args.changes.now) (levels (enc 4 1 A)) (levels (enc 4 1 C)) (height 4 C) (g.M.HoldCounts.memory c.args.mem.now).layout.probe c.args.steps.now c.put.new.steps c.put.new.steps (lowest_levels C) (c.put.ensures.looks A L f) (omega arith) (omega arith)
