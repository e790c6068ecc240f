use Rattle.std.proofs.Common.{arith}
use Rattle.std.proofs.lemmas.Result.{IfOk-weaker}
use Rattle.hic_word.specs.Memory.{width}
use Rattle.hic_word.proofs.callers.Holds.{held_words_are_counted}
use Rattle.ref_counts.proofs.Kept.{counts_kept, line_kept, line_stands, lines_kept}
use Rattle.ref_counts.proofs.keep_line.Goals as goal

pub intern-requires : goal.intern-requires
intern-requires g c =
    let m = g.M.HoldCounts.memory c.args.mem.now in
    let (H, held) = c.requires.held in
    (omega arith, (held.balanced.no_dead, (held_words_are_counted (width m) m c.args.line.now.w H held, c.requires.room)))

pub returns-clause-reshapes : goal.returns-clause-reshapes
returns-clause-reshapes g c = IfOk-weaker c.intern.result _ _ (λ id i. let (value, d) = c.requires.made in line_kept (g.M.HoldCounts.memory c.args.mem.now) (g.M.HoldCounts.memory c.intern.new.self) c.args.line.now.w id (g.met.M.LineMem.sound c.intern.new.self) i value d) c.intern.ensures.interned

pub returns-clause-stands : goal.returns-clause-stands
returns-clause-stands g c = IfOk-weaker c.intern.result _ _ (λ id i. line_stands (g.M.HoldCounts.memory c.args.mem.now) (g.M.HoldCounts.memory c.intern.new.self) c.args.line.now.w id (g.met.M.LineMem.sound c.intern.new.self) i c.requires.held) c.intern.ensures.interned

pub returns-clause-lines : goal.returns-clause-lines
returns-clause-lines g c = lines_kept (g.M.HoldCounts.memory c.args.mem.now) (g.M.HoldCounts.memory c.intern.new.self) c.args.line.now.w c.intern.result c.intern.ensures.interned c.intern.ensures.unchanged

pub returns-clause-counts : goal.returns-clause-counts
returns-clause-counts g c = counts_kept (g.M.HoldCounts.memory c.args.mem.now) (g.M.HoldCounts.memory c.intern.new.self) c.args.line.now.w c.intern.result c.intern.ensures.interned c.intern.ensures.unchanged
