use Rattle.std.proofs.Common.{sym, ap, ◌∙◌, subst}
use Rattle.hic_word.specs.Names.{names_in}
use Rattle.form_rows.specs.Covers.{Keeps}
use Rattle.form_rows.proofs.Keeping.{kept_line}
use Rattle.form_rows.proofs.folded.stored.Goals as goal

pub returns-in_ok-id-in-NeedLine : goal.returns-in_ok-id-in-NeedLine
returns-in_ok-id-in-NeedLine g c =
    let old = g.M.HoldCounts.memory c.args.mem.now in
    let new = g.M.HoldCounts.memory c.intern.new.self in
    λ n. subst (λ word. Keeps old word new) (sym c.entry.ensures) (kept_line old new c.in-NeedLine.line.w c.in_ok-id-in-NeedLine.id (g.met.M.LineMem.sound c.args.mem.now) (g.met.M.LineMem.sound c.intern.new.self) (ap names_in c.in-NeedLine.ensures.names ∙ n) c.requires.no_dead c.in_ok-id-in-NeedLine.ensures.interned)
