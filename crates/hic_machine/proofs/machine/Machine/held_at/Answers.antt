use Rattle.std.proofs.Common.{sym, ◌∙◌, ap, subst}
use Rattle.std.specs.Prelude.{All, slice_get}
use Rattle.hic_machine.specs.Held.{all_ordered}
use Rattle.hic_machine.specs.HeldAt.{HasEight, HeldAt, references_in}
use Rattle.hic_machine.specs.Seen.{Seen}
use Rattle.hic_machine.proofs.HeldArrays.{have_eight, held_told, roots_are}
use Rattle.hic_machine.proofs.machine.Machine.held_at.Goals as goal

pub held_at-requires : goal.held_at-requires
held_at-requires g c =
    let m = g.S.HoldCounts.memory c.self.inside.mem in
    let d = c.self.invariant in
    record {
      roots = roots_are m c.self.inside.shared.segments _ d.segments_for;
      registers = subst (All HasEight) (sym c.deref.ensures.value) (have_eight m _ c.self.inside.tasks.items _ d.tasks_for d.valid.tasks);
    }

pub returns : goal.returns
returns g c =
    let i = c.self.inside in
    let m = g.S.HoldCounts.memory i.mem in
    let told = held_told m i.code.items i.shared.segments i.shared.input i.tasks.items _ c.self.invariant c.args.k in
    let same = c.held_at.ensures ∙ ap (λ ks. slice_get (references_in (all_ordered i.shared.segments ks)) c.args.k) c.deref.ensures.value in
    subst (λ o. HeldAt c.args.self.now.memory c.args.self.now.plain c.args.k o) (sym same) (subst (λ (s : Seen). HeldAt s.memory s.plain c.args.k (slice_get (references_in (all_ordered i.shared.segments i.tasks.items)) c.args.k)) c.self.view_is told)
