use Rattle.std.proofs.Common.{◌≡◌, subst}
use Rattle.hic_plain.specs.Valid.{IsMachine}
use Rattle.hic_machine.specs.Held.{KeepsHeld}
use Rattle.hic_machine.specs.Laws.{CountsAreLow, HasHeldLines}
use Rattle.hic_machine.specs.Seen.{Seen}
use Rattle.hic_machine.proofs.LineLaws.{held_lines, low_counts}
use Rattle.hic_machine.proofs.Order.{keeps_held}
use Rattle.hic_machine.proofs.machine.Machine.lines.Goals as goal

pub returns-clause-held : goal.returns-clause-held
returns-clause-held g c = subst (λ (s : Seen). KeepsHeld s.memory s.plain) c.self.view_is (keeps_held (g.S.HoldCounts.memory c.self.inside.mem) c.self.inside.code.items c.self.inside.shared.segments c.self.inside.shared.input c.self.inside.tasks.items _ c.self.invariant)

pub returns-clause-exact : goal.returns-clause-exact
returns-clause-exact g c = subst (λ (s : Seen). HasHeldLines s.memory s.plain) c.self.view_is (held_lines (g.S.HoldCounts.memory c.self.inside.mem) c.self.inside.code.items c.self.inside.shared.segments c.self.inside.shared.input c.self.inside.tasks.items _ c.self.invariant)

pub returns-clause-counts : goal.returns-clause-counts
returns-clause-counts g c =
    let sound = g.met.S.LineMem.sound c.self.inside.mem in
    subst (λ (s : Seen). CountsAreLow s.memory) c.self.view_is (low_counts (g.S.HoldCounts.memory c.self.inside.mem) c.self.inside.code.items c.self.inside.shared.segments c.self.inside.shared.input c.self.inside.tasks.items _ c.self.invariant sound)

pub returns-clause-capacity : goal.returns-clause-capacity
returns-clause-capacity g c = subst (λ (s : Seen). s.plain.capacity ≡ s.memory.layout.cap) c.self.view_is c.self.invariant.capacity

pub returns-clause-machine : goal.returns-clause-machine
returns-clause-machine g c = subst (λ (s : Seen). IsMachine s.plain) c.self.view_is c.self.invariant.valid
