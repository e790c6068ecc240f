use Rattle.std.proofs.Common.{length, ◌∙◌, ap}
use Rattle.hic_machine.specs.Seen.{Seen}
use Rattle.hic_machine.proofs.Reading.{as_many_segments}
use Rattle.hic_machine.proofs.machine.Machine.segments.Goals as goal

pub returns : goal.returns
returns g c = c.len.ensures ∙ as_many_segments (g.S.HoldCounts.memory c.self.inside.mem) c.self.inside.shared.segments _ c.self.invariant.segments_for ∙ ap (λ (s : Seen). length s.plain.segments) c.self.view_is
