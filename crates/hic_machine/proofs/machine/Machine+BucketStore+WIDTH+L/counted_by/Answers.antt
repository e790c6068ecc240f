use Rattle.std.proofs.Common.{◌∙◌}
use Rattle.hic_machine.proofs.Reading.{same_memory, seen_alike}
use Rattle.hic_machine.proofs.machine.Machine+BucketStore+WIDTH+L.counted_by.Goals as goal

pub of_parts-requires : goal.of_parts-requires
of_parts-requires g c = (_, same_memory c.counted_by.ensures c.self.invariant)

pub returns : goal.returns
returns g c =
    seen_alike (c.of_parts.ensures.plain _ (same_memory c.counted_by.ensures c.self.invariant)) (c.of_parts.ensures.memory ∙ c.counted_by.ensures) c.of_parts.ensures.printed ∙ c.self.view_is
