use Rattle.merge_update.proofs.Readiness.{first_stands, first_there}
use Rattle.form_rows.proofs.updates.outcome.Goals as goal

pub segment-requires : goal.segment-requires
segment-requires g c = first_there c.requires

pub read-requires : goal.read-requires
read-requires g c = first_stands c.requires c.segment.ensures

pub read-requires-2 : goal.read-requires-2
read-requires-2 g c = first_stands c.requires c.segment.ensures
