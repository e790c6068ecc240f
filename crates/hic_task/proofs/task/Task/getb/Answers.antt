use Rattle.segment_map.specs.Segments.{roots}
use Rattle.hic_task.specs.Kept.{task_words}
use Rattle.hic_task.proofs.ByteRows.{byte_set, few_rest}
use Rattle.hic_task.proofs.task.Task.getb.Goals as goal

pub set_number-requires-clause-held : goal.set_number-requires-clause-held
set_number-requires-clause-held g c = few_rest (roots c.args.shared.now.segments) (task_words c.args.self.now) c.requires.held

pub returns-clause-row : goal.returns-clause-row
returns-clause-row g c = byte_set c.args.a c.requires.held c.set_number.ensures.exchanges c.set_number.ensures.task c.take-byte.ensures.word c.take-byte.ensures.left
