use Rattle.line_room.proofs.Alike.{holds_tell_memories}
use Rattle.line_room.proofs.holds_tell_memories.Goals as goal

pub returns : goal.returns
returns c = holds_tell_memories
