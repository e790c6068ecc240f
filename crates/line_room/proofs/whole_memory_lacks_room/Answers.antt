use Rattle.line_room.proofs.MemoryRoom.{whole_memory_lacks_room}
use Rattle.line_room.proofs.whole_memory_lacks_room.Goals as goal

pub returns : goal.returns
returns c = whole_memory_lacks_room
