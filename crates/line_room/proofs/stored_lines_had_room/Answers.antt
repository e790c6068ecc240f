use Rattle.line_room.proofs.MemoryRoom.{stored_lines_had_room}
use Rattle.line_room.proofs.stored_lines_had_room.Goals as goal

pub returns : goal.returns
returns c = stored_lines_had_room
