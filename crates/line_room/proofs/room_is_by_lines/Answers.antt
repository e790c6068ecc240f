use Rattle.line_room.proofs.RoomByLines.{room_is_by_lines}
use Rattle.line_room.proofs.room_is_by_lines.Goals as goal

pub returns : goal.returns
returns c = room_is_by_lines
