use Rattle.line_room.proofs.RoomByLines.{referenced_lines_are_stored}
use Rattle.line_room.proofs.referenced_lines_are_stored.Goals as goal

pub returns : goal.returns
returns c = referenced_lines_are_stored
