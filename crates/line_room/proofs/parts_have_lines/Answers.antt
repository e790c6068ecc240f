use Rattle.line_room.proofs.PartLines.{parts_have_lines}
use Rattle.line_room.proofs.parts_have_lines.Goals as goal

pub returns : goal.returns
returns c = parts_have_lines
