use Rattle.line_room.proofs.ArrayLines.{roots_have_lines}
use Rattle.line_room.proofs.roots_have_lines.Goals as goal

pub returns : goal.returns
returns c = roots_have_lines
