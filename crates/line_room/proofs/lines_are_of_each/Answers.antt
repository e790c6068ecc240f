use Rattle.line_room.proofs.ArrayLines.{lines_are_of_each}
use Rattle.line_room.proofs.lines_are_of_each.Goals as goal

pub returns : goal.returns
returns c = lines_are_of_each
