use Rattle.line_room.proofs.EntryLines.{entries_have_lines}
use Rattle.line_room.proofs.entries_have_lines.Goals as goal

pub returns : goal.returns
returns c = entries_have_lines
