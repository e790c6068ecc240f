use Rattle.line_room.proofs.AnyOrder.{lines_in_any_order}
use Rattle.line_room.proofs.lines_in_any_order.Goals as goal

pub returns : goal.returns
returns c = lines_in_any_order
