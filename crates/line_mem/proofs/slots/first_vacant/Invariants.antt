use Rattle.std.proofs.Common.{◌≡◌, take}
use Rattle.std.specs.Prelude.{count_by}
use Rattle.line_mem.specs.Places.{is_taken}
use Rattle.line_mem.proofs.slots.first_vacant.Given as goal

abbrev pub invariant-loop-i : goal.invariant-loop-i
invariant-loop-i g l = count_by is_taken (take l.i l.slots) ≡ l.i
