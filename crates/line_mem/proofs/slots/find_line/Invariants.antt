use Rattle.std.proofs.Common.{◌≡◌, ℕ, ◌+◌, ◌<◌, get_or, take, Some}
use Rattle.std.specs.Prelude.{count_by}
use Rattle.line_mem.specs.declared.slots.Slot.TheVariants.{Vacant}
use Rattle.line_mem.specs.Places.{is_taken, line_in}
use Rattle.line_mem.proofs.slots.find_line.Given as goal

abbrev pub invariant-loop-i : goal.invariant-loop-i
invariant-loop-i g l = record {
  looks : l.steps ≡ l.initial.steps + count_by is_taken (take l.i l.slots);
  not_yet : (k : ℕ) → k < l.i → line_in (get_or l.slots k Vacant) ≡ Some l.line.w → ⊥;
}
