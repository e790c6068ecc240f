use Rattle.std.proofs.Common.{◌≡◌, ◌+◌, ◌++◌}
use Rattle.hic_list.specs.Listing.{listing}
use Rattle.hic_list.specs.UnderWay.{lines_from}
use Rattle.hic_list.proofs.listing.list.Given as goal

abbrev pub invariant-loop-number : goal.invariant-loop-number
invariant-loop-number g l = record {
  text : l.text.items ++ lines_from l.machine.plain l.number ≡ listing l.machine.plain l.fn.end;
  looks : l.steps ≡ l.fn.steps + l.number-end + l.number;
}
