use Rattle.std.proofs.Common.{◌≡◌, length, map, take}
use Rattle.seg_canon.specs.Parts.{whole_part}
use Rattle.seg_canon.proofs.parts.parts_of.Given as goal

abbrev pub invariant-loop-place : goal.invariant-loop-place
invariant-loop-place g l = record {
  long : length l.parts ≡ g.row.W;
  done : take l.place l.parts ≡ map (whole_part l.top) (take l.place l.line.w);
}
