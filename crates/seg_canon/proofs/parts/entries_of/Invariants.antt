use Rattle.std.proofs.Common.{◌≡◌, length, map, take}
use Rattle.seg_canon.proofs.parts.entries_of.Given as goal

abbrev pub invariant-loop-place : goal.invariant-loop-place
invariant-loop-place g l = record {
  long : length l.entries ≡ g.row.W;
  done : take l.place l.entries ≡ map (λ part. part.entry) (take l.place l.parts);
}
