use Rattle.std.proofs.Common.{◌≡◌, ◌<◌, length, slice_get, ℕ}
use Rattle.line_slots.specs.Tags.{words_of}
use Rattle.line_slots.proofs.content.Content.of.Given as goal

abbrev pub invariant-loop-place : goal.invariant-loop-place
invariant-loop-place g l = record {
  long : length l.bits ≡ g.row.W;
  tagged : length l.tags ≡ g.row.W;
  done : (j : ℕ) → j < l.place → slice_get (words_of l.bits l.tags) j ≡ slice_get l.line.w j;
}
