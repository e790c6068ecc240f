use Rattle.std.proofs.Common.{◌≡◌, ◌<◌, length, slice_get, ℕ}
use Rattle.line_slots.specs.Tags.{words_of}
use Rattle.line_slots.proofs.content.Content.line.Given as goal

abbrev pub invariant-loop-place : goal.invariant-loop-place
invariant-loop-place g l = record {
  long : length l.w ≡ g.row.W;
  done : (j : ℕ) → j < l.place → slice_get l.w j ≡ slice_get (words_of l.self.bits l.self.tags) j;
}
