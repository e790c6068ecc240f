use Rattle.std.proofs.Common.{◌≡◌, ◌≤◌, ◌+◌, length}
use Rattle.hic_asm.specs.Words.{words}
use Rattle.hic_asm.proofs.words.count_words.Given as goal

-- the words so far and those that are left
abbrev pub invariant-loop-after : goal.invariant-loop-after
invariant-loop-after l = record {
  count : l.count + length (words l.rest) ≡ length (words l.text);
  fits : l.count + length l.rest ≤ length l.text;
}

abbrev pub decreases-loop-after : goal.decreases-loop-after
decreases-loop-after l = length l.rest
