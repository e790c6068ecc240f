use Rattle.std.proofs.Common.{◌≡◌, drop}
use Rattle.line_hash.specs.Hash.{hash, with_words}
use Rattle.line_hash.proofs.mix_words.Given as goal

abbrev pub invariant-loop-word : goal.invariant-loop-word
invariant-loop-word l = with_words l.mixed (drop l.word-index l.words) ≡ hash l.words
