-- The line that is kept as bits and tags.
use Rattle.std.specs.Prelude.{ℕ}
use Rattle.hic_word.specs.declared.Line.{Line}
use Rattle.line_slots.specs.declared.content.Content.{Content}
use Rattle.line_slots.specs.Tags.{length-words, words_of}

abbrev pub line_of : {w : ℕ} → Content w → Line w
line_of content = record { w = words_of content.bits content.tags; long = length-words content.bits content.tags content.long content.tagged }
