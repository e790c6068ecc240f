-- Words that are kept as bits and tags, and the place from which on they are 0.
use Rattle.std.specs.Prelude.{ℕ, ◌≤◌, List, [], ◌∷◌, replicate}
use Rattle.hic_word.specs.declared.Kind.TheVariants.{Num}
use Rattle.hic_word.specs.declared.Word.{Word}
use Rattle.hic_word.specs.Stands.{word_of}
use Rattle.seg_read.specs.Founds.{AreZero}
use Rattle.seg_cursor.specs.Pieces.{line_width}
use Rattle.seg_cursor.specs.declared.row.Tag.{Tag}

abbrev pub tag_of : Word → Tag
tag_of word = record { kind = word.kind; height = word.height }

-- words by their bits and tags
abbrev pub words_of : List ℕ → List Tag → List Word
words_of [] tags = []
words_of (n ∷ bits) [] = []
words_of (n ∷ bits) (tag ∷ tags) = word_of tag.kind tag.height n ∷ words_of bits tags

-- the word 0, as often as a line has words
abbrev pub no_words : List Word
no_words = replicate line_width (word_of Num 0 0)

-- the words from a place on are 0
pub record EndsAt (words : List Word) (end : ℕ) : Type 0 where
  pub low : end ≤ line_width
  pub zeros : AreZero words end line_width
