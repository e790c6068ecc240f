-- A line as its words.
use Rattle.std.specs.Prelude.{ℕ, Bool, true, false, ◌||◌, ◌&&◌, ◌==◌, nat_le, List, [], ◌∷◌, filter}
use Rattle.std.specs.List.{before_first, slice_split, list_all}

-- 32 is a space and 9 a tab
abbrev pub is_blank : ℕ → Bool
is_blank byte = byte == 32 || byte == 9

-- 59 is ';'
abbrev pub is_semicolon : ℕ → Bool
is_semicolon byte = byte == 59

-- a tab, or from the space to '~'
abbrev pub is_text_byte : ℕ → Bool
is_text_byte byte = byte == 9 || (nat_le 0x20 byte && nat_le byte 0x7E)

-- all of a line is text, its comment too
abbrev pub is_text : List ℕ → Bool
is_text line = list_all is_text_byte line

-- what stands before the comment
abbrev pub uncommented : List ℕ → List ℕ
uncommented line = before_first is_semicolon line

abbrev pub is_some_word : List ℕ → Bool
is_some_word [] = false
is_some_word (byte ∷ bytes) = true

-- what stands between blanks
unfoldable pub words : List ℕ → List (List ℕ)
words text = filter is_some_word (slice_split is_blank text)

-- the words of a line
abbrev pub words_of_line : List ℕ → List (List ℕ)
words_of_line line = words (uncommented line)
