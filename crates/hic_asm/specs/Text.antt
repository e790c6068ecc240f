-- The text of a line, without its comment.
use Rattle.std.specs.Prelude.{ℕ, Bool, ◌&&◌, not, if◌then◌else◌, List, Option, Some, None}
use Rattle.hic_asm.specs.Words.{is_semicolon, is_text_byte, is_text, uncommented}

-- text, and no semicolon
abbrev pub is_plain : ℕ → Bool
is_plain byte = is_text_byte byte && not (is_semicolon byte)

-- what stands before the comment, where all of the line is text
abbrev pub uncommented_text : List ℕ → Option (List ℕ)
uncommented_text line = if is_text line then Some (uncommented line) else None
