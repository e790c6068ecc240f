-- A listing that is written line by line.
use Rattle.std.specs.Prelude.{◌≡◌, ℕ, List, [], ◌++◌, drop, length, map}
use Rattle.hic_word.specs.Lines.{lines}
use Rattle.hic_word.specs.Memory.{Memory}
use Rattle.hic_plain.specs.declared.turn.End.{End}
use Rattle.hic_plain.specs.Machine.{Machine, held, width_of}
use Rattle.hic_list.specs.Listing.{line_line, listing, segment_line}
use Rattle.hic_list.specs.Texts.{numbered}
use Rattle.hic_list.specs.Walks.{AllNumbered}

-- the first lines, and the ids of the lines of the memory in the order of their numbers
pub record UnderWay : Type 0 where
  pub head : List ℕ
  pub ids : List ℕ

-- a line for each segment
unfoldable pub segments_text : Machine → List ℕ
segments_text m = numbered (segment_line (width_of m) (lines (width_of m) (held m))) 0 (map (λ s. s.array) m.segments)

-- a line for each line of the memory from the one with number k on
unfoldable pub lines_from : Machine → ℕ → List ℕ
lines_from m k = numbered (line_line (width_of m) (held m)) k (drop k (lines (width_of m) (held m)))

-- the first lines, and a line for each line of the memory
abbrev pub text_of : Machine → UnderWay → List ℕ
text_of P l = l.head ++ lines_from P 0

-- the ids stand for the lines of a machine, and the text is its listing with its end
pub record IsListing (m : Memory) (P : Machine) (end : End) (l : UnderWay) : Type 0 where
  pub numbered : AllNumbered m (held P) l.ids
  pub whole : text_of P l ≡ listing P end
  pub ends : lines_from P (length l.ids) ≡ []
