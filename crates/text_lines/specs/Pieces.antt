-- A text as its pieces.
use Rattle.std.specs.Prelude.{ℕ, Bool, List, [], ◌∷◌, map, ◌==◌}
use Rattle.std.specs.List.{slice_split}
use Rattle.std.specs.Str.Lines.{strip_carriage_return}

-- 10 is a line feed
abbrev pub is_line_feed : ℕ → Bool
is_line_feed byte = byte == 10

-- what stands between the line feeds
abbrev pub between_line_feeds : List ℕ → List (List ℕ)
between_line_feeds text = slice_split is_line_feed text

-- each of these parts, without the one carriage return at its end
abbrev pub parts : List ℕ → List (List ℕ)
parts text = map strip_carriage_return (between_line_feeds text)

-- all of them but a last one that is empty
abbrev pub without_empty_last : List (List ℕ) → List (List ℕ)
without_empty_last [] = []
without_empty_last ([] ∷ []) = []
without_empty_last (part ∷ rest) = part ∷ without_empty_last rest

-- the pieces of a text
abbrev pub pieces : List ℕ → List (List ℕ)
pieces text = without_empty_last (parts text)
