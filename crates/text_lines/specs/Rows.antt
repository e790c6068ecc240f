-- Worked rows: an empty text has no piece, a line feed ends a piece, and empty pieces count but for the last.
use Rattle.std.specs.Prelude.{◌≡◌, ℕ, List, [], ◌∷◌, ◌++◌, codes, refl}
use Rattle.text_lines.specs.Pieces.{pieces}

-- a piece and the line feed at its end
abbrev line : List ℕ → List ℕ
line piece = piece ++ 10 ∷ []

-- a piece with a carriage return before its line feed
abbrev returned_line : List ℕ → List ℕ
returned_line piece = piece ++ 13 ∷ 10 ∷ []

no_pieces : pieces [] ≡ []
no_pieces = refl

one_piece : pieces (codes "0") ≡ codes "0" ∷ []
one_piece = refl

ended_piece : pieces (line (codes "0")) ≡ codes "0" ∷ []
ended_piece = refl

empty_pieces : pieces (line [] ++ line (codes "0") ++ line [] ++ codes "1") ≡ [] ∷ codes "0" ∷ [] ∷ codes "1" ∷ []
empty_pieces = refl

-- one carriage return is dropped, first: a text of one has no piece
return_dropped : pieces (returned_line (codes "0") ++ codes "1" ++ 13 ∷ 13 ∷ []) ≡ codes "0" ∷ (codes "1" ++ 13 ∷ []) ∷ []
return_dropped = refl

return_alone : pieces (13 ∷ []) ≡ []
return_alone = refl
