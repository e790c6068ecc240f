-- Bytes that are read one after another.
use Rattle.std.specs.Prelude.{ℕ, List, [], ◌∷◌}
use Rattle.hic_plain.specs.Limits.{end_of_input}

-- what is read next: a byte, or the end
abbrev pub next_byte : List ℕ → ℕ
next_byte [] = end_of_input
next_byte (byte ∷ bytes) = byte

-- what is left then
abbrev pub after_byte : List ℕ → List ℕ
after_byte [] = []
after_byte (byte ∷ bytes) = bytes
