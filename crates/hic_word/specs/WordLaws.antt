-- Laws on the bits of words: what is put into them is read from them.
use Rattle.std.specs.Prelude.{◌≡◌, ℕ, ◌/◌, ◌%◌, ◌^◌, ◌<◌, ◌≤◌, List, length, slice_index}
use Rattle.hic_word.specs.Lists.{AllBelow}
use Rattle.hic_word.specs.Width.{IsWidth, longest, pack_limit}
use Rattle.hic_word.specs.Stands.{digits_value, node_bits, pack_bits}

-- numbers below b in one value: it is below b to their number, and each is read from its place
pub record ReadsDigits (b : ℕ) (ns : List ℕ) : Type 0 where
  pub below : digits_value b ns < b ^ length ns
  pub place : (k : ℕ) → digits_value b ns / b ^ k % b ≡ slice_index ns k

abbrev pub DigitsAreRead : Type 0
DigitsAreRead = (b : ℕ) (ns : List ℕ) → 1 ≤ b → AllBelow b ns → ReadsDigits b ns

-- the bits of packed numbers take 64 bits at most
abbrev pub PacksFit : Type 0
PacksFit = (w : ℕ) (ns : List ℕ) → IsWidth w → AllBelow (pack_limit w) ns → length ns ≡ w → pack_bits w ns < 2 ^ 64

-- the bits of an id with a path: they take 64 bits at most, and the id, the path and its length are read from them
pub record ReadsNode (w id : ℕ) (path : List ℕ) : Type 0 where
  pub below : node_bits w id path < 2 ^ 64
  pub id_bits : node_bits w id path % 2 ^ 24 ≡ id
  pub path_bits : node_bits w id path / 2 ^ 24 % 2 ^ 35 ≡ digits_value w path
  pub length_bits : node_bits w id path / 2 ^ 59 ≡ length path

abbrev pub NodesAreRead : Type 0
NodesAreRead = (w id : ℕ) (path : List ℕ) → IsWidth w → id < 2 ^ 24 → AllBelow w path → length path ≤ longest w → ReadsNode w id path
