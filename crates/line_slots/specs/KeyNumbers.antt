-- The chain for a key.
use Rattle.std.specs.Prelude.{ℕ, ◌+◌, ◌*◌, ◌/◌, ◌%◌, ◌^◌}

-- a key's number, in whose lowest bits both parts of the key tell: the lowest 17 bits, and what stands above them
abbrev pub spread : ℕ → ℕ
spread key = key + 29 * (key / 2 ^ 17)

-- the number of the chain for a key, by so many of its number's bits
abbrev pub chain_number : ℕ → ℕ → ℕ
chain_number bits key = spread key % 2 ^ bits
