-- The numbers of the command line. The code has its own constants, so that a wrong one is found by the contracts.
use Rattle.std.specs.Prelude.{ℕ}

-- the most digits of a number, leading zeros among them
abbrev pub most_digits : ℕ
most_digits = 20

-- the steps of a run that names none, and the most that it may name
abbrev pub default_steps : ℕ
default_steps = 1000000

abbrev pub most_steps : ℕ
most_steps = 1000000000000

-- the lines of a run that names no capacity, and the least and the most that it may name
abbrev pub default_capacity : ℕ
default_capacity = 65536

abbrev pub least_capacity : ℕ
least_capacity = 1

abbrev pub most_capacity : ℕ
most_capacity = 1048576

-- the greatest seed of a demo, and the least and the greatest size
abbrev pub most_seed : ℕ
most_seed = 18446744073709551615

abbrev pub least_size : ℕ
least_size = 1

abbrev pub most_size : ℕ
most_size = 4096
