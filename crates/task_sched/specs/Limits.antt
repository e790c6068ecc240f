-- How much a machine and a schedule have at most.
use Rattle.std.specs.Prelude.{ℕ, ◌-◌, ◌^◌}

-- the most tasks of a machine
abbrev pub most_tasks : ℕ
most_tasks = 16

-- the most items of a schedule
abbrev pub most_items : ℕ
most_items = 65536

-- the most steps that a row counts, in 64 bits
abbrev pub most_count : ℕ
most_count = 2 ^ 64 - 1
