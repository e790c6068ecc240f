-- How many looks a call takes.
use Rattle.std.specs.Prelude.{ℕ, ◌+◌, ◌≤◌}

-- the count of looks rose by at most n
abbrev pub LooksUpTo : ℕ → (old new : ℕ) → Type 0
LooksUpTo n old new = (old ≤ new) × (new ≤ old + n)
