-- A number near 2^64 divided by another.
use Rattle.std.specs.Prelude.{ℕ, ◌+◌, ◌*◌, ◌≤◌, ◌^◌}

-- the inverse of n is 2^64 divided by n and rounded down, or one less
pub record IsReciprocal (n inverse : ℕ) : Type 0 where
  pub some : 1 ≤ n
  pub not_above : inverse * n ≤ 2 ^ 64
  pub near : 2 ^ 64 ≤ inverse * n + n
