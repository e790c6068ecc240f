-- How many looks are taken where two parts differ.
use Rattle.std.specs.Prelude.{◌≡◌, ℕ, ◌+◌, ◌-◌, ◌*◌, ◌≤◌, min}
use Rattle.seg_changes.specs.ChangeList.{most_changes}

-- how many of n differences are found where there are `pairs` pairs: at most one more than there is room for
abbrev pub found_of : ℕ → ℕ → ℕ
found_of n pairs = min n (most_changes + 1 - pairs)

-- from `old` to `new` looks in two parts of height h with n differences found: two for each level and difference. Where
-- the parts are equal, r at most: one where one of them is packed at a lower height
pub record DifferLooks (h n r old new : ℕ) : Type 0 where
  pub more : old ≤ new
  pub equal : n ≡ 0 → new ≤ old + r
  pub each : 1 ≤ n → new ≤ old + 2 * h * n
