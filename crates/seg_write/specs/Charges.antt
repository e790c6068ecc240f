-- What changes cost.
use Rattle.std.specs.Prelude.{ℕ, ◌+◌, ◌*◌, max}
use Rattle.hic_word.specs.Values.{Array}
use Rattle.hic_word.specs.Heights.{height}
use Rattle.line_mem.specs.Looks.{LooksUpTo}

-- the greater height of two arrays
abbrev pub greater_height : ℕ → Array → Array → ℕ
greater_height w A B = max (height w A) (height w B)

-- from `old` to `new` looks for n changes of arrays up to height h: (n + 1) * h by `line`, and those of n * h + 1 calls of
-- `intern`, each with as many as `probe` at most
abbrev pub LooksFew : ℕ → ℕ → ℕ → ℕ → ℕ → Type 0
LooksFew n h probe old new = LooksUpTo ((n + 1) * h + (n * h + 1) * probe) old new
