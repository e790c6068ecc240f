-- What a schedule is seen as.
use Rattle.std.specs.Prelude.{ℕ, List, Option}

-- the entries that are left, as numbers of tasks, and the task that ran last
pub record Order : Type 0 where
  pub entries : List ℕ
  pub last : Option ℕ
