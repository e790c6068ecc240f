-- Registers on arrays of one line, whose looks the tests count.
use Rattle.std.specs.Prelude.{◌≡◌, ℕ, ◌≤◌, [], Option, Some}
use Rattle.iter_regs.specs.declared.opened.Open.{Open}
use Rattle.iter_regs.specs.Iters.{ForOpen}

-- if open, nothing is buffered, and the array has at most one line
abbrev pub IsOneLine : Option Open → Type 0
IsOneLine reg = ForOpen reg (λ r. (r.pairs ≡ []) × (r.cursor.root.height ≤ 1))

-- if open, its cursor went to this offset last
abbrev pub WentTo : Option Open → ℕ → Type 0
WentTo reg offset = ForOpen reg (λ r. r.cursor.last ≡ Some offset)
