-- Numbers drawn from a state.
use Rattle.std.specs.Prelude.{ℕ, zero, suc, ◌+◌, ◌*◌, ◌/◌, ◌%◌, ◌^◌, List, [], ◌∷◌}

-- the state after a draw, of 64 bits
abbrev pub next_state : ℕ → ℕ
next_state state = (6364136223846793005 * state + 1442695040888963407) % 2 ^ 64

-- what is drawn: the upper half of the state after it
abbrev pub drawn : ℕ → ℕ
drawn state = next_state state / 2 ^ 32

-- so many draws, one after the other
abbrev pub draws : ℕ → ℕ → List ℕ
draws zero state = []
draws (suc count) state = drawn state ∷ draws count (next_state state)
