-- Members of lists, how often a number is in one, and numbers below a bound.
use Rattle.std.specs.Prelude.{◌≡◌, ◌⊎◌, ℕ, ◌<◌, List, [], ◌∷◌, count_by, ◌==◌}

-- x is in the list
abbrev pub In : {X : Type 0} → X → List X → Type 0
In x [] = ⊥
In x (y ∷ ys) = (y ≡ x) ⊎ In x ys

-- how often a number is in the list
abbrev pub times : ℕ → List ℕ → ℕ
times n ns = count_by (λ x. x == n) ns

-- each number is below b
abbrev pub AllBelow : ℕ → List ℕ → Type 0
AllBelow b [] = Unit {0}
AllBelow b (n ∷ ns) = (n < b) × AllBelow b ns
