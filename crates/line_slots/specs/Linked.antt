-- Lists by links: `next` gives the link that stands in a member, and none for what is no member.
use Rattle.std.specs.Prelude.{◌≡◌, ℕ, zero, suc, List, [], ◌∷◌, Option, Some, None}

-- the link leads to these members one after another, and then to `end`
abbrev pub LeadsTo : (ℕ → Option ℕ) → ℕ → ℕ → List ℕ → Type 0
LeadsTo next end link [] = link ≡ end
LeadsTo next end link (x ∷ xs) = (link ≡ x) × (after : ℕ) × (next x ≡ Some after) × LeadsTo next end after xs

-- the member x, and those that the link in it leads to
abbrev pub and_then : ℕ → Option ℕ → (ℕ → List ℕ) → List ℕ
and_then x None others = []
and_then x (Some link) others = x ∷ others link

-- the first n members that a link leads to
abbrev pub followed : (ℕ → Option ℕ) → ℕ → ℕ → List ℕ
followed next zero link = []
followed next (suc n) link = and_then link (next link) (followed next n)
