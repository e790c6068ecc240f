-- Texts, as their bytes: words, lines of words, and numbers that stand together.
use Rattle.std.specs.Prelude.{ℕ, ◌+◌, List, [], ◌∷◌, ◌++◌, flat_map, codes, decimal}

-- a line of words, with one space between them and a line feed at the end
abbrev pub text_line : List ℕ → List (List ℕ) → List ℕ
text_line first others = first ++ (flat_map (λ word. 32 ∷ word) others ++ 10 ∷ [])

-- numbers with a comma between them
abbrev pub separated : List ℕ → List ℕ
separated [] = []
separated (n ∷ ns) = decimal n ++ flat_map (λ m. 44 ∷ decimal m) ns

-- in brackets
abbrev pub bracketed : List ℕ → List ℕ
bracketed text = codes "[" ++ (text ++ codes "]")

-- a text for each member of a list, which are numbered from i on
abbrev pub numbered : {X : Type 0} → (ℕ → X → List ℕ) → ℕ → List X → List ℕ
numbered text i [] = []
numbered text i (x ∷ xs) = text i x ++ numbered text (i + 1) xs
