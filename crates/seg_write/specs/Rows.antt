-- Worked examples: what changes make of arrays, and how many lines the old and the new array have together.
use Rattle.std.specs.Prelude.{◌≡◌, ℕ, List, [], ◌∷◌, length, map, refl}
use Rattle.hic_word.specs.Values.{Number, Array, depth}
use Rattle.hic_word.specs.Changes.{with}
use Rattle.hic_word.specs.Entries.{Pack}
use Rattle.hic_word.specs.Heights.{height, height_from}
use Rattle.hic_word.specs.Canon.{root}
use Rattle.hic_word.specs.Lines.{lines, visits}
use Rattle.hic_word.specs.Same.{same, same_value, same_values, same_numbers}

abbrev numbers : List (ℕ × ℕ) → Array
numbers ps = map (λ p. (p.0, Number p.1)) ps

-- {0: 70000, 4: 70000} takes two lines, and with the changed array four: the leaf of 70000 is one of both
abbrev twice : Array
twice = numbers ((0, 70000) ∷ (4, 70000) ∷ [])

abbrev changed : Array
changed = with twice (numbers ((0, 80000) ∷ []))

twice_changed : changed ≡ numbers ((0, 80000) ∷ (4, 70000) ∷ [])
twice_changed = refl

twice_lines : map (λ R. length (lines 4 R)) ((twice ∷ []) ∷ (changed ∷ twice ∷ []) ∷ []) ≡ 2 ∷ 4 ∷ []
unfolding height height_from visits same same_values same_value same_numbers depth
twice_lines = refl

-- four large numbers, each in a leaf of its own with a path, under one line
four_lines : length (lines 4 (numbers ((0, 70000) ∷ (1024, 70001) ∷ (2048, 70002) ∷ (3072, 70003) ∷ []) ∷ [])) ≡ 5
unfolding height height_from visits same same_values same_value same_numbers depth
four_lines = refl

-- a word at each end takes three lines; without the last word the array is packed and adds none
abbrev ends : Array
ends = numbers ((0, 1) ∷ (4294967295, 2) ∷ [])

abbrev first : Array
first = with ends (numbers ((4294967295, 0) ∷ []))

first_root : root 4 first ≡ (1, Pack (1 ∷ 0 ∷ 0 ∷ 0 ∷ []))
unfolding height height_from
first_root = refl

ends_lines : map (λ R. length (lines 4 R)) ((ends ∷ []) ∷ (first ∷ ends ∷ []) ∷ []) ≡ 3 ∷ 3 ∷ []
unfolding height height_from visits same same_values same_value same_numbers depth
ends_lines = refl

-- the last word taken away
none_left : with (numbers ((5, 70000) ∷ [])) (numbers ((5, 0) ∷ [])) ≡ []
none_left = refl
