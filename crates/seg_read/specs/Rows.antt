-- Worked examples: what is at an offset and which offset is next, and the levels below a root with a path.
use Rattle.std.specs.Prelude.{◌≡◌, [], ◌∷◌, map, Some, None, refl}
use Rattle.hic_word.specs.Values.{Array, Number, at}
use Rattle.hic_word.specs.View.{next_of}
use Rattle.hic_word.specs.Heights.{height, height_from}
use Rattle.hic_word.specs.Canon.{root_entry}
use Rattle.seg_read.specs.Levels.{levels, lines_on_way}

-- {5: 70000} has a leaf with a path of one number
abbrev pub five : Array
five = (5, Number 70000) ∷ []

pub five_levels : levels (root_entry 4 five) ≡ 1
unfolding height height_from
five_levels = refl

-- the leaf is on the way to each offset of its part, and there is no line on the way to the others
pub five_lines : map (lines_on_way 4 five) (0 ∷ 4 ∷ 5 ∷ 7 ∷ 8 ∷ 16 ∷ []) ≡ 0 ∷ 1 ∷ 1 ∷ 1 ∷ 0 ∷ 0 ∷ []
unfolding height height_from
five_lines = refl

pub five_line : lines_on_way 4 five 5 ≡ 1
unfolding height height_from
five_line = refl

five_next : map (next_of five) (0 ∷ 5 ∷ 6 ∷ []) ≡ Some 5 ∷ Some 5 ∷ None ∷ []
five_next = refl

-- {0: 1, 4294967295: 2} has a word at the first offset and at the last
abbrev far : Array
far = (0, Number 1) ∷ (4294967295, Number 2) ∷ []

far_at : map (at far) (0 ∷ 4294967294 ∷ 4294967295 ∷ []) ≡ Number 1 ∷ Number 0 ∷ Number 2 ∷ []
far_at = refl

far_next : map (next_of far) (0 ∷ 1 ∷ 4294967295 ∷ []) ≡ Some 0 ∷ Some 4294967295 ∷ Some 4294967295 ∷ []
far_next = refl

-- its line names two lines by paths of 13 numbers, which take no look, and each of these two names none
pub far_levels : levels (root_entry 4 far) ≡ 2
unfolding height height_from
far_levels = refl

-- the way to an end reads both lines; a way that leaves the path reads the first alone, or none
pub far_lines : map (lines_on_way 4 far) (0 ∷ 15 ∷ 16 ∷ 1073741824 ∷ 4294967295 ∷ []) ≡ 2 ∷ 2 ∷ 1 ∷ 1 ∷ 2 ∷ []
unfolding height height_from
far_lines = refl
