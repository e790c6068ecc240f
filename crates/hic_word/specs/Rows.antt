-- Worked examples of canonical form: the roots of arrays, their line values and how often each is named.
use Rattle.std.specs.Prelude.{◌≡◌, ℕ, zero, suc, ◌^◌, List, [], ◌∷◌, map, replicate, Some, None, refl}
use Rattle.hic_word.specs.Width.{pack_limit, greatest, longest}
use Rattle.hic_word.specs.Values.{Number, Ref, Pairs, NoPair, Pair, Array, array, depth}
use Rattle.hic_word.specs.Changes.{with}
use Rattle.hic_word.specs.Differences.{differ}
use Rattle.hic_word.specs.View.{next_of}
use Rattle.hic_word.specs.Parts.{part}
use Rattle.hic_word.specs.Heights.{height, height_from}
use Rattle.hic_word.specs.Entries.{Entry, Zero, Pack, Named, LineValue, Leaf, Inner, inner}
use Rattle.hic_word.specs.Canon.{root}
use Rattle.hic_word.specs.Stands.{node_bits, pack_bits}
use Rattle.hic_word.specs.Same.{same, same_value, same_values, same_numbers}
use Rattle.hic_word.specs.Lines.{lines, count, visits}

-- the roots of arrays, and each line value with its count
abbrev shown : ℕ → List Array → List (ℕ × Entry) × List (LineValue × ℕ)
shown w R = (map (root w) R, map (λ L. (L, count w L R)) (lines w R))

-- a leaf of numbers, and an inner line value of entries
abbrev leaf : List ℕ → LineValue
leaf ns = Leaf (map Number ns)

abbrev branch : List Entry → LineValue
branch es = Inner (inner es)

-- the line of an entry with no path
abbrev line : LineValue → Entry
line L = Named L []

abbrev last : ℕ → Array
last n = (4294967295, Number n) ∷ []

-- the widths
lengths : map longest (2 ∷ 4 ∷ 8 ∷ []) ≡ 31 ∷ 15 ∷ 10 ∷ []
lengths = refl

heights : map greatest (2 ∷ 4 ∷ 8 ∷ []) ≡ 32 ∷ 16 ∷ 11 ∷ []
heights = refl

limits : map pack_limit (2 ∷ 4 ∷ 8 ∷ []) ≡ 2 ^ 32 ∷ 2 ^ 16 ∷ 2 ^ 8 ∷ []
limits = refl

-- small numbers are packed and take no line, larger ones take a line
packed : shown 4 (((0, Number 1) ∷ (1, Number 2) ∷ []) ∷ []) ≡ ((1, Pack (1 ∷ 2 ∷ 0 ∷ 0 ∷ [])) ∷ [], [])
unfolding height height_from visits same same_values same_value same_numbers depth
packed = refl

packed_most : shown 4 (((0, Number 65535) ∷ []) ∷ []) ≡ ((1, Pack (65535 ∷ 0 ∷ 0 ∷ 0 ∷ [])) ∷ [], [])
unfolding height height_from visits same same_values same_value same_numbers depth
packed_most = refl

large : shown 4 (((0, Number 65536) ∷ []) ∷ []) ≡ ((1, line (leaf (65536 ∷ 0 ∷ 0 ∷ 0 ∷ []))) ∷ [], (leaf (65536 ∷ 0 ∷ 0 ∷ 0 ∷ []), 1) ∷ [])
unfolding height height_from visits same same_values same_value same_numbers depth
large = refl

packed_8 : shown 8 (((0, Number 255) ∷ []) ∷ []) ≡ ((1, Pack (255 ∷ replicate 7 0)) ∷ [], [])
unfolding height height_from visits same same_values same_value same_numbers depth
packed_8 = refl

-- packed numbers that stand alone in a higher part take a line; a line that stands alone has its part's number before
-- its path, up to the longest path of each width
packed_alone : shown 4 (((5, Number 1) ∷ []) ∷ []) ≡ ((2, line (branch (Zero ∷ Pack (0 ∷ 1 ∷ 0 ∷ 0 ∷ []) ∷ Zero ∷ Zero ∷ []))) ∷ [], (branch (Zero ∷ Pack (0 ∷ 1 ∷ 0 ∷ 0 ∷ []) ∷ Zero ∷ Zero ∷ []), 1) ∷ [])
unfolding height height_from visits same same_values same_value same_numbers depth
packed_alone = refl

path : shown 4 (((5, Number 70000) ∷ []) ∷ []) ≡ ((2, Named (leaf (0 ∷ 70000 ∷ 0 ∷ 0 ∷ [])) (1 ∷ [])) ∷ [], (leaf (0 ∷ 70000 ∷ 0 ∷ 0 ∷ []), 1) ∷ [])
unfolding height height_from visits same same_values same_value same_numbers depth
path = refl

path_2 : shown 2 (last 4294967296 ∷ []) ≡ ((32, Named (leaf (0 ∷ 4294967296 ∷ [])) (replicate 31 1)) ∷ [], (leaf (0 ∷ 4294967296 ∷ []), 1) ∷ [])
unfolding height height_from visits same same_values same_value same_numbers depth
path_2 = refl

path_4 : shown 4 (last 70000 ∷ []) ≡ ((16, Named (leaf (0 ∷ 0 ∷ 0 ∷ 70000 ∷ [])) (replicate 15 3)) ∷ [], (leaf (0 ∷ 0 ∷ 0 ∷ 70000 ∷ []), 1) ∷ [])
unfolding height height_from visits same same_values same_value same_numbers depth
path_4 = refl

path_8 : shown 8 (last 70000 ∷ []) ≡ ((11, Named (leaf (0 ∷ 0 ∷ 0 ∷ 0 ∷ 0 ∷ 0 ∷ 0 ∷ 70000 ∷ [])) (3 ∷ replicate 9 7)) ∷ [], (leaf (0 ∷ 0 ∷ 0 ∷ 0 ∷ 0 ∷ 0 ∷ 0 ∷ 70000 ∷ []), 1) ∷ [])
unfolding height height_from visits same same_values same_value same_numbers depth
path_8 = refl

-- one leaf, named twice by an inner line
twice : Array
twice = (0, Number 70000) ∷ (4, Number 70000) ∷ []

abbrev twice_leaf : LineValue
twice_leaf = leaf (70000 ∷ 0 ∷ 0 ∷ 0 ∷ [])

abbrev twice_whole : LineValue
twice_whole = branch (line twice_leaf ∷ line twice_leaf ∷ Zero ∷ Zero ∷ [])

twice_4 : shown 4 (twice ∷ []) ≡ ((2, line twice_whole) ∷ [], (twice_whole, 1) ∷ (twice_leaf, 2) ∷ [])
unfolding twice height height_from visits same same_values same_value same_numbers depth
twice_4 = refl

-- in lines of 2 words its numbers are packed, in lines of 8 it is one leaf
abbrev twice_half : LineValue
twice_half = branch (Pack (70000 ∷ 0 ∷ []) ∷ Zero ∷ [])

abbrev twice_whole_2 : LineValue
twice_whole_2 = branch (line twice_half ∷ line twice_half ∷ [])

twice_2 : shown 2 (twice ∷ []) ≡ ((3, line twice_whole_2) ∷ [], (twice_whole_2, 1) ∷ (twice_half, 2) ∷ [])
unfolding twice height height_from visits same same_values same_value same_numbers depth
twice_2 = refl

twice_8 : shown 8 (twice ∷ []) ≡ ((1, line (leaf (70000 ∷ 0 ∷ 0 ∷ 0 ∷ 70000 ∷ 0 ∷ 0 ∷ 0 ∷ []))) ∷ [], (leaf (70000 ∷ 0 ∷ 0 ∷ 0 ∷ 70000 ∷ 0 ∷ 0 ∷ 0 ∷ []), 1) ∷ [])
unfolding twice height height_from visits same same_values same_value same_numbers depth
twice_8 = refl

-- two packed numbers far apart
far : Array
far = (0, Number 1) ∷ (4294967295, Number 2) ∷ []

abbrev near_end : LineValue
near_end = branch (Pack (1 ∷ 0 ∷ 0 ∷ 0 ∷ []) ∷ Zero ∷ Zero ∷ Zero ∷ [])

abbrev far_end : LineValue
far_end = branch (Zero ∷ Zero ∷ Zero ∷ Pack (0 ∷ 0 ∷ 0 ∷ 2 ∷ []) ∷ [])

abbrev far_whole : LineValue
far_whole = branch (Named near_end (replicate 13 0) ∷ Zero ∷ Zero ∷ Named far_end (replicate 13 3) ∷ [])

far_4 : shown 4 (far ∷ []) ≡ ((16, line far_whole) ∷ [], (far_whole, 1) ∷ (near_end, 1) ∷ (far_end, 1) ∷ [])
unfolding far height height_from visits same same_values same_value same_numbers depth
far_4 = refl

-- an array that is held twice
shared : Array
shared = (0, Number 70000) ∷ (9, Number 80000) ∷ []

abbrev shared_whole : LineValue
shared_whole = branch (line twice_leaf ∷ Zero ∷ line (leaf (0 ∷ 80000 ∷ 0 ∷ 0 ∷ [])) ∷ Zero ∷ [])

shared_4 : shown 4 (shared ∷ shared ∷ []) ≡ ((2, line shared_whole) ∷ (2, line shared_whole) ∷ [], (shared_whole, 2) ∷ (twice_leaf, 1) ∷ (leaf (0 ∷ 80000 ∷ 0 ∷ 0 ∷ []), 1) ∷ [])
unfolding shared height height_from visits same same_values same_value same_numbers depth
shared_4 = refl

-- a reference to the empty array is not the number 0, and names no line
abbrev of_empty : LineValue
of_empty = Leaf (Ref NoPair ∷ Number 0 ∷ Number 0 ∷ Number 0 ∷ [])

empty_referenced : shown 4 (((0, Ref NoPair) ∷ []) ∷ [] ∷ []) ≡ ((1, line of_empty) ∷ (0, Zero) ∷ [], (of_empty, 1) ∷ [])
unfolding height height_from visits same same_values same_value same_numbers depth
empty_referenced = refl

-- arrays that each reference the next four times
nested : ℕ → Pairs
nested zero = Pair 0 (Ref NoPair) (Pair 1 (Ref NoPair) (Pair 2 (Ref NoPair) (Pair 3 (Ref NoPair) NoPair)))
nested (suc n) = let v = Ref (nested n) in Pair 0 v (Pair 1 v (Pair 2 v (Pair 3 v NoPair)))

nested_counts : map (λ L. count 4 L (array (nested 2) ∷ [])) (lines 4 (array (nested 2) ∷ [])) ≡ 1 ∷ 4 ∷ 4 ∷ []
unfolding height height_from nested visits same same_value same_values same_numbers depth
nested_counts = refl

-- the bits of packed numbers and of an id with a path
packed_bits : pack_bits 4 (0 ∷ 1 ∷ 0 ∷ 0 ∷ []) ≡ 65536
packed_bits = refl

path_bits : node_bits 4 5 (1 ∷ []) ≡ 576460752320200709
path_bits = refl

-- changes, differences, parts and the next value
shared_with : with (with [] ((9, Number 80000) ∷ [])) ((0, Number 70000) ∷ []) ≡ shared
unfolding shared
shared_with = refl

shared_without : with shared ((0, Number 0) ∷ []) ≡ (9, Number 80000) ∷ []
unfolding shared
shared_without = refl

shared_differ : differ shared ((0, Number 70000) ∷ (7, Number 3) ∷ []) ≡ 7 ∷ 9 ∷ []
unfolding shared same_value
shared_differ = refl

five : Array
five = (5, Number 1) ∷ (6, Ref NoPair) ∷ []

five_part_4 : part 4 five 2 1 ≡ (1, Number 1) ∷ (2, Ref NoPair) ∷ []
unfolding five
five_part_4 = refl

five_part_2 : part 2 five 3 1 ≡ (1, Number 1) ∷ (2, Ref NoPair) ∷ []
unfolding five
five_part_2 = refl

far_next : map (next_of far) (0 ∷ 1 ∷ 4294967295 ∷ []) ≡ Some 0 ∷ Some 4294967295 ∷ Some 4294967295 ∷ []
unfolding far
far_next = refl

five_next : map (next_of five) (6 ∷ 7 ∷ []) ≡ Some 6 ∷ None ∷ []
unfolding five
five_next = refl
