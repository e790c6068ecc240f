-- Worked rows of commit and mcas.
use Rattle.std.specs.Prelude.{◌≡◌, ℕ, true, false, nat_lt, [], ◌∷◌, map, Some, None, refl}
use Rattle.hic_isa.specs.declared.instr.SegKind.TheVariants.{Plain, Merge}
use Rattle.hic_word.specs.Values.{Number, Ref, NoPair, Array}
use Rattle.hic_word.specs.Same.{same_value}
use Rattle.segment_map.specs.Merging.{commit, conflict, effective, joined, mcas, mcas_row, merged, most_differing, swapped, wide}

-- one word at an offset
abbrev one : ℕ → ℕ → Array
one offset n = (offset, Number n) ∷ []

-- ---- words joined

joined_to_the_old : joined Merge (Number 7) (Number 8) (Number 7) ≡ Some (Number 8)
unfolding same_value
joined_to_the_old = refl

joined_to_the_same : joined Merge (Number 7) (Number 8) (Number 8) ≡ Some (Number 8)
unfolding same_value
joined_to_the_same = refl

joined_to_another : joined Merge (Number 7) (Number 8) (Number 9) ≡ None
unfolding same_value
joined_to_another = refl

-- a reference to the empty array is not the number 0
joined_to_empty : joined Merge (Number 0) (Number 8) (Ref NoPair) ≡ None
unfolding same_value
joined_to_empty = refl

-- ---- commit

-- nobody came between: also a plain segment gets the writes, and a word 0 takes a pair away
alone : commit Plain (one 3 7) ((3, Number 0) ∷ (5, Number 70001) ∷ []) (one 3 7) ≡ swapped (one 5 70001)
unfolding same_value
alone = refl

-- two writers of different offsets, both from the empty array: the second is merged
two_writers : commit Merge [] (one 5 70002) (one 0 70001) ≡ merged ((0, Number 70001) ∷ (5, Number 70002) ∷ [])
unfolding same_value
two_writers = refl

-- a plain segment takes no stale commit, even one that writes nothing
two_writers_plain : commit Plain [] (one 5 70002) (one 0 70001) ≡ conflict
unfolding same_value
two_writers_plain = refl

nothing_plain : commit Plain [] [] (one 0 70001) ≡ conflict
unfolding same_value
nothing_plain = refl

nothing_merged : commit Merge [] [] (one 0 70001) ≡ merged (one 0 70001)
unfolding same_value
nothing_merged = refl

-- one offset: two words conflict, the same word is merged
two_words : commit Merge [] (one 0 70002) (one 0 70001) ≡ conflict
unfolding same_value
two_words = refl

one_word : commit Merge [] (one 0 70001) (one 0 70001) ≡ merged (one 0 70001)
unfolding same_value
one_word = refl

-- one conflict refuses all writes
one_of_two : commit Merge [] ((0, Number 70002) ∷ (5, Number 1) ∷ []) (one 0 70001) ≡ conflict
unfolding same_value
one_of_two = refl

-- a word written back unchanged undoes nothing
unchanged : effective (one 0 7) (one 0 7) ≡ []
unfolding same_value
unchanged = refl

written_back : commit Merge (one 0 7) (one 0 7) (one 0 70001) ≡ merged (one 0 70001)
unfolding same_value
written_back = refl

-- changed and changed back before the commit: the array is the snapshot again
changed_back : commit Plain [] (one 5 70002) [] ≡ swapped (one 5 70002)
unfolding same_value
changed_back = refl

-- a word taken away while another was written
taken_away : commit Merge (one 3 7) ((3, Number 0) ∷ []) ((3, Number 7) ∷ (5, Number 8) ∷ []) ≡ merged (one 5 8)
unfolding same_value
taken_away = refl

-- ---- mcas

-- 4,096 differing offsets are merged, one more is too many
most : map (nat_lt most_differing) (4096 ∷ 4097 ∷ []) ≡ false ∷ true ∷ []
most = refl

-- too many differences come before a conflict, and after the other rows
wide_before_conflict : (mine present : Array) → mcas_row false true true mine present None ≡ wide
wide_before_conflict mine present = refl

wide_but_plain : (mine present : Array) → mcas_row false false true mine present None ≡ conflict
wide_but_plain mine present = refl

wide_but_the_base : (mine present : Array) → mcas_row true true true mine present None ≡ swapped mine
wide_but_the_base mine present = refl

-- the present array is the base: mine takes its place
still_the_base : mcas Plain (one 0 7) (one 5 8) (one 0 7) ≡ swapped (one 5 8)
unfolding same_value
still_the_base = refl

stale_plain : mcas Plain [] (one 0 1) (one 5 8) ≡ conflict
unfolding same_value
stale_plain = refl

-- what mine has at other offsets than the present array
stale_merged : mcas Merge [] (one 0 1) (one 5 8) ≡ merged ((0, Number 1) ∷ (5, Number 8) ∷ [])
unfolding same_value
stale_merged = refl

-- offsets at which base and mine are equal keep the present word
kept : mcas Merge ((0, Number 1) ∷ (2, Number 2) ∷ []) ((0, Number 1) ∷ (2, Number 3) ∷ []) ((0, Number 9) ∷ (2, Number 2) ∷ []) ≡ merged ((0, Number 9) ∷ (2, Number 3) ∷ [])
unfolding same_value
kept = refl

-- what mine no longer has is taken away
removed : mcas Merge (one 0 1) [] ((0, Number 1) ∷ (5, Number 8) ∷ []) ≡ merged (one 5 8)
unfolding same_value
removed = refl

both_changed : mcas Merge (one 0 1) (one 0 2) (one 0 3) ≡ conflict
unfolding same_value
both_changed = refl

both_changed_alike : mcas Merge (one 0 1) (one 0 2) (one 0 2) ≡ merged (one 0 2)
unfolding same_value
both_changed_alike = refl
