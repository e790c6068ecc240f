-- What becomes of a change to a segment: the tables of commit and mcas, on arrays.
--
-- A change was made from an old array, and comes to a segment that has a present one. Where the two are equal the
-- changed array takes the place of the present one. Else a segment that merges gets the present array with what was
-- changed, if at each changed offset the old word, the changed word and the present word can be joined.
use Rattle.std.specs.Prelude.{ℕ, Bool, true, false, not, ◌||◌, nat_lt, List, [], ◌∷◌, length, filter, Option, Some, None}
use Rattle.hic_isa.specs.declared.instr.SegKind.{SegKind}
use Rattle.hic_isa.specs.declared.instr.SegKind.TheVariants.{Plain, Merge}
use Rattle.hic_word.specs.Values.{Value, Array, at, pairs}
use Rattle.hic_word.specs.Changes.{with}
use Rattle.hic_word.specs.Differences.{changes_at, differ}
use Rattle.hic_word.specs.Same.{same_pairs, same_value}
use Rattle.segment_map.specs.declared.merged.Merged.{Merged}
use Rattle.segment_map.specs.declared.merged.Merged.TheVariants as answers

-- ---- answers

-- the number of an answer
abbrev pub number_of : Merged → ℕ
number_of answers.Swapped = 0
number_of answers.Merged = 1
number_of answers.Conflict = 2
number_of answers.Wide = 3

-- an answer, and the segment's new array where it gets one
pub record Updated : Type 0 where
  pub answer : Merged
  pub array : Option Array

abbrev pub swapped : Array → Updated
swapped A = record { answer = answers.Swapped; array = Some A }

abbrev pub merged : Array → Updated
merged A = record { answer = answers.Merged; array = Some A }

abbrev pub conflict : Updated
conflict = record { answer = answers.Conflict; array = None }

abbrev pub wide : Updated
wide = record { answer = answers.Wide; array = None }

-- ---- what is changed, and what it is joined to

-- pairs of an offset and the word that it gets, a word 0 included
abbrev pub Changes : Type 0
Changes = List (ℕ × Value)

-- whether a stale change is merged
abbrev pub merges : SegKind → Bool
merges Plain = false
merges Merge = true

-- v, if b
abbrev pub if_so : Bool → Value → Option Value
if_so false v = None
if_so true v = Some v

-- the word that an offset gets where its word was old, was changed to mine and is present; none where they conflict
abbrev pub joined : SegKind → Value → Value → Value → Option Value
joined Plain old mine present = None
joined Merge old mine present = if_so (same_value present old || same_value present mine) mine

-- one change before others, if it and they can be joined
abbrev pub joined_before : ℕ → Option Value → Option Changes → Option Changes
joined_before offset None rest = None
joined_before offset (Some v) None = None
joined_before offset (Some v) (Some rest) = Some ((offset, v) ∷ rest)

-- changes of an old array, each joined to the present one; none where one of them conflicts
abbrev pub joined_changes : SegKind → Array → Changes → Array → Option Changes
joined_changes kind old [] present = Some []
joined_changes kind old (c ∷ cs) present = joined_before c.0 (joined kind (at old c.0) c.1 (at present c.0)) (joined_changes kind old cs present)

-- the writes that change something: their word is not the snapshot's
abbrev pub effective : Array → Changes → Changes
effective snapshot writes = filter (λ write. not (same_value write.1 (at snapshot write.0))) writes

-- where mine differs from the base, with mine's words
abbrev pub differences : Array → Array → Changes
differences base mine = changes_at mine (differ base mine)

-- the most differing offsets that mcas merges
abbrev pub most_differing : ℕ
most_differing = 4096

abbrev pub same_array : Array → Array → Bool
same_array A B = same_pairs (pairs A) (pairs B)

-- ---- the tables

-- Commit, by these tests and arrays: is the present array the snapshot; does the segment merge; the snapshot with the
-- writes; the present array; the effective writes, joined to it.
-- 0: nobody came between. 2: a plain segment. 2: a word was changed on both sides. 1: merged.
abbrev pub commit_row : Bool → Bool → Array → Array → Option Changes → Updated
commit_row true _ changed present _ = swapped changed
commit_row false false changed present _ = conflict
commit_row false true changed present None = conflict
commit_row false true changed present (Some changes) = merged (with present changes)

-- the commit of writes over a snapshot
abbrev pub commit : SegKind → Array → Changes → Array → Updated
commit kind snapshot writes present =
    commit_row (same_array present snapshot) (merges kind) (with snapshot writes) present (joined_changes kind snapshot (effective snapshot writes) present)

-- Mcas, by these: is the present array the base; does the segment merge; are there too many differences; mine; the
-- present array; the differences, joined to it.
-- 0: nobody came between. 2: a plain segment. 3: too wide. 2: a word was changed on both sides. 1: merged.
abbrev pub mcas_row : Bool → Bool → Bool → Array → Array → Option Changes → Updated
mcas_row true _ _ mine present _ = swapped mine
mcas_row false false _ mine present _ = conflict
mcas_row false true true mine present _ = wide
mcas_row false true false mine present None = conflict
mcas_row false true false mine present (Some changes) = merged (with present changes)

-- the change from a base to mine
abbrev pub mcas : SegKind → Array → Array → Array → Updated
mcas kind base mine present =
    mcas_row (same_array present base) (merges kind) (nat_lt most_differing (length (differ base mine))) mine present (joined_changes kind base (differences base mine) present)
