-- What slots are seen as.
use Rattle.std.specs.Prelude.{◌≡◌, ℕ, List, [], replicate, slice_get, slice_set, Option, Some, None}
use Rattle.std.specs.List.{range_with_len}
use Rattle.hic_word.specs.declared.Line.{Line}
use Rattle.hic_word.specs.declared.Word.{Word}
use Rattle.line_mem.specs.declared.slots.Slot.{Slot}
use Rattle.line_mem.specs.declared.slots.Slot.TheVariants.{Vacant, Taken}

-- each slot, vacant or taken by a line with its count; the free slots in the order to be taken; the dead slots in the
-- order to be popped
pub record SlotLists (w : ℕ) : Type 0 where
  pub slots : List (Slot w)
  pub free : List ℕ
  pub dead : List ℕ

-- n slots, all vacant and free, the lowest first
abbrev pub empty_lists : {w : ℕ} → ℕ → SlotLists w
empty_lists n = record { slots = replicate n Vacant; free = range_with_len 0 n; dead = [] }

abbrev pub with_slot : {w : ℕ} → SlotLists w → ℕ → Slot w → SlotLists w
with_slot lists k slot = record lists { slots = slice_set lists.slots k slot }

abbrev pub with_free : {w : ℕ} → SlotLists w → List ℕ → SlotLists w
with_free lists free = record lists { free = free }

abbrev pub with_dead : {w : ℕ} → SlotLists w → List ℕ → SlotLists w
with_dead lists dead = record lists { dead = dead }

-- the slot is there and has no line
abbrev pub IsVacant : {w : ℕ} → SlotLists w → ℕ → Type 0
IsVacant lists k = slice_get lists.slots k ≡ Some Vacant

abbrev pub line_in : {w : ℕ} → Option (Slot w) → Option (Line w)
line_in None = None
line_in (Some Vacant) = None
line_in (Some (Taken line count)) = Some line

abbrev pub count_in : {w : ℕ} → Option (Slot w) → Option ℕ
count_in None = None
count_in (Some Vacant) = None
count_in (Some (Taken line count)) = Some count

-- the line of a slot, and its count
abbrev pub line_at : {w : ℕ} → SlotLists w → ℕ → Option (Line w)
line_at lists k = line_in (slice_get lists.slots k)

abbrev pub count_at : {w : ℕ} → SlotLists w → ℕ → Option ℕ
count_at lists k = count_in (slice_get lists.slots k)

abbrev pub word_in : {w : ℕ} → Option (Line w) → ℕ → Option Word
word_in None place = None
word_in (Some line) place = slice_get line.w place

-- the word at a place of the line of a slot
abbrev pub word_at : {w : ℕ} → SlotLists w → ℕ → ℕ → Option Word
word_at lists k place = word_in (line_at lists k) place

-- the line of the slot has this count now
abbrev pub Recounts : {w : ℕ} → SlotLists w → ℕ → ℕ → SlotLists w → Type 0
Recounts old k count new = (line : Line _) × (line_at old k ≡ Some line) × (new ≡ with_slot old k (Taken line count))
