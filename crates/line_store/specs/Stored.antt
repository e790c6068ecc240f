-- What is always true of the parts of a store, and the memory that they make.
use Rattle.std.specs.Prelude.{◌≡◌, ℕ, ◌+◌, ◌/◌, ◌≤◌, length, count_by, slice_get, Option, Some, None}
use Rattle.hic_word.specs.Lists.{times}
use Rattle.hic_word.specs.Memory.{Memory}
use Rattle.hic_word.specs.Stands.{Unique}
use Rattle.line_mem.specs.declared.slots.Slot.{Slot}
use Rattle.line_mem.specs.declared.slots.Slot.TheVariants.{Vacant, Taken}
use Rattle.line_mem.specs.Places.{counts_of, dead_at, is_taken, line_of, lines_of, plain_layout}
use Rattle.line_mem.specs.Sound.{most_lines}
use Rattle.line_slots.specs.ChainLists.{ChainLists, entries, SameEntries}
use Rattle.line_slots.specs.SlotLists.{SlotLists}
use Rattle.line_store.specs.Filed.{filed}

-- 1 where a slot is there and vacant
abbrev pub one_if_vacant : {w : ℕ} → Option (Slot w) → ℕ
one_if_vacant None = 0
one_if_vacant (Some Vacant) = 1
one_if_vacant (Some (Taken line count)) = 0

-- the vacant slots are the free ones, and those with the count 0 the dead ones, each once
pub record AreListed {w : ℕ} (lists : SlotLists w) : Type 0 where
  pub free : (k : ℕ) → times k lists.free ≡ one_if_vacant (slice_get lists.slots k)
  pub dead : (k : ℕ) → times k lists.dead ≡ dead_at lists.slots k

-- how many buckets a store has for so many lines: an eighth as many, rounded up
abbrev pub bucket_count : ℕ → ℕ
bucket_count cap = (cap + 7) / 8

-- the lines of a store: each once, and with an entry under its key
pub record AreStored {w : ℕ} (slots : SlotLists w) (chains : ChainLists) (number live : ℕ) : Type 0 where
  pub least : 1 ≤ length slots.slots
  pub most : length slots.slots ≤ most_lines
  pub buckets : number ≡ bucket_count (length slots.slots)
  pub room : chains.slots ≡ length slots.slots
  pub listed : AreListed slots
  pub entered : SameEntries (entries chains) (filed number 0 slots.slots)
  pub taken : live ≡ count_by is_taken slots.slots
  pub unique : Unique (line_of slots.slots)

-- the memory of slots: the id of a line is the number of its slot
abbrev pub memory_of : {w : ℕ} → SlotLists w → Memory
memory_of slots = record {
  lines = lines_of slots.slots;
  counts = counts_of slots.slots;
  dead = slots.dead;
  layout = plain_layout (length slots.slots);
}
