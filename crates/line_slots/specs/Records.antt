-- How the records of slots are seen.
use Rattle.std.specs.Prelude.{ℕ, ◌-◌, ◌≤◌, ◌<◌, ◌^◌, List, ◌++◌, length, map, replicate, slice_get, Option, Some, None}
use Rattle.std.specs.List.{range_with_len}
use Rattle.line_mem.specs.declared.slots.Slot.{Slot}
use Rattle.line_mem.specs.declared.slots.Slot.TheVariants.{Vacant, Taken}
use Rattle.line_slots.specs.declared.content.Content.{Content}
use Rattle.line_slots.specs.declared.slots.Record.{Record}
use Rattle.line_slots.specs.declared.slots.State.{State}
use Rattle.line_slots.specs.declared.slots.State.TheVariants as state
use Rattle.line_slots.specs.Contents.{line_of}
use Rattle.line_slots.specs.Linked.{LeadsTo, followed}
use Rattle.line_slots.specs.SlotLists.{SlotLists}

abbrev pub slot_by : {w : ℕ} → Content w → State → Slot w
slot_by content (state.Vacant next) = Vacant
slot_by content (state.Counted count) = Taken (line_of content) count
slot_by content (state.Dead next) = Taken (line_of content) 0

abbrev pub slot_of : {w : ℕ} → Record w → Slot w
slot_of r = slot_by r.content r.state

-- the link in a vacant slot, and in a dead one
abbrev pub vacant_link : State → Option ℕ
vacant_link (state.Vacant next) = Some next
vacant_link (state.Counted count) = None
vacant_link (state.Dead next) = None

abbrev pub dead_link : State → Option ℕ
dead_link (state.Vacant next) = None
dead_link (state.Counted count) = None
dead_link (state.Dead next) = Some next

-- a link by the record that is there
abbrev pub link_in : {w : ℕ} → (State → Option ℕ) → Option (Record w) → Option ℕ
link_in link None = None
link_in link (Some r) = link r.state

abbrev pub next_by : {w : ℕ} → (State → Option ℕ) → List (Record w) → ℕ → Option ℕ
next_by link records k = link_in link (slice_get records k)

-- the members of a list by links in records
abbrev pub members : {w : ℕ} → (State → Option ℕ) → List (Record w) → ℕ → List ℕ
members link records first = followed (next_by link records) (length records) first

-- slots by their records. Those that have none were never taken: they are vacant, and free after all others
abbrev pub lists_of : {w : ℕ} → List (Record w) → ℕ → ℕ → ℕ → SlotLists w
lists_of records free dead slots = record {
  slots = map slot_of records ++ replicate (slots - length records) Vacant;
  free = members vacant_link records free ++ range_with_len (length records) (slots - length records);
  dead = members dead_link records dead;
}

-- the number that says that there is no slot
abbrev pub no_slot : ℕ
no_slot = 2 ^ 32 - 1

-- there is room for a record of each slot, and both lists end
pub record AreKept {w : ℕ} (records : List (Record w)) (free dead slots capacity : ℕ) : Type 0 where
  pub few : slots < 2 ^ 24
  pub some : length records ≤ slots
  pub room : slots ≤ capacity
  pub free_ends : LeadsTo (next_by vacant_link records) no_slot free (members vacant_link records free)
  pub dead_ends : LeadsTo (next_by dead_link records) no_slot dead (members dead_link records dead)
