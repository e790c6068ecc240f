-- A slot that is taken, and one that is given back.
use Rattle.std.specs.Prelude.{◌≡◌, ℕ, ◌∷◌, slice_get, slice_set, Some}
use Rattle.hic_word.specs.declared.Line.{Line}
use Rattle.line_mem.specs.declared.slots.Slot.TheVariants.{Vacant, Taken}
use Rattle.line_slots.specs.SlotLists.{SlotLists}

-- the first free slot, which was vacant, has the line now, with one hold
pub record TakesSlot {w : ℕ} (old : SlotLists w) (slot : ℕ) (line : Line w) (new : SlotLists w) : Type 0 where
  pub free : old.free ≡ slot ∷ new.free
  pub vacant : slice_get old.slots slot ≡ Some Vacant
  pub slots : new.slots ≡ slice_set old.slots slot (Taken line 1)
  pub dead : new.dead ≡ old.dead

-- the first dead slot, which had the line, is vacant now and the first free one
pub record GivesSlot {w : ℕ} (old : SlotLists w) (slot : ℕ) (line : Line w) (new : SlotLists w) : Type 0 where
  pub dead : old.dead ≡ slot ∷ new.dead
  pub taken : slice_get old.slots slot ≡ Some (Taken line 0)
  pub slots : new.slots ≡ slice_set old.slots slot Vacant
  pub free : new.free ≡ slot ∷ old.free
