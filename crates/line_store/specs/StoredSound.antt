-- The memory of a store is sound.
use Rattle.std.specs.Prelude.{ℕ, length, reverse, refl}
use Rattle.std.proofs.Common.{◌∙◌}
use Rattle.line_mem.specs.PlacesSound.{slots_are_sound, times-reverse}
use Rattle.line_mem.specs.Sound.{IsSound}
use Rattle.line_slots.specs.ChainLists.{ChainLists}
use Rattle.line_slots.specs.SlotLists.{SlotLists}
use Rattle.line_store.specs.Stored.{memory_of, AreStored}

pub stored_is_sound : {w : ℕ} (slots : SlotLists w) (chains : ChainLists) (number live : ℕ) → AreStored slots chains number live → IsSound (memory_of slots)
stored_is_sound slots chains number live stored =
    let plain = slots_are_sound slots.slots (reverse slots.dead) (length slots.slots) stored.unique (λ id. times-reverse id slots.dead ∙ stored.listed.dead id) refl (stored.least, stored.most) in
    record {
      unique = plain.unique;
      small = plain.small;
      keys = plain.keys;
      dead = stored.listed.dead;
      room = plain.room;
      least = plain.least;
      most = plain.most;
    }
