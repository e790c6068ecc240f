-- Worked rows of the definitions.
use Rattle.std.specs.Prelude.{◌≡◌, ℕ, List, [], ◌∷◌, Some, None, refl}
use Rattle.line_mem.specs.declared.slots.Slot.TheVariants.{Vacant}
use Rattle.line_slots.specs.declared.chains.Link.{Link}
use Rattle.line_slots.specs.declared.entry.Entry.{Entry}
use Rattle.line_slots.specs.SlotLists.{empty_lists}
use Rattle.line_slots.specs.ChainLists.{ChainLists, chain_at, entries, first_slot, with_chain, without_slot}
use Rattle.line_slots.specs.KeyNumbers.{chain_number}
use Rattle.line_slots.specs.ChainLinks.{chain_of, linked_from, members, slot_in}

two_slots : empty_lists {w = 4} 2 ≡ record { slots = Vacant ∷ Vacant ∷ []; free = 0 ∷ 1 ∷ []; dead = [] }
two_slots = refl

abbrev entry : ℕ → ℕ → Entry
entry slot key = record { slot = slot; key = key }

abbrev three : List Entry
three = entry 5 1 ∷ entry 7 2 ∷ entry 9 1 ∷ []

without_first : without_slot 5 three ≡ entry 7 2 ∷ entry 9 1 ∷ []
without_first = refl

without_middle : without_slot 7 three ≡ entry 5 1 ∷ entry 9 1 ∷ []
without_middle = refl

without_last : without_slot 9 three ≡ entry 5 1 ∷ entry 7 2 ∷ []
without_last = refl

without_another : without_slot 8 three ≡ three
without_another = refl

abbrev two_chains : ChainLists
two_chains = with_chain (record { slots = 10; chains = [] ∷ (entry 3 4 ∷ []) ∷ [] }) 0 three

one_chain : chain_at two_chains 0 ≡ three
one_chain = refl

other_chain : first_slot (chain_at two_chains 1) ≡ Some 3
other_chain = refl

no_chain : first_slot (chain_at two_chains 2) ≡ None
no_chain = refl

all : entries two_chains ≡ entry 5 1 ∷ entry 7 2 ∷ entry 9 1 ∷ entry 3 4 ∷ []
all = refl

abbrev link : ℕ → ℕ → Link
link next key = record { next = next; key = key }

-- slot 0 leads to slot 2, that to slot 1, and this one to none
linked : members (link 2 3 ∷ link 16777215 0 ∷ link 1 0 ∷ []) 0 ≡ 0 ∷ 2 ∷ 1 ∷ []
linked = refl

keyed : chain_of (link 2 3 ∷ link 16777215 5 ∷ link 1 4 ∷ []) 0 ≡ entry 0 3 ∷ entry 2 4 ∷ entry 1 5 ∷ []
keyed = refl

no_slot_follows : slot_in 16777215 ≡ None
no_slot_follows = refl

-- the slot 4 is in no chain
unmarked : linked_from 3 (link 5 3 ∷ link 4294967295 5 ∷ link 16777215 4 ∷ []) ≡ entry 3 3 ∷ entry 5 4 ∷ []
unmarked = refl

-- 131078 is 6 and once 2 ^ 17
numbered : chain_number 4 131078 ≡ 3
numbered = refl
