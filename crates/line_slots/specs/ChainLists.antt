-- What chains are seen as.
use Rattle.std.specs.Prelude.{◌≡◌, ℕ, ◌==◌, Bool, List, [], ◌∷◌, ◌++◌, count_by, flat_map, slice_get, slice_set, unwrap_or, Option, Some, None, ◌⊎◌, if◌then◌else◌}
use Rattle.hic_word.specs.Lists.{In}
use Rattle.line_slots.specs.declared.entry.Entry.{Entry}

-- how many slots there are, and the chains, each by its number
pub record ChainLists : Type 0 where
  pub slots : ℕ
  pub chains : List (List Entry)

-- no chain
abbrev pub empty_chains : ℕ → ChainLists
empty_chains slots = record { slots = slots; chains = [] }

-- the chain of a number
abbrev pub chain_at : ChainLists → ℕ → List Entry
chain_at lists number = unwrap_or (slice_get lists.chains number) []

abbrev pub with_chain : ChainLists → ℕ → List Entry → ChainLists
with_chain lists number chain = record lists { chains = slice_set lists.chains number chain }

-- the entries of all chains
abbrev pub entries : ChainLists → List Entry
entries lists = flat_map (λ (chain : List Entry). chain) lists.chains

-- how many entries have the slot
abbrev pub uses : ℕ → List Entry → ℕ
uses slot entries = count_by (λ (e : Entry). e.slot == slot) entries

-- two lists have the same entries, in any order
abbrev pub SameEntries : List Entry → List Entry → Type 0
SameEntries xs ys = (test : Entry → Bool) → count_by test xs ≡ count_by test ys

-- the slot of the first entry
abbrev pub first_slot : List Entry → Option ℕ
first_slot [] = None
first_slot (entry ∷ rest) = Some entry.slot

-- some entry has the slot
abbrev pub HasSlot : ℕ → List Entry → Type 0
HasSlot slot [] = ⊥
HasSlot slot (entry ∷ rest) = (entry.slot ≡ slot) ⊎ HasSlot slot rest

-- the entries but the first that has the slot
abbrev pub without_slot : ℕ → List Entry → List Entry
without_slot slot [] = []
without_slot slot (entry ∷ rest) = if entry.slot == slot then rest else entry ∷ without_slot slot rest

-- a slot is in some chain, or in none
abbrev pub IsChained : ChainLists → ℕ → Type 0
IsChained lists slot = (number : ℕ) × HasSlot slot (chain_at lists number)

abbrev pub IsUnchained : ChainLists → ℕ → Type 0
IsUnchained lists slot = (number : ℕ) → HasSlot slot (chain_at lists number) → ⊥

-- this is the slot after one in its chain, if there is one
abbrev pub IsNext : ChainLists → ℕ → Option ℕ → Type 0
IsNext lists slot next = (number : ℕ) (before after : List Entry) (entry : Entry) → chain_at lists number ≡ before ++ entry ∷ after → entry.slot ≡ slot → next ≡ first_slot after

-- this is the key of a slot in its chain
abbrev pub IsKey : ChainLists → ℕ → ℕ → Type 0
IsKey lists slot key = (number : ℕ) (entry : Entry) → In entry (chain_at lists number) → entry.slot ≡ slot → key ≡ entry.key
