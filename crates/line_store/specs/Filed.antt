-- Which entries a store has, by the lines in its slots.
use Rattle.std.specs.Prelude.{ℕ, suc, ◌+◌, ◌*◌, ◌/◌, ◌^◌, List, [], ◌∷◌, ◌++◌}
use Rattle.hic_word.specs.declared.Word.{Word}
use Rattle.line_hash.specs.Hash.{bucket, hash}
use Rattle.line_mem.specs.declared.slots.Slot.{Slot}
use Rattle.line_mem.specs.declared.slots.Slot.TheVariants.{Vacant, Taken}
use Rattle.line_slots.specs.declared.entry.Entry.{Entry}
use Rattle.line_store.specs.Entries.{entry_for}

-- the key of a line with these words: its bucket of n, which are at most 2^17, and above it the upper 15 bits of its hash
abbrev pub key_for : ℕ → List Word → ℕ
key_for n words = bucket words n + 2 ^ 17 * (hash words / 2 ^ 49)

-- the entry of slot k, if it has a line
abbrev pub filed_by : {w : ℕ} → ℕ → ℕ → Slot w → List Entry
filed_by n k Vacant = []
filed_by n k (Taken line count) = entry_for k (key_for n line.w) ∷ []

-- the entries of n buckets, where these are the slots from k on
abbrev pub filed : {w : ℕ} → ℕ → ℕ → List (Slot w) → List Entry
filed n k [] = []
filed n k (slot ∷ slots) = filed_by n k slot ++ filed n (suc k) slots
