-- Entries by their keys, in chains that become twice as many at a time.
use Rattle.std.specs.Prelude.{◌≡◌, ℕ, ◌*◌, ◌^◌, ◌<◌, ◌≤◌, List, length}
use Rattle.hic_word.specs.Lists.{In}
use Rattle.line_slots.specs.declared.entry.Entry.{Entry}
use Rattle.line_slots.specs.ChainLists.{ChainLists, chain_at, entries, uses}
use Rattle.line_slots.specs.KeyNumbers.{chain_number}

abbrev pub chain_for : ℕ → ChainLists → ℕ → List Entry
chain_for bits lists key = chain_at lists (chain_number bits key)

-- there are as many chains as so many bits tell apart; each entry is in the chain for its key; no slot has two entries
pub record IsIndex (bits : ℕ) (lists : ChainLists) : Type 0 where
  pub count : length lists.chains ≡ 2 ^ bits
  pub room : 2 ^ bits ≤ 2 * lists.slots
  pub few : lists.slots < 2 ^ 24
  pub own : (b : ℕ) (e : Entry) → In e (chain_at lists b) → chain_number bits e.key ≡ b
  pub once : (slot : ℕ) → uses slot (entries lists) ≤ 1
  pub small : (e : Entry) → In e (entries lists) → e.slot < lists.slots
