-- How the links of chains are seen.
use Rattle.std.specs.Prelude.{◌≡◌, ℕ, ◌+◌, ◌*◌, ◌-◌, ◌/◌, ◌%◌, ◌≤◌, ◌<◌, ◌^◌, List, [], ◌∷◌, length, map, slice_get, option_map, unwrap_or, Option, Some, None, ◌==◌, if◌then◌else◌}
use Rattle.std.specs.Int.{bit_at}
use Rattle.hic_word.specs.Lists.{In}
use Rattle.line_slots.specs.declared.chains.Link.{Link}
use Rattle.line_slots.specs.declared.entry.Entry.{Entry}
use Rattle.line_slots.specs.ChainLists.{ChainLists, chain_at, entries, SameEntries}
use Rattle.line_slots.specs.KeyNumbers.{chain_number}
use Rattle.line_slots.specs.Linked.{LeadsTo, followed}

-- the number that says that no slot follows: no slot has it
abbrev pub no_link : ℕ
no_link = 2 ^ 24 - 1

-- what stands in place of the next slot where a slot is in no chain
abbrev pub unlinked : ℕ
unlinked = 2 ^ 32 - 1

-- the slot that follows one
abbrev pub next_of : Option Link → Option ℕ
next_of found = option_map (λ link. link.next) found

abbrev pub next_in : List Link → ℕ → Option ℕ
next_in links slot = next_of (slice_get links slot)

-- the key that stands in a link
abbrev pub key_of : Option Link → ℕ
key_of found = unwrap_or (option_map (λ link. link.key) found) 0

abbrev pub entry_in : List Link → ℕ → Entry
entry_in links slot = record { slot = slot; key = key_of (slice_get links slot) }

-- the slots of the chain that begins here
abbrev pub members : List Link → ℕ → List ℕ
members links first = followed (next_in links) (length links) first

abbrev pub chain_of : List Link → ℕ → List Entry
chain_of links first = map (entry_in links) (members links first)

-- a head is the first slot of a chain, below 2 ^ 24, and above it the set of the kinds of its keys, a bit for each
abbrev pub first_in : ℕ → ℕ
first_in head = head % 2 ^ 24

abbrev pub kinds_in : ℕ → ℕ
kinds_in head = head / 2 ^ 24

-- a key is of one of eight kinds, by its highest three bits of 32
abbrev pub kind_of : ℕ → ℕ
kind_of key = key / 2 ^ 29

-- the kind of a key is in the set
abbrev pub HasKind : ℕ → ℕ → Type 0
HasKind kinds key = bit_at kinds (kind_of key) ≡ 1

-- the kinds of the heads tell of each entry
abbrev pub TellKinds : List ℕ → ChainLists → Type 0
TellKinds heads lists = (b h : ℕ) (e : Entry) → slice_get heads b ≡ Some h → In e (chain_at lists b) → HasKind (kinds_in h) e.key

-- chains by their first slots and the links
abbrev pub chains_of : List ℕ → List Link → ℕ → ChainLists
chains_of heads links slots = record { slots = slots; chains = map (chain_of links) heads }

-- the chain that begins here ends
abbrev pub Ends : List Link → ℕ → Type 0
Ends links first = LeadsTo (next_in links) no_link first (members links first)

-- there is room for a link of each slot, each chain ends, and no slot is in two
pub record AreChained (heads : List ℕ) (links : List Link) (slots capacity : ℕ) : Type 0 where
  pub few : slots < 2 ^ 24
  pub some : length links ≤ slots
  pub room : slots ≤ capacity
  pub ends : (b h : ℕ) → slice_get heads b ≡ Some h → Ends links h
  pub apart : (b c h g s : ℕ) → slice_get heads b ≡ Some h → slice_get heads c ≡ Some g → In s (members links h) → In s (members links g) → b ≡ c

-- the entries of the links, from that of a slot on, that are not marked to be in no chain
abbrev pub linked_from : ℕ → List Link → List Entry
linked_from slot [] = []
linked_from slot (link ∷ links) = if link.next == unlinked then linked_from (slot + 1) links else record { slot = slot; key = link.key } ∷ linked_from (slot + 1) links

-- the marks tell what is in no chain, and there is room for twice as many chains as slots
pub record HaveRoom (heads : List ℕ) (links : List Link) (slots heads_capacity links_capacity : ℕ) : Type 0 where
  pub chained : AreChained heads links slots links_capacity
  pub marked : SameEntries (entries (chains_of heads links slots)) (linked_from 0 links)
  pub few : length heads ≤ 2 * slots
  pub room : 2 * slots ≤ heads_capacity

-- and so it is with the first slots of the heads, whose kinds tell of the entries
pub record AreHeld (heads : List ℕ) (links : List Link) (slots heads_capacity links_capacity : ℕ) : Type 0 where
  pub firsts : HaveRoom (map first_in heads) links slots heads_capacity links_capacity
  pub kinds : TellKinds heads (chains_of (map first_in heads) links slots)

-- the chains, as many as so many bits tell apart, have the entries of the links that were not marked, each in that for its key
pub record AreLaidOut (bits : ℕ) (old : List Link) (heads : List ℕ) (links : List Link) : Type 0 where
  pub chained : AreChained heads links (length old) (length old)
  pub count : length heads ≡ 2 ^ bits
  pub own : (b : ℕ) (e : Entry) → In e (chain_at (chains_of heads links (length old)) b) → chain_number bits e.key ≡ b
  pub entered : SameEntries (entries (chains_of heads links (length old))) (linked_from 0 old)
  pub marked : SameEntries (linked_from 0 links) (linked_from 0 old)

-- the slot of a number, if there is one
abbrev pub slot_in : ℕ → Option ℕ
slot_in number = if number == no_link then None else Some number
