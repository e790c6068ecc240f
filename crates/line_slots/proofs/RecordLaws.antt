-- A write to a record, and what it makes of the slots and their lists.
use Rattle.std.proofs.Common.{◌≡◌, ℕ, ◌<◌, ◌≤◌, List, length, Option, Some, None, IsSome, refl, ap}
use Rattle.std.specs.Prelude.{slice_get}
use Rattle.std.proofs.lemmas.Option.{slice_get_within, slice_get_past}
use Rattle.hic_word.specs.Lists.{In}
use Rattle.line_slots.specs.declared.slots.Record.{Record}
use Rattle.line_slots.specs.declared.slots.State.{State}
use Rattle.line_slots.specs.Linked.{LeadsTo}
use Rattle.line_slots.specs.Records.{link_in, members, next_by, no_slot}
use Rattle.line_slots.proofs.LinkLaws.{few_members, followed-leads, has_link}

module _ {w : ℕ} (link : State → Option ℕ) (records : List (Record w)) (fits : length records ≤ no_slot) where
  next : ℕ → Option ℕ
  next = next_by link records

  -- only a record has a link
  low_link : (o : Option (Record w)) (x : ℕ) → slice_get records x ≡ o → IsSome (link_in link o) → x < length records
  low_link None x e h = cc
  low_link (Some r) x e h = slice_get_within records x r e

  pub low : (x : ℕ) → IsSome (next_by link records x) → x < length records
  low x h = low_link (slice_get records x) x refl h

  pub none_ends : next_by link records no_slot ≡ None
  none_ends = ap (link_in link) (slice_get_past records no_slot fits)

  -- what a link leads to are the members of its list
  pub members-led : (first : ℕ) (xs : List ℕ) → LeadsTo (next_by link records) no_slot first xs → members link records first ≡ xs
  members-led first xs h = followed-leads (next_by link records) no_slot none_ends first xs (length records) h (few_members (next_by link records) no_slot none_ends first xs (length records) low h)

  -- a member has a link
  pub member_links : (x first : ℕ) → In x (members link records first) → LeadsTo (next_by link records) no_slot first (members link records first) → IsSome (next_by link records x)
  member_links x first i h = has_link (next_by link records) no_slot none_ends x first (members link records first) i h
