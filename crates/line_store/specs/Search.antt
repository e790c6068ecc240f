-- Looking for a line among entries.
use Rattle.std.specs.Prelude.{◌≡◌, ◌≢◌, ℕ, ◌<◌, ◌==◌, List, count_by, Option, Some, MatchOption, OnSome}
use Rattle.hic_word.specs.declared.Line.{Line}
use Rattle.hic_word.specs.Lists.{In}
use Rattle.line_mem.specs.Looks.{LooksUpTo}
use Rattle.line_slots.specs.declared.entry.Entry.{Entry}
use Rattle.line_slots.specs.SlotLists.{SlotLists, line_at}
use Rattle.line_store.specs.Entries.{entry_for}

-- how many entries have the key
abbrev pub alike : ℕ → List Entry → ℕ
alike key entries = count_by (λ (e : Entry). e.key == key) entries

-- this is the slot of the line among the entries with the key, if there is one. There are at most as many looks as such
-- entries, and one at least where the line is found
pub record Finds {w : ℕ} (slots : SlotLists w) (entries : List Entry) (key : ℕ) (line : Line w) (found : Option ℕ) (old new : ℕ) : Type 0 where
  pub slot : MatchOption found ((e : Entry) → In e entries → e.key ≡ key → line_at slots e.slot ≢ Some line) (λ k. In (entry_for k key) entries × (line_at slots k ≡ Some line))
  pub looks : LooksUpTo (alike key entries) old new
  pub looked : OnSome found (old < new)
