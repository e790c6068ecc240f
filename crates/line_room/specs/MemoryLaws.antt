-- A law on memories that hold the same words.
use Rattle.std.specs.Prelude.{◌≡◌, ℕ, List, is_some}
use Rattle.std.specs.FinMap as map
use Rattle.hic_word.specs.declared.Word.{Word}
use Rattle.hic_word.specs.Width.{IsWidth}
use Rattle.hic_word.specs.Memory.{Memory, line_at}
use Rattle.hic_word.specs.Stands.{Lookup}
use Rattle.hic_word.specs.Standing.{IsWithin}
use Rattle.hic_word.specs.Holds.{Holds}

-- the ids with a line are those with a count
abbrev pub HasKeys : Memory → Type 0
HasKeys m = (id : ℕ) → is_some (map.get m.lines id) ≡ is_some (map.get m.counts id)

-- memories of one layout that hold the same words, and whose lines are lines of one map, are one memory
abbrev pub HoldsTellMemories : Type 0
HoldsTellMemories = (w : ℕ) (m n : Memory) (H : List Word) (whole : Lookup) → IsWidth w → HasKeys m → HasKeys n → m.layout ≡ n.layout
    → Holds w m H → Holds w n H → IsWithin (line_at m) whole → IsWithin (line_at n) whole → m ≡ n
