-- What a memory stores that it did not store before.
use Rattle.std.specs.Prelude.{◌≡◌, ◌⊎◌, ℕ, List, [], ◌∷◌, ◌++◌}
use Rattle.hic_word.specs.declared.Word.{Word}
use Rattle.hic_word.specs.Lists.{In}
use Rattle.hic_word.specs.Values.{Array}
use Rattle.hic_word.specs.Entries.{Entry, LineValue, Named}
use Rattle.hic_word.specs.Canon.{enc}
use Rattle.hic_word.specs.Lines.{lines}
use Rattle.hic_word.specs.Memory.{Memory, line_at}
use Rattle.hic_word.specs.Holds.{Holds}
use Rattle.hic_word.specs.Standing.{IsWithin}
use Rattle.line_room.specs.Room.{Stores}
use Rattle.line_room.specs.MemoryLaws.{HasKeys}

-- each line value that the later memory stores was stored before, or an array of R has it
abbrev pub GainsOnly : Memory → Memory → List Array → Type 0
GainsOnly old new R = (L : LineValue) → Stores 4 (line_at new) L → Stores 4 (line_at old) L ⊎ In L (lines 4 R)

-- an array of R has the line that the entry names, if it names one
abbrev pub HasNamed : Entry → List Array → Type 0
HasNamed e R = (L : LineValue) (p : List ℕ) → e ≡ Named L p → In L (lines 4 R)

-- the same for the entries of parts of a height
abbrev pub HaveNamed : ℕ → List Array → List Array → Type 0
HaveNamed h [] R = Unit {0}
HaveNamed h (A ∷ As) R = HasNamed (enc 4 h A) R × HaveNamed h As R

-- words were held that an earlier memory did not hold, which held the others and lost no line on the way
pub record Grew (before m : Memory) (words held : List Word) : Type 0 where
  pub held_before : Holds 4 before held
  pub held_now : Holds 4 m (words ++ held)
  pub lines : IsWithin (line_at before) (line_at m)
  pub keys : HasKeys before
  pub layout : before.layout ≡ m.layout
