-- Laws on the room that arrays take in a memory.
use Rattle.std.specs.Prelude.{◌≡◌, ◌↔◌, ℕ, ◌<◌, ◌≤◌, List, [], ◌∷◌, ◌++◌, length}
use Rattle.std.specs.FinMap as map_of
use Rattle.hic_word.specs.declared.Word.{Word}
use Rattle.hic_word.specs.Width.{IsWidth}
use Rattle.hic_word.specs.Lists.{In}
use Rattle.hic_word.specs.Values.{AreValues, Array, IsArray, Ref, Value, arrays_of, pairs}
use Rattle.hic_word.specs.Entries.{LineValue}
use Rattle.hic_word.specs.Lines.{lines}
use Rattle.hic_word.specs.Memory.{Memory, line_at}
use Rattle.hic_word.specs.MemorySteps.{IsNew}
use Rattle.hic_word.specs.Stands.{LineFor, WordFor, WordsFor}
use Rattle.hic_word.specs.Standing.{IsWithin}
use Rattle.hic_word.specs.Balanced.{IsBalanced}
use Rattle.line_room.specs.Room.{LacksRoom, Stores}

-- a memory with as many lines as there can be lacks room for an array of which a line is not there
abbrev pub WholeMemoryLacksRoom : Type 0
WholeMemoryLacksRoom = (w : ℕ) (m : Memory) (H line : List Word) (L : LineValue) (R : List Array) → IsWidth w → IsBalanced w m H
    → map_of.len m.lines ≡ m.layout.cap → IsNew m line → LineFor w (line_at m) line L → In L (lines w R) → LacksRoom w m R

-- a memory that came to store the lines of arrays, and lost none, had room for them
abbrev pub StoredLinesHadRoom : Type 0
StoredLinesHadRoom = (w : ℕ) (m n : Memory) (H : List Word) (R : List Array) → IsWidth w → IsBalanced w n H → map_of.len n.lines ≤ n.layout.cap
    → n.layout.cap ≡ m.layout.cap → IsWithin (line_at m) (line_at n) → ((L : LineValue) → In L (lines w R) → Stores w (line_at n) L) → LacksRoom w m R → ⊥

-- a memory in which a word stands for a reference to an array stores the array's lines
abbrev pub ReferencedLinesAreStored : Type 0
ReferencedLinesAreStored = (w : ℕ) (m : Memory) (H : List Word) (x : Word) (A : Array) (L : LineValue) → IsWidth w → IsBalanced w m H → IsArray A
    → WordFor w (line_at m) x (Ref (pairs A)) → In L (lines w (A ∷ [])) → Stores w (line_at m) L

-- a memory that is balanced for words lacks room for an array exactly where the lines of the arrays that the words
-- reference, and then of the array, are more than the capacity
abbrev pub RoomIsByLines : Type 0
RoomIsByLines = (w : ℕ) (m : Memory) (H : List Word) (vs : List Value) (A : Array) → IsWidth w → IsBalanced w m H → WordsFor w (line_at m) H vs
    → AreValues vs → LacksRoom w m (A ∷ []) ↔ (m.layout.cap < length (lines w (arrays_of vs ++ A ∷ [])))
