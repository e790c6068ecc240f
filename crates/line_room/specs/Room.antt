-- Which line values a memory has, and when arrays find no room in it.
use Rattle.std.specs.Prelude.{ℕ, ◌<◌, ◌⊎◌, List, [], ◌∷◌, length}
use Rattle.hic_word.specs.Lists.{In}
use Rattle.hic_word.specs.Values.{Array}
use Rattle.hic_word.specs.Entries.{LineValue}
use Rattle.hic_word.specs.Canon.{IsMade}
use Rattle.hic_word.specs.Lines.{lines}
use Rattle.hic_word.specs.Memory.{Memory, line_at, width}
use Rattle.hic_word.specs.Stands.{IdFor, Lookup}

-- a line stands for the line value, which is one that `enc` makes
pub record Stores (w : ℕ) (m : Lookup) (L : LineValue) : Type 0 where
  pub id : ℕ
  pub stands : IdFor w m id L
  pub made : IsMade w L

-- no line value is there twice
abbrev pub AreDistinct : List LineValue → Type 0
AreDistinct [] = Unit {0}
AreDistinct (L ∷ Ls) = (In L Ls → ⊥) × AreDistinct Ls

-- more line values than the capacity, none twice, each of which the memory stores or an array of R has
pub record LacksRoom (w : ℕ) (m : Memory) (R : List Array) : Type 0 where
  pub values : List LineValue
  pub distinct : AreDistinct values
  pub each : (L : LineValue) → In L values → Stores w (line_at m) L ⊎ In L (lines w R)
  pub more : m.layout.cap < length values

-- the same for the lines of the memory's own width
abbrev pub LacksRoomFor : Memory → List Array → Type 0
LacksRoomFor m R = LacksRoom (width m) m R
