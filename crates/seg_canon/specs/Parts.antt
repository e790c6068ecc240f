-- What parts stand for.
use Rattle.std.specs.Prelude.{ℕ, ◌+◌, ◌≤◌, List, [], ◌∷◌}
use Rattle.hic_word.specs.declared.Word.{Word}
use Rattle.hic_word.specs.Width.{greatest}
use Rattle.hic_word.specs.Values.{Array}
use Rattle.hic_word.specs.Parts.{part}
use Rattle.hic_word.specs.Canon.{IsPart, enc}
use Rattle.hic_word.specs.Stands.{EntryFor, Lookup}
use Rattle.seg_canon.specs.declared.parts.Part.{Part}

-- a part stands for an array of offsets below w ^ at, where `at` is at most `top` and need not be the least such height
pub record PartFor (w : ℕ) (m : Lookup) (p : Part) (A : Array) : Type 0 where
  pub is_part : IsPart w p.at A
  pub high : p.at ≤ p.top
  pub low : p.top ≤ greatest w
  pub entry : EntryFor w m p.entry (enc w p.at A)

-- the part of a height that an entry is of
abbrev pub whole_part : ℕ → Word → Part
whole_part h word = record { top = h; at = h; entry = word }

-- parts stand for the parts, from q on, of an array of a height
abbrev pub QuartersFor : ℕ → Lookup → ℕ → Array → ℕ → List Part → Type 0
QuartersFor w m h A q [] = Unit {0}
QuartersFor w m h A q (p ∷ ps) = PartFor w m p (part w A h q) × QuartersFor w m h A (q + 1) ps
