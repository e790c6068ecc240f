-- Laws on arrays that are put together to one.
use Rattle.std.specs.Prelude.{◌≡◌, ℕ, ◌+◌, ◌-◌, ◌^◌, ◌≤◌, List, [], ◌∷◌, length, map}
use Rattle.std.specs.List.{range_with_len}
use Rattle.hic_word.specs.Width.{greatest}
use Rattle.hic_word.specs.Values.{Array, IsArray, IsBelow}
use Rattle.hic_word.specs.Parts.{part}
use Rattle.hic_word.specs.Canon.{IsPart}

-- arrays that can be put one after another, s offsets each, the first from b on: each is valid and below s, and no offset
-- comes to 2^32 or more, as it could in lines of 8 words at height 11
abbrev pub FitTogether : ℕ → ℕ → List Array → Type 0
FitTogether b s [] = Unit {0}
FitTogether b s (A ∷ As) = (IsArray A × IsBelow s A × IsBelow (2 ^ 32 - b) A) × FitTogether (b + s) s As

-- an array of height h that has these parts
pub record HasParts (w h : ℕ) (As : List Array) : Type 0 where
  pub whole : Array
  pub is_part : IsPart w h whole
  pub parts : map (part w whole h) (range_with_len 0 w) ≡ As

-- as many arrays as a line has words, that fit together, are the parts of an array
abbrev pub ArraysAreParts : Type 0
ArraysAreParts = (w h : ℕ) (As : List Array) → 1 ≤ h → h ≤ greatest w → length As ≡ w → FitTogether 0 (w ^ (h - 1)) As → HasParts w h As

-- each of some arrays is valid and below s
abbrev pub AreBelow : ℕ → List Array → Type 0
AreBelow s [] = Unit {0}
AreBelow s (A ∷ As) = (IsArray A × IsBelow s A) × AreBelow s As

-- at a height with at most 2^32 offsets, as each has in lines of 2 or 4 words, arrays that are below the next lower height
-- fit together
abbrev pub LowArraysFit : Type 0
LowArraysFit = (w h : ℕ) (As : List Array) → 1 ≤ h → w ^ h ≤ 2 ^ 32 → length As ≡ w → AreBelow (w ^ (h - 1)) As → FitTogether 0 (w ^ (h - 1)) As
