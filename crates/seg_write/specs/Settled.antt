-- What a part's height and line tell of its array.
use Rattle.std.specs.Prelude.{◌≡◌, ◌⊎◌, ℕ, List, [], Option, Some, None}
use Rattle.hic_word.specs.declared.Word.{Word}
use Rattle.hic_word.specs.Values.{Array}
use Rattle.hic_word.specs.Entries.{Pack}
use Rattle.hic_word.specs.Heights.{height}
use Rattle.hic_word.specs.Canon.{enc}
use Rattle.hic_word.specs.Stands.{pack_bits}
use Rattle.seg_canon.specs.declared.parts.Part.{Part}

-- the array is packed; as a part of height 2 it has a line, which the array itself has not
pub record IsRaised (p : Part) (A : Array) : Type 0 where
  pub top : p.top ≡ 2
  pub at : p.at ≡ 2
  pub low : height 4 A ≡ 1
  pub numbers : List ℕ
  pub packed : enc 4 1 A ≡ Pack numbers

-- the part is empty, or has the height of its array, or is a packed array raised to height 2
abbrev pub IsSettled : Part → Array → Type 0
IsSettled p A = (A ≡ []) ⊎ (height 4 A ≡ p.top) ⊎ IsRaised p A

-- the packed entry of an array of height 1; none where the height is 2
abbrev pub LoneFor : Option Word → Array → Type 0
LoneFor None A = height 4 A ≡ 2
LoneFor (Some word) A = (height 4 A ≡ 1) × (ns : List ℕ) × (enc 4 1 A ≡ Pack ns) × (word.bits ≡ pack_bits 4 ns)
