-- What is within a part, and the looks at it.
use Rattle.std.specs.Prelude.{◌≡◌, ℕ, zero, suc, ◌+◌, ◌-◌, ◌<◌, ◌≤◌, Bool, true, false, eqb}
use Rattle.hic_word.specs.declared.Kind.TheVariants.{Num}
use Rattle.hic_word.specs.declared.Word.{Word}
use Rattle.hic_word.specs.Values.{Array, at}
use Rattle.hic_word.specs.Parts.{part}
use Rattle.hic_word.specs.Canon.{enc}
use Rattle.hic_word.specs.Stands.{Lookup, WordFor, word_of}
use Rattle.seg_canon.specs.declared.parts.Part.{Part}
use Rattle.seg_canon.specs.Parts.{PartFor, whole_part}
use Rattle.seg_canon.specs.Raises.{raises}
use Rattle.seg_read.specs.Founds.{word_in}
use Rattle.seg_read.specs.Levels.{own_line}
use Rattle.seg_changes.specs.declared.within.Within.{Within}
use Rattle.seg_changes.specs.declared.within.Within.TheVariants.{Entries, Nothing, Only, Words}

-- the number 0, which is also the entry of an empty part
abbrev pub zero_word : Word
zero_word = word_of Num 0 0

-- the word at place i of a lowest part
abbrev pub word_within : Within → ℕ → Word
word_within Nothing i = zero_word
word_within (Words words) i = word_in words i
word_within (Only q r) i = zero_word
word_within (Entries es) i = zero_word

abbrev pub this_if : Bool → Part → Part → Part
this_if true p r = p
this_if false p r = r

-- the quarter at place i, the quarters having height h
abbrev pub quarter_within : Within → ℕ → ℕ → Part
quarter_within Nothing h i = whole_part h zero_word
quarter_within (Words words) h i = whole_part h zero_word
quarter_within (Only q r) h i = this_if (eqb q i) r (whole_part h zero_word)
quarter_within (Entries es) h i = whole_part h (word_in es i)

-- it is within a part of height h that stands for an array
pub record WithinFor (m : Lookup) (h : ℕ) (w : Within) (A : Array) : Type 0 where
  pub words : h ≡ 1 → (i : ℕ) → i < 4 → WordFor 4 m (word_within w i) (at A i)
  pub quarters : 2 ≤ h → (i : ℕ) → i < 4 → PartFor 4 m (quarter_within w (h - 1) i) (part 4 A h i)
  pub heights : 2 ≤ h → (i : ℕ) → i < 4 → (quarter_within w (h - 1) i).top ≡ h - 1

-- the lines that it takes to raise n quarters of height h, from place i on
abbrev pub raises_from : Within → ℕ → ℕ → ℕ → ℕ
raises_from w h i zero = 0
raises_from w h i (suc n) = raises (quarter_within w h i) + raises_from w h (i + 1) n

-- from `old` to `new` looks: one where the part has a line of its own, and none where it would take a line to be raised
pub record LooksInside (p : Part) (A : Array) (old new : ℕ) : Type 0 where
  pub more : old ≤ new
  pub whole : raises p ≡ 0 → new ≡ old + own_line (enc 4 p.top A)
  pub packed : 1 ≤ raises p → new ≤ old
