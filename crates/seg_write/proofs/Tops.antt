-- The last three quarters of an array at a height: whether it reaches that height.
use Rattle.std.proofs.Common.{◌≡◌, ℕ, zero, suc, ◌-◌, ◌<◌, ◌≤◌, List, [], ◌∷◌, ◌++◌, length, drop, get_or, slice_set, take, refl, sym, ◌∙◌, ap, subst, inl, inr, arith}
use Rattle.std.proofs.lemmas.Bool.{cases_lt}
use Rattle.hic_word.specs.Width.{four_wide}
use Rattle.hic_word.specs.declared.Kind.TheVariants.{Num}
use Rattle.hic_word.specs.declared.Word.{Word}
use Rattle.hic_word.specs.Lists.{times}
use Rattle.hic_word.specs.Values.{Array}
use Rattle.hic_word.specs.Heights.{height}
use Rattle.hic_word.specs.Parts.{part}
use Rattle.hic_word.specs.Canon.{IsPart, enc}
use Rattle.hic_word.specs.Holds.{Holds}
use Rattle.hic_word.specs.Memory.{Memory, line_at}
use Rattle.hic_word.specs.Names.{named_id, names_in}
use Rattle.hic_word.specs.Stands.{Lookup, word_of}
use Rattle.hic_word.proofs.callers.Holds.{holding_is_by_counts, names-none}
use Rattle.hic_word.proofs.callers.Forms.{heights_are_least}
use Rattle.line_room.specs.MemoryLaws.{HasKeys}
use Rattle.line_room.proofs.Alike.{holds_tell_memories}
use Rattle.line_room.proofs.ArrayLines.{roots_have_lines}
use Rattle.seg_canon.proofs.Opening.{part_empty, part_zero}
use Rattle.seg_write.proofs.Fours.{four}
use Rattle.seg_canon.proofs.Pieces.{other_quarters}
use Rattle.seg_read.specs.Levels.{levels}
use Rattle.seg_read.proofs.Levels.{levels-empty, levels_low}
use Rattle.seg_write.specs.Gains.{HasNamed, HaveNamed}
use Rattle.seg_write.specs.Puts.{AreEntries, HaveLevels}
use Rattle.seg_write.specs.Trades.{Passes}
use Rattle.seg_write.proofs.Naming.{none_named, quarters_named}
use Rattle.seg_write.proofs.Settling.{only_first}

-- the quarters of an array past the first
abbrev pub later_quarters : ℕ → Array → List Array
later_quarters h A = part 4 A h 1 ∷ part 4 A h 2 ∷ part 4 A h 3 ∷ []

-- words that are all 0, and arrays that are all empty
abbrev pub AreZeros : List Word → Type 0
AreZeros [] = Unit {0}
AreZeros (x ∷ xs) = (x ≡ word_of Num 0 0) × AreZeros xs

abbrev pub AreEmpty : List Array → Type 0
AreEmpty [] = Unit {0}
AreEmpty (A ∷ As) = (A ≡ []) × AreEmpty As

pub zeros_empty : (m : Lookup) (k : ℕ) (xs : List Word) (As : List Array) → AreEntries m k xs As → AreZeros xs → AreEmpty As
zeros_empty m k [] [] f z = tt
zeros_empty m k [] (A ∷ As) f z = absurd f
zeros_empty m k (x ∷ xs) [] f z = absurd f
zeros_empty m k (x ∷ xs) (A ∷ As) f z = (part_empty f.0 z.0, zeros_empty m k xs As f.1 z.1)

pub empty_zeros : (m : Lookup) (k : ℕ) (xs : List Word) (As : List Array) → AreEntries m k xs As → AreEmpty As → AreZeros xs
empty_zeros m k [] [] f z = tt
empty_zeros m k [] (A ∷ As) f z = absurd f
empty_zeros m k (x ∷ xs) [] f z = absurd f
empty_zeros m k (x ∷ xs) (A ∷ As) f z = (part_zero f.0 z.0, empty_zeros m k xs As f.1 z.1)

pub empty_named : (k : ℕ) (As R : List Array) → AreEmpty As → HaveNamed k As R
empty_named k [] R z = tt
empty_named k (A ∷ As) R z = (none_named k A R z.0, empty_named k As R z.1)

pub empty_levels : (n k : ℕ) (As : List Array) → AreEmpty As → HaveLevels n k As
empty_levels n k [] z = tt
empty_levels n k (A ∷ As) z = (let none = ap (λ B. levels (enc 4 k B)) z.0 ∙ levels-empty k in omega (arith, none), empty_levels n k As z.1)

pub low_levels : (k : ℕ) (As : List Array) → HaveLevels k k As
low_levels k [] = tt
low_levels k (A ∷ As) = (levels_low k A, low_levels k As)

module _ (h : ℕ) (A : Array) (high : 2 ≤ h) (a : IsPart 4 h A) where
  -- an array that reaches the height has the line of its entry
  pub top_named : height 4 A ≡ h → HasNamed (enc 4 h A) (A ∷ [])
  top_named tall L p e = roots_have_lines 4 A L p four_wide a.valid (ap (λ k. enc 4 k A) tall ∙ e)

  -- one that does not has no word there
  low_empty : height 4 A < h → AreEmpty (later_quarters h A)
  low_empty low =
      let none = other_quarters four_wide h (height 4 A) A (omega (arith, low)) (heights_are_least 4 A four_wide a.valid).room in
      (none 1 (λ e. cc), (none 2 (λ e. cc), (none 3 (λ e. cc), tt)))

  reaches : (AreEmpty (later_quarters h A) → ⊥) → height 4 A ≡ h
  reaches more =
      let less : height 4 A ≤ h = (heights_are_least 4 A four_wide a.valid).least h a.positive a.below in
      elim (cases_lt (height 4 A) h) [ inl low ↦ absurd (more (low_empty low)) | inr reached ↦ omega (arith, less, reached) ]

  pub later_reach : (m : Lookup) (k : ℕ) (xs : List Word) → AreEntries m k xs (later_quarters h A) → (AreZeros xs → ⊥) → height 4 A ≡ h
  later_reach m k xs f more = reaches (λ z. more (empty_zeros m k xs (later_quarters h A) f z))

  -- an array with no word there is its first quarter
  pub first_alone : AreEmpty (later_quarters h A) → part 4 A h 0 ≡ A
  first_alone z = only_first h A a (others z)
    where
      others : AreEmpty (later_quarters h A) → (i : ℕ) → i < 4 → (i ≡ 0 → ⊥) → part 4 A h i ≡ []
      others z zero low n = absurd (n refl)
      others z (suc zero) low n = z.0
      others z (suc (suc zero)) low n = z.1.0
      others z (suc (suc (suc zero))) low n = z.1.1.0
      others z (suc (suc (suc (suc i)))) low n = absurd (omega (arith, low))

  -- in any case the array has the lines that these quarters name, of which none is as high as the array
  pub later_named : HaveNamed (h - 1) (later_quarters h A) (A ∷ [])
  later_named = elim (cases_lt (height 4 A) h) [
    | inl low ↦ empty_named (h - 1) (later_quarters h A) (A ∷ []) (low_empty low)
    | inr reached ↦
        let less : height 4 A ≤ h = (heights_are_least 4 A four_wide a.valid).least h a.positive a.below in
        (quarters_named h A A high a.valid (top_named (omega (arith, less, reached)))).1
  ]

  pub later_levels : HaveLevels (height 4 A - 1) (h - 1) (later_quarters h A)
  later_levels = elim (cases_lt (height 4 A) h) [
    | inl low ↦ empty_levels (height 4 A - 1) (h - 1) (later_quarters h A) (low_empty low)
    | inr reached ↦
        let less : height 4 A ≤ h = (heights_are_least 4 A four_wide a.valid).least h a.positive a.below in
        let same : h - 1 ≡ height 4 A - 1 = omega (arith, less, reached) in
        subst (λ n. HaveLevels n (h - 1) (later_quarters h A)) same (low_levels (h - 1) (later_quarters h A))
  ]

-- words 0 name nothing: a memory that came to hold them alone is as before
zeros_held : (j : ℕ) (xs held : List Word) → AreZeros xs → times j (names_in (xs ++ held)) ≡ times j (names_in held)
zeros_held j [] held z = refl
zeros_held j (x ∷ xs) held z = names-none j x (xs ++ held) (ap named_id z.0) ∙ zeros_held j xs held z.1

pub nothing_taken : (old mid : Memory) (xs held : List Word) → HasKeys old → HasKeys mid → Holds 4 old held → Passes old mid [] xs → AreZeros xs → mid ≡ old
nothing_taken old mid xs held keys mid_keys h taken z =
    holds_tell_memories 4 mid old held (line_at mid) four_wide mid_keys keys taken.layout (holding_is_by_counts 4 mid (xs ++ held) held (λ j. zeros_held j xs held z) (taken.holds held h)) h (λ id line e. e) taken.lines

-- the last three of four words
pub later_zeros : (words : List Word) (d : Word) → length words ≡ 4 → get_or words 1 d ≡ word_of Num 0 0 → get_or words 2 d ≡ word_of Num 0 0 → get_or words 3 d ≡ word_of Num 0 0 → AreZeros (drop 1 words)
later_zeros words d long a b c = subst (λ ws. AreZeros (drop 1 ws)) (four words d long) (a, (b, (c, tt)))

pub zeros_later : (words : List Word) (d : Word) → length words ≡ 4 → AreZeros (drop 1 words) → (get_or words 1 d ≡ word_of Num 0 0) × (get_or words 2 d ≡ word_of Num 0 0) × (get_or words 3 d ≡ word_of Num 0 0)
zeros_later words d long z = let tests = subst (λ ws. AreZeros (drop 1 ws)) (sym (four words d long)) z in (tests.0, tests.1.0, tests.1.1.0)

-- the first of four words is set before them
pub set_first : (words : List Word) (x : Word) → length words ≡ 4 → slice_set words 0 x ≡ x ∷ drop 1 words
set_first [] x long = absurd (omega (arith, long))
set_first (y ∷ words) x long = refl

pub last_three : (words : List Word) → length words ≡ 4 → take 3 (drop 1 words) ≡ drop 1 words
last_three [] long = absurd (omega (arith, long))
last_three (a ∷ []) long = absurd (omega (arith, long))
last_three (a ∷ b ∷ []) long = absurd (omega (arith, long))
last_three (a ∷ b ∷ c ∷ []) long = absurd (omega (arith, long))
last_three (a ∷ b ∷ c ∷ d ∷ []) long = refl
last_three (a ∷ b ∷ c ∷ d ∷ e ∷ words) long = absurd (omega (arith, long))
