-- The pieces of a part above the lowest: the entries of its quarters, and the levels of lines below them.
use Rattle.std.proofs.Common.{◌≡◌, ℕ, zero, suc, ◌+◌, ◌-◌, ◌<◌, ◌≤◌, List, [], ◌∷◌, map, get_or, refl, sym, ◌∙◌, ap, inl, inr, arith}
use Rattle.std.proofs.lemmas.Bool.{cases_eq}
use Rattle.std.specs.List.{range_with_len}
use Rattle.hic_word.specs.declared.Word.{Word}
use Rattle.hic_word.specs.Values.{Array}
use Rattle.hic_word.specs.Entries.{Entry, Named, Pack, Zero, inner}
use Rattle.hic_word.specs.Parts.{part}
use Rattle.hic_word.specs.Canon.{IsPart, enc, sole}
use Rattle.hic_word.specs.FormLaws.{part_entries}
use Rattle.hic_word.specs.Stands.{AnEntry, EntriesFor, EntryFor, Lookup, NoEntries}
use Rattle.hic_word.proofs.callers.Forms.{parts_are_parts}
use Rattle.seg_canon.specs.Folds.{PiecesFor}
use Rattle.seg_canon.specs.Parts.{PartFor, whole_part}
use Rattle.seg_canon.proofs.Filling.{sole_only}
use Rattle.seg_canon.proofs.Opening.{some_entry}
use Rattle.seg_canon.proofs.Pieces.{empty_part, enc_joined, entry_at, joined_path, pack_height, pieces_entries}
use Rattle.seg_read.specs.Levels.{levels, own_line}
use Rattle.seg_read.proofs.Levels.{levels-empty, quarter_low}
use Rattle.seg_write.specs.Puts.{AreEntries, HaveLevels, quarters_of}
use Rattle.seg_write.proofs.Raising.{entries_pieces}

-- a part at its whole height, by its entry
pub entry_part : {m : Lookup} {h : ℕ} {x : Word} {A : Array} → IsPart 4 h A → EntryFor 4 m x (enc 4 h A) → PartFor 4 m (whole_part h x) A
entry_part a e = record { is_part = a; high = omega arith; low = a.low; entry = e }

-- the pieces are the entries of the quarters, and these are the pieces
module _ (m : Lookup) (h : ℕ) (A : Array) where
  entries_from : 2 ≤ h → IsPart 4 h A → (n q : ℕ) (xs : List Word) → EntriesFor 4 m xs (inner (map (λ i. enc 4 (h - 1) (part 4 A h i)) (range_with_len q n))) → AreEntries m (h - 1) xs (map (part 4 A h) (range_with_len q n))
  entries_from high a zero q [] NoEntries = tt
  entries_from high a zero q (x ∷ xs) f = elim f [ ]
  entries_from high a (suc n) q [] f = elim f [ ]
  entries_from high a (suc n) q (x ∷ xs) (AnEntry e es) = (entry_part (parts_are_parts 4 h q A high a).is_part e, entries_from high a n (q + 1) xs es)

  pieces_from : (n q : ℕ) (xs : List Word) → AreEntries m (h - 1) xs (map (part 4 A h) (range_with_len q n)) → EntriesFor 4 m xs (inner (map (λ i. enc 4 (h - 1) (part 4 A h i)) (range_with_len q n)))
  pieces_from zero q [] f = NoEntries
  pieces_from zero q (x ∷ xs) f = absurd f
  pieces_from (suc n) q [] f = absurd f
  pieces_from (suc n) q (x ∷ xs) f = AnEntry f.0.entry (pieces_from n (q + 1) xs f.1)

  pub pieces_are_entries : 2 ≤ h → IsPart 4 h A → (xs : List Word) → PiecesFor 4 m h xs A → AreEntries m (h - 1) xs (quarters_of h A)
  pieces_are_entries high a xs f = entries_from high a 4 0 xs (pieces_entries m h xs A high f)

  pub entries_are_pieces : 2 ≤ h → (xs : List Word) → AreEntries m (h - 1) xs (quarters_of h A) → PiecesFor 4 m h xs A
  entries_are_pieces high xs f = entries_pieces m h xs A high (pieces_from 4 0 xs f)

-- a quarter has no more levels than its part has besides its own line
pub level_below : (h q : ℕ) (A : Array) → 2 ≤ h → q < 4 → IsPart 4 h A → levels (enc 4 (h - 1) (part 4 A h q)) + own_line (enc 4 h A) ≤ levels (enc 4 h A)
level_below h q A high low a = go (enc 4 h A) refl
  where
    es : List Entry
    es = part_entries 4 h A

    go : (e : Entry) → enc 4 h A ≡ e → levels (enc 4 (h - 1) (part 4 A h q)) + own_line e ≤ levels e
    go Zero is = let none = ap (λ B. levels (enc 4 (h - 1) (part 4 B h q))) (empty_part h A a is) ∙ levels-empty (h - 1) in omega (arith, none)
    go (Pack ns) is = let one = pack_height 4 h A ns is in absurd (omega (arith, one, high))
    go (Named L []) is = let less = quarter_low h A L q high is low in omega (arith, less)
    go (Named L (j ∷ p)) is =
        let only = sole_only es j (Named L p) (joined_path (sole es) es L j p (sym (enc_joined 4 h A high (some_entry 4 h A (Named L (j ∷ p)) is (λ z. cc))) ∙ is)) in
        elim (cases_eq q j) [
          | inl same ↦ let all = ap levels (sym (entry_at h A q low) ∙ ap (λ i. get_or es i Zero) same ∙ only.0) in omega (arith, all)
          | inr other ↦ let none = ap levels (sym (entry_at h A q low) ∙ only.1 q other) in omega (arith, none)
        ]

pub levels_below : (h : ℕ) (A : Array) → 2 ≤ h → IsPart 4 h A → HaveLevels (levels (enc 4 h A) - own_line (enc 4 h A)) (h - 1) (quarters_of h A)
levels_below h A high a =
    let one : (q : ℕ) → q < 4 → levels (enc 4 (h - 1) (part 4 A h q)) ≤ levels (enc 4 h A) - own_line (enc 4 h A) = λ q low. (let less = level_below h q A high low a in omega (arith, less)) in
    (one 0 (omega arith), (one 1 (omega arith), (one 2 (omega arith), (one 3 (omega arith), tt))))
