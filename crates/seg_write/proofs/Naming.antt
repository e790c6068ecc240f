-- Lines that an array has with a part's entry: those of the entries of the part's quarters too.
use Rattle.std.proofs.Common.{◌≡◌, ◌≢◌, ℕ, zero, suc, ◌-◌, ◌<◌, ◌≤◌, List, [], ◌∷◌, map, get_or, refl, sym, ◌∙◌, ap, subst, inl, inr, arith}
use Rattle.std.proofs.lemmas.Bool.{cases_eq}
use Rattle.hic_word.specs.Width.{four_wide}
use Rattle.hic_word.specs.Lists.{In}
use Rattle.hic_word.specs.Values.{Array, IsArray}
use Rattle.hic_word.specs.Entries.{Entry, Inner, LineValue, Named, Pack, Zero, entries-inner, inner}
use Rattle.hic_word.specs.Parts.{part}
use Rattle.hic_word.specs.Canon.{AllZero, Alone, Several, Sole, enc, joined, sole}
use Rattle.hic_word.specs.FormLaws.{part_entries}
use Rattle.hic_word.specs.Lines.{children, found, line_of_entry, lines}
use Rattle.hic_word.proofs.callers.Lines.{found_here, found_later}
use Rattle.line_room.proofs.ArrayLines.{child_in, lines_visit, visit_lines}
use Rattle.seg_canon.proofs.Filling.{sole_only}
use Rattle.seg_canon.proofs.Pieces.{enc-empty, enc_joined, entry_at}
use Rattle.seg_write.specs.Gains.{HasNamed, HaveNamed}
use Rattle.seg_write.specs.Puts.{quarters_of}

-- no line is named by the entry of an empty part
pub none_named : (h : ℕ) (A : Array) (R : List Array) → A ≡ [] → HasNamed (enc 4 h A) R
none_named h A R none L p e = let zero = ap (enc 4 h) none ∙ enc-empty 4 h in cc

found_at : (es : List Entry) (q : ℕ) (L : LineValue) (p : List ℕ) → get_or es q Zero ≡ Named L p → In L (found (map line_of_entry es))
found_at [] q L p e = cc
found_at (d ∷ es) zero L p e = found_here L (line_of_entry d) (map line_of_entry es) (ap line_of_entry e)
found_at (d ∷ es) (suc q) L p e = found_later L (line_of_entry d) (map line_of_entry es) (found_at es q L p e)

module _ (h : ℕ) (A C : Array) (high : 2 ≤ h) (whole : IsArray C) (named : HasNamed (enc 4 h A) (C ∷ [])) where
  some_named : (q : ℕ) → q < 4 → A ≢ [] → HasNamed (enc 4 (h - 1) (part 4 A h q)) (C ∷ [])
  some_named q low some L p e = go (sole es) refl
    where
      es : List Entry
      es = part_entries 4 h A

      this : get_or es q Zero ≡ Named L p
      this = entry_at h A q low ∙ e

      line : joined (sole es) es ≡ Named (Inner (inner es)) [] → In L (lines 4 (C ∷ []))
      line is =
          let top : In (Inner (inner es)) (lines 4 (C ∷ [])) = named (Inner (inner es)) [] (enc_joined 4 h A high some ∙ is) in
          let child : In L (children 4 (Inner (inner es))) = subst (λ ds. In L (found (map line_of_entry ds))) (sym (entries-inner es)) (found_at es q L p this) in
          visit_lines 4 C L (child_in four_wide C (Inner (inner es)) L whole (lines_visit 4 C (Inner (inner es)) top) child)

      go : (s : Sole) → sole es ≡ s → In L (lines 4 (C ∷ []))
      go AllZero s = line (ap (λ t. joined t es) s)
      go (Alone j Zero) s = line (ap (λ t. joined t es) s)
      go (Alone j (Pack ns)) s = line (ap (λ t. joined t es) s)
      go Several s = line (ap (λ t. joined t es) s)
      go (Alone j (Named K o)) s =
          let only = sole_only es j (Named K o) s in
          elim (cases_eq q j) [
            | inl same ↦
                let one : Named K o ≡ Named L p = sym only.0 ∙ ap (λ i. get_or es i Zero) (sym same) ∙ this in
                let value : K ≡ L = cc in
                subst (λ M. In M (lines 4 (C ∷ []))) value (named K (j ∷ o) (enc_joined 4 h A high some ∙ ap (λ t. joined t es) s))
            | inr other ↦ let bad : Zero ≡ Named L p = sym (only.1 q other) ∙ this in cc
          ]

  quarter_named : (q : ℕ) → q < 4 → (B : Array) → A ≡ B → HasNamed (enc 4 (h - 1) (part 4 A h q)) (C ∷ [])
  quarter_named q low [] none = none_named (h - 1) (part 4 A h q) (C ∷ []) (ap (λ B. part 4 B h q) none)
  quarter_named q low (c ∷ B) some = some_named q low (λ none. cc)

  pub quarters_named : HaveNamed (h - 1) (quarters_of h A) (C ∷ [])
  quarters_named = (quarter_named 0 (omega arith) A refl, (quarter_named 1 (omega arith) A refl, (quarter_named 2 (omega arith) A refl, (quarter_named 3 (omega arith) A refl, tt))))
