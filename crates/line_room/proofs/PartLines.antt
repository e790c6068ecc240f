-- The lines of a part are lines of the array.
use Rattle.std.proofs.Common.{◌≡◌, ℕ, zero, suc, ◌+◌, ◌-◌, ◌^◌, ◌<◌, ◌≤◌, List, [], ◌∷◌, refl, sym, ◌∙◌, ap, subst, inl, inr, arith}
use Rattle.std.proofs.Math.Nat.{pow-le-pow_right}
use Rattle.std.proofs.lemmas.Bool.{cases_lt}
use Rattle.hic_word.specs.Width.{IsWidth, greatest}
use Rattle.hic_word.specs.Lists.{In}
use Rattle.hic_word.specs.Values.{Array, IsBelow}
use Rattle.hic_word.specs.Entries.{Entry, LineValue, Named, Pack, Zero}
use Rattle.hic_word.specs.Parts.{part}
use Rattle.hic_word.specs.Heights.{height}
use Rattle.hic_word.specs.Canon.{IsPart, enc, root_entry}
use Rattle.hic_word.specs.FormLaws.{raised}
use Rattle.hic_word.specs.Lines.{line_of_entry, reach, visit, visit_from}
use Rattle.hic_word.proofs.callers.Slices.{IsBelow-more, first_part, later_part}
use Rattle.hic_word.proofs.callers.Forms.{heights_are_least, entries_are_raised, parts_are_parts, two_words}
use Rattle.line_room.specs.PartLaws.{PartsHaveLines}
use Rattle.line_room.proofs.ArrayLines.{child_in, lines_visit, visit_lines, visits_in}
use Rattle.line_room.proofs.EntryLines.{entry_in}

-- a part of one height is one of the next, and where its entry names a line, its entry at each greater height names that line
pub next_part : (w j : ℕ) (B : Array) → 1 ≤ w → suc j ≤ greatest w → IsPart w j B → IsPart w (suc j) B
next_part w j B some low b =
    let more : w ^ j ≤ w ^ suc j = pow-le-pow_right some (omega arith) in
    record { positive = omega arith; low = low; valid = b.valid; below = IsBelow-more (w ^ j) (w ^ suc j) B more b.below }

pub raised_names : {w : ℕ} → IsWidth w → (n j : ℕ) (B : Array) (K : LineValue) (p : List ℕ) → n + j ≤ greatest w → IsPart w j B → enc w j B ≡ Named K p → (o : List ℕ) × (enc w (n + j) B ≡ Named K o)
raised_names {w} width zero j B K p low b e = let same : j ≡ zero + j = omega arith in (p, ap (λ h. enc w h B) (sym same) ∙ e)
raised_names {w} width (suc n) j B K p low b e =
    let two = two_words width in
    let same : n + suc j ≡ suc n + j = omega arith in
    let longer : enc w (suc j) B ≡ Named K (0 ∷ p) = entries_are_raised w j B width b ∙ ap (raised w) e in
    let (o, is) = raised_names width n (suc j) B K (0 ∷ p) (omega (arith, low)) (next_part w j B (omega (arith, two)) (omega (arith, low)) b) longer in
    (o, ap (λ h. enc w h B) (sym same) ∙ is)

-- the line that the root of a part names is the one that its entry names
root_named : {w : ℕ} → IsWidth w → (h : ℕ) (B : Array) (K : LineValue) (p : List ℕ) → IsPart w h B → root_entry w B ≡ Named K p → (o : List ℕ) × (enc w h B ≡ Named K o)
root_named {w} width h B K p b e =
    let own = heights_are_least w B width b.valid in
    let less : height w B ≤ h = own.least h b.positive b.below in
    let same : h - height w B + height w B ≡ h = omega (arith, less) in
    let fits : h - height w B + height w B ≤ greatest w = let low = b.low in omega (arith, low, same) in
    let (o, is) = raised_names width (h - height w B) (height w B) B K p fits (record { positive = some (height w B) e; low = own.low; valid = b.valid; below = own.room }) e in
    (o, ap (λ n. enc w n B) (sym same) ∙ is)
  where
    some : (n : ℕ) → enc w n B ≡ Named K p → 1 ≤ n
    some zero e = cc
    some (suc n) e = omega arith

-- a visit of an array that ends within its first part is that of this part, and its other parts have no line
low_parts : (w h q : ℕ) (A : Array) (L : LineValue) → IsBelow (w ^ (h - 1)) A → In L (visit w (part w A h q)) → In L (visit w A)
low_parts w h zero A L b i = subst (λ B. In L (visit w B)) (first_part w h A b) i
low_parts w h (suc q) A L b i = absurd (none (height w []) (subst (λ B. In L (visit w B)) (later_part w h (suc q) A (omega arith) b) i))
  where
    none : (n : ℕ) → In L (visit_from w (reach []) (line_of_entry (enc w n []))) → ⊥
    none zero i = i
    none (suc zero) i = i
    none (suc (suc n)) i = i

-- if the parts are those of the array's own height, the visit of a part begins at the line that its entry names; the
-- array's visit has that line, and so all that the part's visit reaches
high_parts : {w : ℕ} → IsWidth w → (h q : ℕ) (A : Array) (L : LineValue) → 2 ≤ h → q < w → IsPart w h A → height w A ≡ h → In L (visit w (part w A h q)) → In L (visit w A)
high_parts {w} width h q A L high place a at i = go (root_entry w (part w A h q)) refl i
  where
    go : (e : Entry) → root_entry w (part w A h q) ≡ e → In L (visit_from w (reach (part w A h q)) (line_of_entry e)) → In L (visit w A)
    go Zero e i = absurd i
    go (Pack ns) e i = absurd i
    go (Named K p) e i =
        let (o, is) = root_named width (h - 1) (part w A h q) K p (parts_are_parts w h q A high a).is_part e in
        visits_in w (reach (part w A h q)) K L (visit w A) (λ N M. child_in width A N M a.valid) (entry_in width h q A K o high place a.valid at is) i

pub parts_have_lines : PartsHaveLines
parts_have_lines w h q A L width high place a i =
    let own = heights_are_least w A width a.valid in
    let two = two_words width in
    let inside = lines_visit w (part w A h q) L i in
    visit_lines w A L (elim (cases_lt (height w A) h) [
      | inl less ↦
          let more : w ^ height w A ≤ w ^ (h - 1) = pow-le-pow_right (omega (arith, two)) (omega (arith, less)) in
          low_parts w h q A L (IsBelow-more (w ^ height w A) (w ^ (h - 1)) A more own.room) inside
      | inr reached ↦
          let low : height w A ≤ h = own.least h a.positive a.below in
          high_parts width h q A L high place a (omega (arith, low, reached)) inside
    ])
