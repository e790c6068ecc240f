-- The line that the entry of a part names is a line of the array.
use Rattle.std.proofs.Common.{◌≡◌, ℕ, zero, suc, ◌+◌, ◌-◌, ◌<◌, ◌≤◌, true, List, [], ◌∷◌, map, refl, sym, ◌∙◌, ap, subst, inl, inr, ◌⊎◌, arith}
use Rattle.std.proofs.lemmas.Bool.{cases_lt}
use Rattle.std.specs.List.{range_with_len}
use Rattle.hic_word.specs.Width.{IsWidth}
use Rattle.hic_word.specs.Lists.{In}
use Rattle.hic_word.specs.Values.{Array, IsArray}
use Rattle.hic_word.specs.Entries.{Entry, Inner, LineValue, Named, Pack, Zero, entries-inner, inner}
use Rattle.hic_word.specs.Parts.{part}
use Rattle.hic_word.specs.Heights.{height}
use Rattle.hic_word.specs.Canon.{AllZero, Alone, Several, Sole, all_zero, enc, joined, sole}
use Rattle.hic_word.specs.FormLaws.{part_entries}
use Rattle.hic_word.specs.Lines.{children, found, line_of_entry, visit}
use Rattle.hic_word.proofs.callers.Lines.{found_here, found_later}
use Rattle.hic_word.proofs.callers.Forms.{heights_are_least, alone-alone, next-alone}
use Rattle.hic_word.proofs.callers.Slices.{parts_are_joined}
use Rattle.line_room.specs.PartLaws.{EntriesHaveLines}
use Rattle.line_room.proofs.ArrayLines.{child_in, root_in, visit_lines}

-- where one entry alone is not `Zero`, an entry that is not `Zero` is that one
zero_in : (es : List Entry) (d : Entry) → all_zero es ≡ true → In d es → d ≡ Zero
zero_in [] d z h = absurd h
zero_in (Zero ∷ es) d z (inl e) = sym e
zero_in (Zero ∷ es) d z (inr h) = zero_in es d z h
zero_in (Pack ns ∷ es) d z h = cc
zero_in (Named L p ∷ es) d z h = cc

sole_in : (es : List Entry) (q : ℕ) (e d : Entry) → sole es ≡ Alone q e → In d es → (d ≡ Zero → ⊥) → d ≡ e
sole_in [] q e d s h some = absurd h
sole_in (Zero ∷ es) q e d s (inl z) some = absurd (some (sym z))
sole_in (Zero ∷ es) q e d s (inr h) some = let (r, was, is) = next-alone (sole es) q e s in sole_in es r e d was h some
sole_in (Pack ns ∷ es) q e d s h some = let (zeros, same, is) = alone-alone (all_zero es) (Pack ns) q e s in elim h [ inl f ↦ sym f ∙ same | inr k ↦ absurd (some (zero_in es d zeros k)) ]
sole_in (Named L p ∷ es) q e d s h some = let (zeros, same, is) = alone-alone (all_zero es) (Named L p) q e s in elim h [ inl f ↦ sym f ∙ same | inr k ↦ absurd (some (zero_in es d zeros k)) ]

-- where one of several entries names a line, what is joined from them names that line, or a line that names it
named_found : (es : List Entry) (L : LineValue) (p : List ℕ) → In (Named L p) es → In L (found (map line_of_entry es))
named_found [] L p h = absurd h
named_found (e ∷ es) L p (inl f) = found_here L (line_of_entry e) (map line_of_entry es) (ap line_of_entry f)
named_found (e ∷ es) L p (inr h) = found_later L (line_of_entry e) (map line_of_entry es) (named_found es L p h)

joined_names : (w : ℕ) (es : List Entry) (L : LineValue) (p : List ℕ) → In (Named L p) es → (K : LineValue) × (o : List ℕ) × (joined (sole es) es ≡ Named K o) × ((K ≡ L) ⊎ In L (children w K))
joined_names w es L p h = go (sole es) refl
  where
    inside : In L (children w (Inner (inner es)))
    inside = subst (λ ds. In L (found (map line_of_entry ds))) (sym (entries-inner es)) (named_found es L p h)

    go : (s : Sole) → sole es ≡ s → (K : LineValue) × (o : List ℕ) × (joined s es ≡ Named K o) × ((K ≡ L) ⊎ In L (children w K))
    go AllZero e = (Inner (inner es), [], refl, inr inside)
    go (Alone q Zero) e = (Inner (inner es), [], refl, inr inside)
    go (Alone q (Pack ns)) e = (Inner (inner es), [], refl, inr inside)
    go (Alone q (Named K o)) e = let same = sole_in es q (Named K o) (Named L p) e h (λ z. cc) in (K, q ∷ o, refl, inl cc)
    go Several e = (Inner (inner es), [], refl, inr inside)

-- what is made of a number of a range is among what is made of all
range_in : (f : ℕ → Entry) (first count q : ℕ) → first ≤ q → q < first + count → In (f q) (map f (range_with_len first count))
range_in f first zero q low high = absurd (omega arith)
range_in f first (suc count) q low high = elim (cases_lt first q) [
  | inl more ↦ inr (range_in f (first + 1) count q (omega arith) (omega arith))
  | inr here ↦ let same : first ≡ q = omega arith in inl (ap f same)
]

-- the visit of an array has the line that the entry of a part names, if the parts are those of the array's own height
pub entry_in : {w : ℕ} → IsWidth w → (h q : ℕ) (A : Array) (L : LineValue) (p : List ℕ) → 2 ≤ h → q < w → IsArray A → height w A ≡ h → enc w (h - 1) (part w A h q) ≡ Named L p → In L (visit w A)
entry_in {w} width h q A L p high place a at e =
    let es = part_entries w h A in
    let here : In (Named L p) es = subst (λ d. In d es) e (range_in (λ q. enc w (h - 1) (part w A h q)) 0 w q (omega arith) (omega arith)) in
    let (K, o, is, names) = joined_names w es L p here in
    let some = λ (n : A ≡ []). let none = (heights_are_least w A width a).empty n in absurd (omega (arith, none, at, high)) in
    let top : In K (visit w A) = root_in width A K o a (ap (λ n. enc w n A) at ∙ parts_are_joined w h A high some ∙ is) in
    elim names [ inl same ↦ subst (λ N. In N (visit w A)) same top | inr child ↦ child_in width A K L a top child ]

pub entries_have_lines : EntriesHaveLines
entries_have_lines w h q A L p width high place a at e = visit_lines w A L (entry_in width h q A L p high place a.valid at e)
