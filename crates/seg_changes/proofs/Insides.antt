-- What is inside a part, by the places of its words and quarters.
use Rattle.std.proofs.Common.{◌≡◌, ◌≢◌, ℕ, zero, suc, ◌+◌, ◌-◌, ◌<◌, ◌≤◌, Bool, true, false, eqb, List, [], ◌∷◌, map, length, Some, refl, sym, ap, subst, arith}
use Rattle.std.proofs.lemmas.Bool.{eq-eqb, eqb-true}
use Rattle.hic_word.specs.Width.{four_wide}
use Rattle.hic_word.specs.declared.Word.{Word}
use Rattle.hic_word.specs.Values.{Array, at}
use Rattle.hic_word.specs.Parts.{part, values}
use Rattle.hic_word.specs.Stands.{IsNumber, Lookup, WordFor, WordsFor}
use Rattle.seg_canon.specs.declared.parts.Part.{Part}
use Rattle.seg_canon.specs.Parts.{PartFor, QuartersFor, whole_part}
use Rattle.seg_canon.specs.Raises.{raises}
use Rattle.seg_canon.specs.Opens.{IsLine, IsOne}
use Rattle.seg_canon.proofs.Quarters.{lines_are_stored, quarters_of_line}
use Rattle.seg_read.specs.Founds.{word_in}
use Rattle.seg_read.proofs.Entering.{empty_quarter, one_high, other_quarter, part_top, this_quarter}
use Rattle.seg_read.proofs.Places.{word_at}
use Rattle.seg_read.proofs.Raising.{raises_whole}
use Rattle.seg_changes.specs.declared.within.Within.{Within}
use Rattle.seg_changes.specs.declared.within.Within.TheVariants.{Entries, Nothing, Only, Words}
use Rattle.seg_changes.specs.Withins.{WithinFor, zero_word, quarter_within, raises_from, this_if}

-- nothing
pub within_nothing : {m : Lookup} {p : Part} {A : Array} → PartFor 4 m p A → A ≡ [] → WithinFor m p.top Nothing A
within_nothing {m} {p} {A} f none = record {
  words = λ one i low. subst (λ (B : Array). WordFor 4 m zero_word (at B i)) (sym none) (IsNumber refl);
  quarters = λ high i low. let most = f.low in empty_quarter m (p.top - 1) zero_word (part 4 A p.top i) (omega (arith, high)) (omega (arith, most)) refl (ap (λ (B : Array). part 4 B p.top i) none);
  heights = λ high i low. refl;
}

-- the words of a lowest part
pub within_words : {m : Lookup} (h : ℕ) (A : Array) (words : List Word) → h ≡ 1 → WordsFor 4 m words (values 4 0 A) → WithinFor m h (Words words) A
within_words {m} h A words one f = record {
  words = λ same i low. word_at i A words zero_word f low;
  quarters = λ high i low. absurd (omega (arith, high, one));
  heights = λ high i low. absurd (omega (arith, high, one));
}

-- a quarter alone
only_this : {m : Lookup} {p r : Part} {q : ℕ} {A : Array} → IsOne 4 m p q r A → (i : ℕ) → i < 4 → (t : Bool) → eqb q i ≡ t → PartFor 4 m (this_if t r (whole_part (p.top - 1) zero_word)) (part 4 A p.top i)
only_this o i low true e = this_quarter i o (sym (eqb-true _ i e))
only_this {m} {p} {r} {q} {A} o i low false e =
    let top = o.top in
    let same : r.top ≡ p.top - 1 = omega (arith, top) in
    subst (λ h. PartFor 4 m (whole_part h zero_word) (part 4 A p.top i)) same (other_quarter zero_word i o refl low (λ here. let t = eq-eqb q i (sym here) in cc))

only_height : (h q i : ℕ) (r : Part) → r.top ≡ h → (t : Bool) → (this_if t r (whole_part h zero_word)).top ≡ h
only_height h q i r e true = e
only_height h q i r e false = refl

pub within_only : {m : Lookup} {p r : Part} {q : ℕ} {A : Array} → IsOne 4 m p q r A → WithinFor m p.top (Only q r) A
within_only {m} {p} {r} {q} {A} o =
    let top = o.top in
    let more = one_high o in
    record {
      words = λ one i low. absurd (omega (arith, one, more));
      quarters = λ high i low. only_this o i low (eqb q i) refl;
      heights = λ high i low. only_height (p.top - 1) q i r (omega (arith, top)) (eqb q i);
    }

-- the entries of a line
entry_part : {m : Lookup} (h k q i : ℕ) (A : Array) (xs : List Word) → QuartersFor 4 m h A q (map (whole_part k) xs) → i < length xs → PartFor 4 m (whole_part k (word_in xs i)) (part 4 A h (q + i))
entry_part h k q i A [] f l = absurd (omega (arith, l))
entry_part {m} h k q zero A (x ∷ xs) f l = subst (λ j. PartFor 4 m (whole_part k x) (part 4 A h j)) (let same : q ≡ q + 0 = omega arith in same) f.0
entry_part {m} h k q (suc i) A (x ∷ xs) f l = subst (λ j. PartFor 4 m (whole_part k (word_in xs i)) (part 4 A h j)) (let same : q + 1 + i ≡ q + suc i = omega arith in same) (entry_part h k (q + 1) i A xs f.1 (omega (arith, l)))

pub within_entries : {m : Lookup} {p : Part} {id : ℕ} {A : Array} (line : List Word) → PartFor 4 m p A → IsLine 4 m p id A → m id ≡ Some line → length line ≡ 4 → p.top ≢ 1 → WithinFor m p.top (Entries line) A
within_entries {m} {p} {id} {A} line f l is long other =
    let a = part_top f in
    let some = a.positive in
    record {
      words = λ one i low. absurd (other one);
      quarters = λ high i low.
          let all = quarters_of_line four_wide m p.top A l.value line high a l.made (lines_are_stored 4 m id l.value line l.line is) in
          let start : 0 + i ≡ i = omega arith in
          subst (λ j. PartFor 4 m (whole_part (p.top - 1) (word_in line i)) (part 4 A p.top j)) start (entry_part p.top (p.top - 1) 0 i A line all (omega (arith, long, low)));
      heights = λ high i low. refl;
    }

-- the lines to raise the quarters
whole_free : (w : Within) (h i n : ℕ) → ((j : ℕ) → (quarter_within w h j).at ≡ (quarter_within w h j).top) → raises_from w h i n ≡ 0
whole_free w h i zero whole = refl
whole_free w h i (suc n) whole =
    let this = raises_whole (quarter_within w h i) (whole i) in
    let rest = whole_free w h (i + 1) n whole in
    omega (arith, this, rest)

pub free_nothing : (h : ℕ) → raises_from Nothing h 0 4 ≡ 0
free_nothing h = whole_free Nothing h 0 4 (λ j. refl)

pub free_words : (h : ℕ) (words : List Word) → raises_from (Words words) h 0 4 ≡ 0
free_words h words = whole_free (Words words) h 0 4 (λ j. refl)

pub free_entries : (h : ℕ) (es : List Word) → raises_from (Entries es) h 0 4 ≡ 0
free_entries h es = whole_free (Entries es) h 0 4 (λ j. refl)

pub only_raises : (h q : ℕ) (r : Part) → q < 4 → raises_from (Only q r) h 0 4 ≤ raises r
only_raises h q r low =
    let none = raises_whole (whole_part h zero_word) refl in
    go q low none
  where
    go : (q : ℕ) → q < 4 → raises (whole_part h zero_word) ≡ 0 → raises_from (Only q r) h 0 4 ≤ raises r
    go zero low none = omega (arith, none)
    go (suc zero) low none = omega (arith, none)
    go (suc (suc zero)) low none = omega (arith, none)
    go (suc (suc (suc zero))) low none = omega (arith, none)
    go (suc (suc (suc (suc q)))) low none = absurd (omega (arith, low))
