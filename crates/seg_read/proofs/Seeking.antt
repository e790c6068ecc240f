-- The next word that is not 0, in words and in quarters.
use Rattle.std.proofs.Common.{◌≡◌, ℕ, ◌+◌, ◌-◌, ◌*◌, ◌/◌, ◌%◌, ◌^◌, ◌<◌, ◌≤◌, List, [], ◌∷◌, Option, Some, None, IfSome, IfNone, refl, sym, ◌∙◌, ap, subst, inl, inr, arith}
use Rattle.std.proofs.lemmas.Bool.{cases_lt, cases_order}
use Rattle.std.proofs.Math.Nat.{mod-eq_of_lt, mul-le-mul}
use Rattle.std.proofs.lemmas.Nat.{div-add-mod', div_below, le-div, mod_below}
use Rattle.hic_word.specs.Memory.{Memory, line_at}
use Rattle.hic_word.specs.declared.Word.{Word}
use Rattle.hic_word.specs.Values.{Array, IsArray, Number, at}
use Rattle.hic_word.specs.Parts.{part, values}
use Rattle.hic_word.specs.Canon.{IsPart, enc}
use Rattle.hic_word.specs.View.{next_of}
use Rattle.hic_word.specs.Stands.{Lookup, WordFor, WordsFor}
use Rattle.hic_word.proofs.callers.Forms.{at_first, not_zero, part_plain, at_high, next_is_least, parts_are_parts}
use Rattle.line_mem.specs.Looks.{LooksUpTo}
use Rattle.seg_canon.specs.declared.parts.Part.{Part}
use Rattle.seg_canon.specs.Opens.{IsOne}
use Rattle.seg_canon.proofs.Filling.{zero_value, zero_word}
use Rattle.seg_canon.proofs.Opening.{part_empty, part_zero}
use Rattle.seg_read.specs.Founds.{AreZero, FoundFor, IsFirst, NextFor, NextLooks, WordFound}
use Rattle.seg_read.specs.Levels.{levels}
use Rattle.seg_read.proofs.Levels.{levels-empty}
use Rattle.seg_read.proofs.Places.{HasQuarters, LineQuarters, quarter_value, word_at}

-- in the words of a lowest part
pub words_found : {m : Lookup} {A : Array} {words : List Word} {i : ℕ} (found : ℕ × Word) → WordsFor 4 m words (values 4 0 A) → WordFound words i found → FoundFor m A i (Some found)
words_found {m} {A} {words} {i} found f (first, is) = (
  record {
    from = first.from;
    some = λ e. first.some (zero_word (word_at found.0 A words _ f first.low) e);
    least = λ j from less. zero_value (word_at j A words _ f (let low = first.low in omega (arith, low, less))) (first.zeros j from less);
  },
  subst (λ x. WordFor 4 m x (at A found.0)) (sym is) (word_at found.0 A words _ f first.low),
)

pub words_empty : {m : Lookup} {A : Array} {words : List Word} {i : ℕ} → IsPart 4 1 A → WordsFor 4 m words (values 4 0 A) → AreZero words i 4 → FoundFor m A i None
words_empty {m} {A} {words} {i} a f zeros j from = elim (cases_lt j 4) [
  | inl low ↦ zero_value (word_at j A words _ f low) (zeros j from low)
  | inr high ↦ at_high 4 j A a.below high
]

pub search_words : {m : Lookup} {A : Array} {words : List Word} (i : ℕ) (r : Option (ℕ × Word)) → IsPart 4 1 A → WordsFor 4 m words (values 4 0 A) → IfSome r (λ found. WordFound words i found) → IfNone r (AreZero words i 4) → FoundFor m A i r
search_words i None a f some none = words_empty a f none
search_words i (Some found) a f some none = words_found found f some

pub search_low : (words : List Word) (i h : ℕ) (r : Option (ℕ × Word)) → h ≡ 1 → IfSome r (λ found. WordFound words i found) → IfSome r (λ found. found.0 < 4 ^ h)
search_low words i h None one some = tt
search_low words i h (Some found) one some = subst (λ n. found.0 < 4 ^ n) (sym one) some.0.low

pub search_looks : (i n old new : ℕ) (r : Option (ℕ × Word)) → 1 ≤ n → new ≡ old + 1 → NextLooks i r n old new
search_looks i n old new None some one = (omega (arith, one), omega (arith, some, one))
search_looks i n old new (Some found) some one = ((omega (arith, one), omega (arith, some, one)), λ start. (omega (arith, one), omega (arith, some, one)))

-- no word of an array from a up to but not including b
abbrev pub IsBlank : Array → ℕ → ℕ → Type 0
IsBlank A a b = (j : ℕ) → a ≤ j → j < b → at A j ≡ Number 0

blank_joined : (A : Array) (a b c : ℕ) → IsBlank A a b → IsBlank A b c → IsBlank A a c
blank_joined A a b c low high j from less = elim (cases_lt j b) [
  | inl l ↦ low j from l
  | inr h ↦ high j h less
]

quarter_blank : {h s : ℕ} {A : Array} (q a b : ℕ) → HasQuarters h s A → b ≤ s → IsBlank (part 4 A h q) a b → IsBlank A (q * s + a) (q * s + b)
quarter_blank {h} {s} {A} q a b w low blank j from less =
    let k = j - q * s in
    let same : q * s + k ≡ j = omega (arith, from) in
    let l : k < s = omega (arith, low, less, from) in
    sym (ap (at A) same) ∙ sym (quarter_value q k w l) ∙ blank k (omega (arith, from)) (omega (arith, from, less))

-- quarters that are empty
quarters_blank : {h s : ℕ} {A : Array} (a b : ℕ) → HasQuarters h s A → ((q : ℕ) → a ≤ q → q < b → part 4 A h q ≡ []) → IsBlank A (a * s) (b * s)
quarters_blank {h} {s} {A} a b w empty j from less =
    let q = j / s in
    let r = j % s in
    let whole : q * s + r ≡ j = div-add-mod' j s in
    let rest : r < s = mod_below j s w.some in
    let least : a ≤ q = le-div a j s w.some from in
    let below : q < b = div_below j s b w.some less in
    sym (ap (at A) whole) ∙ sym (quarter_value q r w rest) ∙ ap (λ (B : Array). at B r) (empty q least below)

pub rest_zero : (i s : ℕ) → 1 ≤ s → i ≡ 0 → i % s ≡ 0
rest_zero i s some start = ap (λ n. n % s) start ∙ mod-eq_of_lt some

-- an array without a word is empty
pub blank_empty : (h : ℕ) (A : Array) → IsPart 4 h A → ((j : ℕ) → 0 ≤ j → at A j ≡ Number 0) → A ≡ []
blank_empty h [] a none = refl
blank_empty h (p ∷ A) a none = absurd (not_zero p.1 ((part_plain a).no_zero.0) (sym (at_first p A) ∙ none p.0 (omega arith)))

-- found in quarter q, where none is in front of it: within it the search begins at the offset, or at its first
pub found_in : {m : Lookup} {h s : ℕ} {A : Array} (i q start o : ℕ) (x : Word) → HasQuarters h s A → start ≡ i - q * s → o < s → IsBlank A i (q * s) → FoundFor m (part 4 A h q) start (Some (o, x)) → FoundFor m A i (Some (q * s + o, x))
found_in {m} {h} {s} {A} i q start o x w e low before found =
    let there : at (part 4 A h q) o ≡ at A (q * s + o) = quarter_value q o w low in
    let n = found.0 in
    let from = n.from in
    let within : IsBlank A (q * s + start) (q * s + o) = quarter_blank q start o w (omega (arith, low)) n.least in (
      record {
        from = omega (arith, e, from);
        some = λ z. n.some (there ∙ z);
        least = λ j past less. elim (cases_lt j (q * s)) [
          | inl under ↦ before j past under
          | inr high ↦ within j (omega (arith, e, past, high)) less
        ];
      },
      subst (WordFor 4 m x) there found.1,
    )

pub found_none : {h s : ℕ} {A : Array} (m : Lookup) (i : ℕ) → HasQuarters h s A → IsBlank A i (4 * s) → FoundFor m A i None
found_none {h = h} {s = s} {A = A} m i w blank j from = elim (cases_lt j (4 * s)) [
  | inl low ↦ blank j from low
  | inr past ↦ let all = w.all in at_high (4 ^ h) j A w.is_part.below (omega (arith, all, past))
]

-- in the quarters of a line: the quarters between two places are empty
empty_between : {m : Lookup} {h s : ℕ} {A : Array} {line : List Word} (a b : ℕ) → LineQuarters m h s A line → b ≤ 4 → AreZero line a b → (q : ℕ) → a ≤ q → q < b → part 4 A h q ≡ []
empty_between a b w most zeros q from less = part_empty (w.stand q (omega (arith, most, less))) (zeros q from less)

-- nothing in the quarter that the offset falls in, and the quarters up to b are empty
pub blank_to : {m : Lookup} {h s : ℕ} {A : Array} {line : List Word} (i b : ℕ) → LineQuarters m h s A line → FoundFor m (part 4 A h (i / s)) (i % s) None → b ≤ 4 → AreZero line (i / s + 1) b → IsBlank A i (b * s)
blank_to {m} {h} {s} {A} i b w none most zeros =
    let q = i / s in
    let whole : q * s + i % s ≡ i = div-add-mod' i s in
    let here : IsBlank A (q * s + i % s) (q * s + s) = quarter_blank q (i % s) s w.quarters (omega arith) (λ j from less. none j from) in
    let rest : IsBlank A ((q + 1) * s) (b * s) = quarters_blank (q + 1) b w.quarters (empty_between (q + 1) b w most zeros) in
    let up : q * s + s ≡ (q + 1) * s = grind arith in
    blank_joined A i ((q + 1) * s) (b * s) (λ j from less. here j (omega (arith, whole, from)) (omega (arith, up, less))) rest

-- a later quarter has a word
pub later_some : {m : Lookup} {h s : ℕ} {A : Array} {line : List Word} (i p : ℕ) → LineQuarters m h s A line → IsFirst line i p → FoundFor m (part 4 A h p) 0 None → ⊥
later_some {m} {h} {s} {A} i p w first none =
    let empty = blank_empty (h - 1) (part 4 A h p) (parts_are_parts 4 h p A w.quarters.high w.quarters.is_part).is_part none in
    first.some (part_zero (w.stand p first.low) empty)

-- it begins past the offset
pub later_start : {m : Lookup} {h s : ℕ} {A : Array} {line : List Word} (i p : ℕ) → LineQuarters m h s A line → IsFirst line (i / s + 1) p → 0 ≡ i - p * s
later_start {s = s} i p w first =
    let q = i / s in
    let whole : q * s + i % s ≡ i = div-add-mod' i s in
    let rest : i % s < s = mod_below i s w.quarters.some in
    let start = first.from in
    let past : (q + 1) * s ≤ p * s = mul-le-mul start (omega arith) in
    let up : q * s + s ≡ (q + 1) * s = grind arith in
    omega (arith, whole, rest, past, up)

-- where nothing is found from the first offset on, no level is gone down
pub none_levels : {m : Lookup} {h s : ℕ} {A : Array} {line : List Word} (i : ℕ) → LineQuarters m h s A line → i ≡ 0 → FoundFor m (part 4 A h (i / s)) (i % s) None → levels (enc 4 (h - 1) (part 4 A h (i / s))) ≡ 0
none_levels {m} {h} {s} {A} i w start none =
    let B = part 4 A h (i / s) in
    let rest : i % s ≡ 0 = rest_zero i s w.quarters.some start in
    let empty : B ≡ [] = blank_empty (h - 1) B (parts_are_parts 4 h (i / s) A w.quarters.high w.quarters.is_part).is_part (λ j from. none j (subst (λ n. n ≤ j) (sym rest) from)) in
    ap (λ (C : Array). levels (enc 4 (h - 1) C)) empty ∙ levels-empty (h - 1)

-- in the only quarter that is not empty
pub one_before : {m : Lookup} {h s q : ℕ} {p r : Part} {A : Array} (i : ℕ) → HasQuarters h s A → IsOne 4 m p q r A → p.top ≡ h → IsBlank A i (q * s)
one_before {h = h} {s = s} {q = q} {A = A} i w o top j from less =
    let place = o.place in
    quarters_blank 0 q w (λ k above under. subst (λ n. part 4 A n k ≡ []) top (o.others k (omega (arith, under, place)) (λ e. omega (arith, under, e)))) j (omega arith) less

pub one_none : {m : Lookup} {h s q : ℕ} {p r : Part} {A : Array} (i start : ℕ) → HasQuarters h s A → IsOne 4 m p q r A → p.top ≡ h → start ≡ i - q * s → FoundFor m (part 4 A h q) start None → IsBlank A i (4 * s)
one_none {m} {h} {s} {q} {p} {r} {A} i start w o top e none =
    let here : IsBlank A (q * s + start) (q * s + s) = quarter_blank q start s w (omega arith) (λ j from less. none j from) in
    let up : q * s + s ≡ (q + 1) * s = grind arith in
    let after : IsBlank A ((q + 1) * s) (4 * s) = quarters_blank (q + 1) 4 w (λ k above under. subst (λ n. part 4 A n k ≡ []) top (o.others k under (λ z. omega (arith, above, z)))) in
    λ j from less. elim (cases_lt j (q * s)) [
      | inl low ↦ one_before i w o top j from low
      | inr high ↦ blank_joined A (q * s + start) ((q + 1) * s) (4 * s) (λ k above under. here k above (omega (arith, up, under))) after j (omega (arith, e, from, high)) less
    ]

-- past the quarter
pub past_none : {h s : ℕ} {A : Array} (m : Lookup) (q start : ℕ) → HasQuarters h s A → s ≤ start → FoundFor m (part 4 A h q) start None
past_none {h = h} {s = s} {A = A} m q start w past j from =
    let size = w.size in
    at_high (4 ^ (h - 1)) j (part 4 A h q) (parts_are_parts 4 h q A w.high w.is_part).is_part.below (omega (arith, size, past, from))

-- what is found is the next
pub found_next : (m : Memory) (A : Array) (i : ℕ) (r : Option (ℕ × Word)) → IsArray A → FoundFor (line_at m) A i r → NextFor m A i r
found_next m A i None a none = go (next_of A i) refl
  where
    go : (o : Option ℕ) → next_of A i ≡ o → next_of A i ≡ None
    go None e = e
    go (Some o) e = let n = (next_is_least A i a).found o e in absurd (n.some (none o n.from))
found_next m A i (Some found) a f = (go (next_of A i) refl, f.1)
  where
    go : (o : Option ℕ) → next_of A i ≡ o → next_of A i ≡ Some found.0
    go None e = absurd (f.0.some ((next_is_least A i a).none e found.0 f.0.from))
    go (Some o) e =
        let n = (next_is_least A i a).found o e in
        elim (cases_order o found.0) [
          | inl same ↦ e ∙ ap (λ (k : ℕ). Some k) same
          | inr (inl less) ↦ absurd (n.some (f.0.least o n.from less))
          | inr (inr more) ↦ absurd (f.0.some (n.least found.0 f.0.from more))
        ]

-- the looks of a search
pub looks_most : (i : ℕ) (r : Option (ℕ × Word)) (n old new : ℕ) → NextLooks i r n old new → LooksUpTo (2 * n) old new
looks_most i None n old new looks = let more = looks.0 in let most = looks.1 in (more, omega (arith, most))
looks_most i (Some found) n old new looks = looks.0
