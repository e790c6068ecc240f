-- The pieces of a part, and its entry.
use Rattle.std.proofs.Common.{◌≡◌, ◌≢◌, ℕ, zero, suc, ◌+◌, ◌-◌, ◌*◌, ◌^◌, ◌<◌, ◌≤◌, List, [], ◌∷◌, map, get_or, replicate, Option, Some, None, refl, sym, ◌∙◌, ap, subst, arith}
use Rattle.std.proofs.Math.Nat.{pow-le-pow_right, pow-succ', pow-zero}
use Rattle.std.proofs.lemmas.List.FromFn.{get_or-map-range_with_len}
use Rattle.std.specs.List.{range_with_len}
use Rattle.hic_word.specs.declared.Word.{Word}
use Rattle.hic_word.specs.Width.{IsWidth, pack_limit}
use Rattle.hic_word.specs.Values.{Array, IsBelow, Number, Value, at}
use Rattle.hic_word.specs.Entries.{Entry, LineValue, Named, Pack, Zero, inner}
use Rattle.hic_word.specs.Parts.{part, values}
use Rattle.hic_word.specs.Canon.{Alone, AllZero, IsPart, Several, Sole, enc, joined, lowest, sole}
use Rattle.hic_word.specs.FormLaws.{part_entries}
use Rattle.hic_word.specs.Stands.{EntriesFor, Lookup}
use Rattle.hic_word.proofs.callers.Forms.{enc-injective, two_words, small-numbers, at_first, not_zero, part_plain}
use Rattle.hic_word.proofs.callers.Slices.{IsBelow-more, first_part, later_part, parts_are_joined}
use Rattle.seg_canon.specs.Folds.{PiecesFor}
use Rattle.seg_canon.proofs.Filling.{AreZero}

-- a line has words
pub some_words : {w : ℕ} → IsWidth w → 1 ≤ w
some_words wide = let two = two_words wide in omega arith

pub pieces_entries : {w : ℕ} (m : Lookup) (h : ℕ) (xs : List Word) (A : Array) → 2 ≤ h → PiecesFor w m h xs A → EntriesFor w m xs (inner (part_entries w h A))
pieces_entries m zero xs A high p = absurd (omega arith)
pieces_entries m (suc zero) xs A high p = absurd (omega arith)
pieces_entries m (suc (suc k)) xs A high p = p

-- an empty part
pub enc-empty : (w h : ℕ) → enc w h [] ≡ Zero
enc-empty w zero = refl
enc-empty w (suc zero) = refl
enc-empty w (suc (suc k)) = refl

-- the entries of the parts of an empty part
empty_from : (w : ℕ) (h q n : ℕ) → map (λ i. enc w (h - 1) (part w [] h i)) (range_with_len q n) ≡ replicate n Zero
empty_from w h q zero = refl
empty_from w h q (suc n) = rw (enc-empty w (h - 1), empty_from w h (q + 1) n) refl

pub empty_entries : (w h : ℕ) → part_entries w h [] ≡ replicate w Zero
empty_entries w h = empty_from w h 0 w

pub empty_part : {w : ℕ} (h : ℕ) (A : Array) → IsPart w h A → enc w h A ≡ Zero → A ≡ []
empty_part {w} h A a e = enc-injective w h A [] a.positive (part_plain a) (record { rises = tt; no_zero = tt; below = tt }) (e ∙ sym (enc-empty w h))

-- the entry of a part of a part
pub entry_at : {w : ℕ} (h : ℕ) (A : Array) (q : ℕ) → q < w → get_or (part_entries w h A) q Zero ≡ enc w (h - 1) (part w A h q)
entry_at {w} h A q l = get_or-map-range_with_len (λ i. enc w (h - 1) (part w A h i)) 0 w q q Zero l (omega arith)

pub enc_joined : (w h : ℕ) (A : Array) → 2 ≤ h → A ≢ [] → enc w h A ≡ joined (sole (part_entries w h A)) (part_entries w h A)
enc_joined w h A high some = parts_are_joined w h A high some

-- only a lowest part is packed, and its values are the packed numbers
not_packed : (s : Sole) (es : List Entry) (ns : List ℕ) → joined s es ≡ Pack ns → ⊥
not_packed AllZero es ns e = cc
not_packed (Alone q Zero) es ns e = cc
not_packed (Alone q (Pack ms)) es ns e = cc
not_packed (Alone q (Named L p)) es ns e = cc
not_packed Several es ns e = cc

pub pack_height : (w h : ℕ) (A : Array) (ns : List ℕ) → enc w h A ≡ Pack ns → h ≡ 1
pack_height w zero A ns e = cc
pack_height w (suc zero) A ns e = refl
pack_height w (suc (suc k)) [] ns e = cc
pack_height w (suc (suc k)) (p ∷ A) ns e = absurd (not_packed _ _ ns (sym (enc_joined w (suc (suc k)) (p ∷ A) (omega arith) (λ n. cc)) ∙ e))

lowest_packed : (o : Option (List ℕ)) (vs : List Value) (ns : List ℕ) → lowest o vs ≡ Pack ns → o ≡ Some ns
lowest_packed None vs ns e = cc
lowest_packed (Some ms) vs ns e = cc

pub packed_values : (w : ℕ) (A : Array) (ns : List ℕ) → enc w 1 A ≡ Pack ns → map Number ns ≡ values w 0 A
packed_values w [] ns e = cc
packed_values w (p ∷ A) ns e = small-numbers (pack_limit w) (values w 0 (p ∷ A)) ns (lowest_packed _ _ ns e)

-- a lowest part whose values are all 0 is empty
zero_from : (A : Array) (n b : ℕ) → AreZero (values n b A) → (i : ℕ) → i < n → at A (b + i) ≡ Number 0
zero_from A zero b z i l = absurd (omega arith)
zero_from A (suc n) b z zero l = let e : b + 0 ≡ b = omega arith in ap (at A) e ∙ z.0
zero_from A (suc n) b z (suc i) l = let e : b + suc i ≡ suc b + i = omega arith in ap (at A) e ∙ zero_from A n (suc b) z.1 i (omega arith)

one_power : (w : ℕ) → w ^ 1 ≡ w
one_power w = let e : w * 1 ≡ w = omega arith in pow-succ' w 0 ∙ ap (λ n. w * n) (pow-zero w) ∙ e

pub zero_part : {w : ℕ} (A : Array) → IsPart w 1 A → AreZero (values w 0 A) → A ≡ []
zero_part [] a z = refl
zero_part {w} (p ∷ A) a z =
    let below = a.below in
    let low : p.0 < w = subst (λ n. p.0 < n) (one_power w) below.0 in
    let from : p.0 ≡ 0 + p.0 = omega arith in
    absurd (not_zero p.1 ((part_plain a).no_zero.0) (sym (at_first p A) ∙ ap (at (p ∷ A)) from ∙ zero_from (p ∷ A) w 0 z p.0 low))

pub empty_values : (n i : ℕ) → AreZero (values n i [])
empty_values zero i = tt
empty_values (suc n) i = (refl, empty_values n (suc i))

-- a path begins with the number of the only part that is not empty
pub joined_path : (s : Sole) (es : List Entry) (L : LineValue) (q : ℕ) (p : List ℕ) → joined s es ≡ Named L (q ∷ p) → s ≡ Alone q (Named L p)
joined_path AllZero es L q p e = cc
joined_path (Alone r Zero) es L q p e = cc
joined_path (Alone r (Pack ns)) es L q p e = cc
joined_path (Alone r (Named K o)) es L q p e = let a : r ≡ q = cc in let b : K ≡ L = cc in let c : o ≡ p = cc in cc
joined_path Several es L q p e = cc

-- an array below a lesser part is its own first part, and its other parts are empty
pub first_quarter : {w : ℕ} → IsWidth w → (h k : ℕ) (A : Array) → k ≤ h - 1 → IsBelow (w ^ k) A → part w A h 0 ≡ A
first_quarter {w} wide h k A l b = first_part w h A (IsBelow-more (w ^ k) (w ^ (h - 1)) A (pow-le-pow_right (some_words wide) l) b)

pub other_quarters : {w : ℕ} → IsWidth w → (h k : ℕ) (A : Array) → k ≤ h - 1 → IsBelow (w ^ k) A → (i : ℕ) → i ≢ 0 → part w A h i ≡ []
other_quarters {w} wide h k A l b i n = later_part w h i A (omega (arith, n)) (IsBelow-more (w ^ k) (w ^ (h - 1)) A (pow-le-pow_right (some_words wide) l) b)
