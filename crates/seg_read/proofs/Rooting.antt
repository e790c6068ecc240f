-- What roots tell of their arrays.
use Rattle.std.proofs.Common.{◌≡◌, ℕ, ◌+◌, ◌*◌, ◌^◌, ◌<◌, ◌≤◌, [], sym, ◌∙◌, ap, subst, inl, inr, arith}
use Rattle.std.proofs.lemmas.Bool.{cases_eq}
use Rattle.std.proofs.Math.Nat.{pow-le-pow_right}
use Rattle.std.proofs.lemmas.Nat.{mul-pow, pow-add}
use Rattle.hic_word.specs.Width.{four_wide}
use Rattle.hic_word.specs.declared.Word.{Word}
use Rattle.hic_word.specs.Values.{Array, IsArray, IsBelow, IsValue, Number, Pairs, Ref, array, array-pairs, at, pairs}
use Rattle.hic_word.specs.Heights.{height}
use Rattle.hic_word.specs.Canon.{enc, root_entry}
use Rattle.hic_word.specs.InMemory.{RootIn, WordIn}
use Rattle.hic_word.specs.Memory.{Memory, line_at}
use Rattle.hic_word.proofs.callers.Forms.{heights_are_least, at_high}
use Rattle.seg_canon.specs.declared.parts.Part.{Part}
use Rattle.hic_word.specs.Stands.{Lookup}
use Rattle.seg_canon.specs.Parts.{PartFor, whole_part}
use Rattle.seg_canon.proofs.RootParts.{empty_root, word_height}
use Rattle.seg_read.specs.Levels.{levels}

valid_ref : (A : Array) → IsArray A → IsValue (Ref (pairs A))
unfolding IsValue
valid_ref A a = a

pub root_height : {m : Memory} {x : Word} {A : Array} → RootIn m x A → 1 ≤ x.height → x.height ≡ height 4 A
root_height {A = A} r some = word_height r.word some ∙ ap (height 4) (array-pairs A)

pub root_low : {m : Memory} {x : Word} {A : Array} → RootIn m x A → x.height ≤ 16
root_low {m} {x} {A} r = elim (cases_eq x.height 0) [
  | inl none ↦ omega arith
  | inr some ↦ let same = root_height r (omega arith) in let low = (heights_are_least 4 A four_wide r.valid).low in omega (arith, same, low)
]

-- what `part_of` gives for a root
pub root_part : {m : Memory} {x : Word} {A : Array} (p : Part) → ((H : Pairs) → IsValue (Ref H) → WordIn m x (Ref H) → PartFor 4 (line_at m) p (array H)) → RootIn m x A → PartFor 4 (line_at m) p A
root_part {m} {x} {A} p f r = subst (PartFor 4 (line_at m) p) (array-pairs A) (f (pairs A) (valid_ref A r.valid) r.word)

pub as_whole : {m : Lookup} {A : Array} (h : ℕ) (p : Part) → p.top ≡ h → p.at ≡ h → PartFor 4 m p A → PartFor 4 m (whole_part h p.entry) A
as_whole {m} {A} h p top at f = subst (λ n. PartFor 4 m (record { top = n; at = h; entry = p.entry }) A) top (subst (λ n. PartFor 4 m (record { top = p.top; at = n; entry = p.entry }) A) at f)

-- past its parts an array has 0
pub empty_array : {m : Memory} {x : Word} {A : Array} → RootIn m x A → x.height ≡ 0 → A ≡ []
empty_array {A = A} r none = sym (array-pairs A) ∙ (empty_root r.word none).0

pub empty_at : {m : Memory} {x : Word} {A : Array} → RootIn m x A → x.height ≡ 0 → (i : ℕ) → at A i ≡ Number 0
empty_at r none i = ap (λ (B : Array). at B i) (empty_array r none)

pub root_past : {m : Memory} {x : Word} {A : Array} → RootIn m x A → 1 ≤ x.height → (i : ℕ) → 4 ^ x.height ≤ i → at A i ≡ Number 0
root_past {m} {x} {A} r some i past =
    let room = (heights_are_least 4 A four_wide r.valid).room in
    at_high (4 ^ x.height) i A (subst (λ h. IsBelow (4 ^ h) A) (sym (root_height r some)) room) past

-- the levels of a root
pub root_levels : {m : Memory} {x : Word} {A : Array} → RootIn m x A → 1 ≤ x.height → levels (enc 4 x.height A) ≡ levels (root_entry 4 A)
root_levels {A = A} r some = ap (λ h. levels (enc 4 h A)) (root_height r some)

pub four_power : (k : ℕ) → 4 ^ k ≡ 2 ^ (2 * k)
four_power k = mul-pow 2 2 k ∙ sym (pow-add 2 k k) ∙ ap (λ n. 2 ^ n) (let twice : k + k ≡ 2 * k = omega arith in twice)

pub power_fits : (h : ℕ) → h ≤ 15 → 4 ^ h < 4294967296
power_fits h low = let less : 4 ^ h ≤ 4 ^ 15 = pow-le-pow_right (omega arith) low in omega (arith, less)

pub power_high : (h n : ℕ) → 16 ≤ h → n < 4294967296 → n < 4 ^ h
power_high h n high low = let more : 4 ^ 16 ≤ 4 ^ h = pow-le-pow_right (omega arith) high in omega (arith, more)
