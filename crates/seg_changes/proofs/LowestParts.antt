-- The words of lowest parts, and where they differ.
use Rattle.std.proofs.Common.{◌≡◌, ◌≢◌, ◌↔◌, ℕ, ◌+◌, ◌-◌, ◌<◌, true, false, List, [], ◌∷◌, ◌++◌, length, refl, sym, ◌∙◌, ap, subst, arith}
use Rattle.std.proofs.lemmas.Bool.{false_from_ne_true}
use Rattle.std.proofs.lemmas.List.{append-nil, length-append}
use Rattle.hic_word.specs.Width.{four_wide}
use Rattle.hic_word.specs.declared.Word.{Word}
use Rattle.hic_word.specs.Values.{Array, IsArray, at}
use Rattle.hic_word.specs.Same.{same_value}
use Rattle.hic_word.specs.Canon.{IsPart}
use Rattle.hic_word.specs.Differences.{skip_if}
use Rattle.hic_word.specs.Stands.{Lookup, Unique, WordFor}
use Rattle.hic_word.proofs.callers.Forms.{value_at, values_of_array, value_refl, value_true}
use Rattle.hic_word.proofs.callers.Standing.{words_tell_values}
use Rattle.seg_changes.specs.declared.within.Within.{Within}
use Rattle.seg_changes.specs.Withins.{WithinFor, word_within}
use Rattle.seg_changes.specs.ChangeList.{most_changes}
use Rattle.seg_changes.specs.Differing.{Adds, differ_from, raised_at}
use Rattle.seg_changes.proofs.Adding.{adds_length, adds_more, adds_one}
use Rattle.seg_changes.proofs.Ranges.{differ-append, raised-append, raised_length}

-- the differences before a place, and those at it
one_more : (b i : ℕ) (A B : Array) → raised_at b B (differ_from 0 (i + 1) A B) ≡ raised_at b B (differ_from 0 i A B) ++ raised_at b B (differ_from i 1 A B)
one_more b i A B =
    let start : 0 + i ≡ i = omega arith in
    ap (raised_at b B) (differ-append 0 i 1 A B ∙ ap (λ j. differ_from 0 i A B ++ differ_from j 1 A B) start) ∙ raised-append b B (differ_from 0 i A B) (differ_from i 1 A B)

-- two arrays with the words x and y at place i
pub record HaveWords (m : Lookup) (i : ℕ) (x y : Word) (A B : Array) : Type 0 where
  pub unique : Unique m
  pub first : IsArray A
  pub second : IsArray B
  pub old : WordFor 4 m x (at A i)
  pub new : WordFor 4 m y (at B i)

pub have_words : {m : Lookup} {A B : Array} {before after : Within} {x y : Word} (i : ℕ) → Unique m → IsPart 4 1 A → IsPart 4 1 B → WithinFor m 1 before A → WithinFor m 1 after B → i < 4 → x ≡ word_within before i → y ≡ word_within after i
    → HaveWords m i x y A B
have_words {m} {A} {B} i u a b f g low e d = record {
  unique = u;
  first = a.valid;
  second = b.valid;
  old = subst (λ z. WordFor 4 m z (at A i)) (sym e) (f.words refl i low);
  new = subst (λ z. WordFor 4 m z (at B i)) (sym d) (g.words refl i low);
}

words_tell : {m : Lookup} {i : ℕ} {x y : Word} {A B : Array} → HaveWords m i x y A B → (x ≡ y) ↔ (at A i ≡ at B i)
words_tell {m} {i} {x} {y} {A} {B} w = words_tell_values 4 m x y (at A i) (at B i) four_wide w.unique (value_at A i (values_of_array A w.first)) (value_at B i (values_of_array B w.second)) w.old w.new

same_here : {m : Lookup} {i : ℕ} {x y : Word} {A B : Array} → HaveWords m i x y A B → x ≡ y → differ_from i 1 A B ≡ []
same_here {m} {i} {x} {y} {A} {B} w e =
    let same : same_value (at A i) (at B i) ≡ true = subst (λ v. same_value (at A i) v ≡ true) ((words_tell w).0 e) (value_refl (at A i)) in
    ap (λ t. skip_if t i []) same

other_here : {m : Lookup} {i : ℕ} {x y : Word} {A B : Array} → HaveWords m i x y A B → x ≢ y → differ_from i 1 A B ≡ i ∷ []
other_here {m} {i} {x} {y} {A} {B} w n =
    let other : same_value (at A i) (at B i) ≡ false = false_from_ne_true (same_value (at A i) (at B i)) (λ t. n ((words_tell w).1 (value_true (at A i) (at B i) t))) in
    ap (λ t. skip_if t i []) other

-- a place with one and the same word
pub word_passed : {m : Lookup} {i : ℕ} (b : ℕ) {x y : Word} {A B : Array} {old now : List (ℕ × Word)} → HaveWords m i x y A B → x ≡ y → Adds m old now (raised_at b B (differ_from 0 i A B)) → Adds m old now (raised_at b B (differ_from 0 (i + 1) A B))
word_passed {m} {i} b {x} {y} {A} {B} {old} {now} w e a =
    subst (Adds m old now) (sym (one_more b i A B ∙ ap (λ os. raised_at b B (differ_from 0 i A B) ++ raised_at b B os) (same_here w e) ∙ append-nil _)) a

-- a place with two words
pub word_added : {m : Lookup} {i : ℕ} (b : ℕ) {x y : Word} {A B : Array} {old now : List (ℕ × Word)} → HaveWords m i x y A B → x ≢ y → Adds m old now (raised_at b B (differ_from 0 i A B))
    → Adds m old (now ++ (b + i, y) ∷ []) (raised_at b B (differ_from 0 (i + 1) A B))
word_added {m} {i} b {x} {y} {A} {B} {old} {now} w n a =
    subst (Adds m old (now ++ (b + i, y) ∷ [])) (sym (one_more b i A B ∙ ap (λ os. raised_at b B (differ_from 0 i A B) ++ raised_at b B os) (other_here w n))) (adds_more a (adds_one now (b + i) (b + i) y refl w.new))

-- a place with two words, and no room
pub word_wide : {m : Lookup} {i : ℕ} (b : ℕ) {x y : Word} {A B : Array} {old now : List (ℕ × Word)} → HaveWords m i x y A B → x ≢ y → i < 4 → Adds m old now (raised_at b B (differ_from 0 i A B)) → length now ≡ most_changes
    → most_changes < length old + length (differ_from 0 4 A B)
word_wide {m} {i} b {x} {y} {A} {B} {old} {now} w n low a full =
    let before = adds_length a in
    let as_many = raised_length b B (differ_from 0 i A B) in
    let here : length (differ_from i 1 A B) ≡ 1 = ap length (other_here w n) in
    let start : 0 + i ≡ i = omega arith in
    let more : length (differ_from 0 (i + 1) A B) ≡ length (differ_from 0 i A B) + length (differ_from i 1 A B)
    = ap length (differ-append 0 i 1 A B ∙ ap (λ j. differ_from 0 i A B ++ differ_from j 1 A B) start) ∙ length-append (differ_from 0 i A B) (differ_from i 1 A B) in
    let rest : i + 1 + (3 - i) ≡ 4 = omega (arith, low) in
    let all : length (differ_from 0 4 A B) ≡ length (differ_from 0 (i + 1) A B) + length (differ_from (0 + (i + 1)) (3 - i) A B)
    = ap (λ k. length (differ_from 0 k A B)) (sym rest) ∙ ap length (differ-append 0 (i + 1) (3 - i) A B) ∙ length-append (differ_from 0 (i + 1) A B) _ in
    omega (arith, before, as_many, here, more, all, full)
