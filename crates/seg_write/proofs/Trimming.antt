-- The last of changes: those that lie past an array and are 0 change nothing, and one that is not 0 tells the height.
use Rattle.std.proofs.Common.{◌≡◌, ◌≢◌, ℕ, zero, suc, ◌+◌, ◌-◌, ◌*◌, ◌^◌, ◌<◌, ◌≤◌, cond, eqb, List, [], ◌∷◌, length, take, get_or, refl, sym, ◌∙◌, ap, subst, inl, inr, arith}
use Rattle.std.proofs.lemmas.Bool.{cases_eq, cases_lt, eq-eqb, ne_eqb}
use Rattle.std.proofs.Math.Nat.{pow-le-pow_right}
use Rattle.hic_word.specs.Width.{four_wide}
use Rattle.hic_word.specs.declared.Kind.TheVariants.{Num}
use Rattle.hic_word.specs.declared.Word.{Word}
use Rattle.hic_word.specs.Values.{Array, IsBelow, Number, Value, at}
use Rattle.hic_word.specs.Changes.{AreChanges, value_after, with}
use Rattle.hic_word.specs.Heights.{height}
use Rattle.hic_word.specs.Canon.{IsPart}
use Rattle.hic_word.specs.InMemory.{ChangesFor}
use Rattle.hic_word.specs.Stands.{Lookup, word_of}
use Rattle.hic_word.proofs.callers.Forms.{at_high, changes_are_made, heights_are_least, values_tell_arrays}
use Rattle.hic_word.proofs.callers.Slices.{IsBelow-more, slice_whole}
use Rattle.seg_canon.proofs.Filling.{zero_value, zero_word}
use Rattle.seg_write.specs.Puts.{CanPut, IsLast, put_at}
use Rattle.seg_write.proofs.Cutting.{take_ascends}
use Rattle.seg_write.proofs.Putting.{changed_part}

-- a change to 0 where there is 0 tells nothing new
tells_nothing : (m : Lookup) (cs : List (ℕ × Word)) (L : Array) (k i : ℕ) (d : ℕ × Word) (v : Value) → ChangesFor 4 m cs L → k < length cs → (get_or cs k d).1 ≡ word_of Num 0 0
    → ((get_or cs k d).0 ≡ i → v ≡ Number 0) → value_after (take k L) i v ≡ value_after (take (suc k) L) i v
tells_nothing m [] L k i d v h lt z none = absurd (omega (arith, lt))
tells_nothing m (c ∷ cs) [] k i d v h lt z none = absurd h
tells_nothing m (c ∷ cs) (p ∷ L) zero i d v h lt z none = elim (cases_eq p.0 i) [
  | inl same ↦ none (h.0 ∙ same) ∙ sym (zero_value h.1 z) ∙ sym (ap (λ t. cond t p.1 v) (eq-eqb p.0 i same))
  | inr other ↦ sym (ap (λ t. cond t p.1 v) (ne_eqb p.0 i other))
]
tells_nothing m (c ∷ cs) (p ∷ L) (suc k) i d v h lt z none = ap (cond (eqb p.0 i) p.1) (tells_nothing m cs L k i d v h.2 (omega (arith, lt)) z none)

drops_zero : (m : Lookup) (h k : ℕ) (cs : List (ℕ × Word)) (A L : Array) (d : ℕ × Word) → IsPart 4 h A → ChangesFor 4 m cs L → AreChanges 0 L → k < length cs
    → 4 ^ h ≤ (get_or cs k d).0 → (get_or cs k d).1 ≡ word_of Num 0 0 → with A (take k L) ≡ with A (take (suc k) L)
drops_zero m h k cs A L d a f ascend lt past z =
    let first = changes_are_made A (take k L) a.valid (take_ascends 0 k L ascend) in
    let more = changes_are_made A (take (suc k) L) a.valid (take_ascends 0 (suc k) L ascend) in
    values_tell_arrays (with A (take k L)) (with A (take (suc k) L)) first.0 more.0 (λ i low.
    let none : (get_or cs k d).0 ≡ i → at A i ≡ Number 0 = λ same. at_high (4 ^ h) i A a.below (omega (arith, same, past)) in
    first.1 i ∙ tells_nothing m cs L k i d (at A i) f lt z none ∙ sym (more.1 i))

-- an offset past an end that the last change has with a value that is not 0
pub record IsTold (L : Array) (b n : ℕ) : Type 0 where
  pub offset : ℕ
  pub from : b ≤ offset
  pub past : n ≤ offset
  pub told : (u : Value) → value_after L offset u ≢ Number 0

last_told : (m : Lookup) (cs : List (ℕ × Word)) (L : Array) (b n : ℕ) → ChangesFor 4 m cs L → AreChanges b L → IsLast cs (λ c. n ≤ c.0) → IsLast cs (λ c. c.1 ≢ word_of Num 0 0) → IsTold L b n
last_told m [] L b n h a high some = absurd high
last_told m (c ∷ cs) [] b n h a high some = absurd h
last_told m (c ∷ []) (p ∷ []) b n h a high some = record {
  offset = p.0;
  from = a.0;
  past = subst (λ o. n ≤ o) h.0 high;
  told = λ u e. some (zero_word h.1 (sym (ap (λ t. cond t p.1 u) (eq-eqb p.0 p.0 refl)) ∙ e));
}
last_told m (c ∷ []) (p ∷ q ∷ L) b n h a high some = absurd h.2
last_told m (c ∷ e ∷ cs) (p ∷ []) b n h a high some = absurd h.2
last_told m (c ∷ e ∷ cs) (p ∷ q ∷ L) b n h a high some =
    let r = last_told m (e ∷ cs) (q ∷ L) (suc p.0) n h.2 a.3 high some in
    let low = a.0 in
    let from = r.from in
    record {
      offset = r.offset;
      from = omega (arith, low, from);
      past = r.past;
      told = λ u e. r.told u (sym (ap (λ t. cond t p.1 (value_after (q ∷ L) r.offset u)) (ne_eqb p.0 r.offset (λ same. omega (arith, same, from)))) ∙ e);
    }

-- so an array that reaches past a height is as high as its last change tells
pub told_height : (m : Lookup) (cs : List (ℕ × Word)) (A L : Array) (top : ℕ) → IsPart 4 top A → ChangesFor 4 m cs L → AreChanges 0 L → IsPart 4 top (with A L) → 2 ≤ top
    → IsLast cs (λ c. 4 ^ (top - 1) ≤ c.0) → IsLast cs (λ c. c.1 ≢ word_of Num 0 0) → height 4 (with A L) ≡ top
told_height m cs A L top a f ascend whole high past some =
    let C = with A L in
    let own = heights_are_least 4 C four_wide whole.valid in
    let less : height 4 C ≤ top = own.least top whole.positive whole.below in
    elim (cases_lt (height 4 C) top) [
      | inl low ↦
          let t = last_told m cs L 0 (4 ^ (top - 1)) f ascend past some in
          let below = IsBelow-more (4 ^ height 4 C) (4 ^ (top - 1)) C (pow-le-pow_right (omega arith) (omega (arith, low))) own.room in
          absurd (t.told (at A t.offset) (sym ((changes_are_made A L a.valid ascend).1 t.offset) ∙ at_high (4 ^ (top - 1)) t.offset C below t.past))
      | inr reached ↦ omega (arith, less, reached)
    ]

-- changes that are put into a part, of which the last reaches past its first quarter
pub reached_top : {m : Lookup} {top : ℕ} {x : Word} {cs : List (ℕ × Word)} {A L : Array} → CanPut m top x 0 cs A L → 2 ≤ top
    → IsLast cs (λ c. 4 ^ (top - 1) ≤ c.0) → IsLast cs (λ c. c.1 ≢ word_of Num 0 0) → height 4 (put_at top 0 A L) ≡ top
reached_top {m} {top} {x} {cs} {A} {L} f high past some =
    let below : IsBelow (4 ^ top) L = subst (λ n. IsBelow n L) (let same : 0 + 1 * 4 ^ top ≡ 4 ^ top = omega arith in same) f.changes.below in
    let all : put_at top 0 A L ≡ with A L = ap (with A) (slice_whole (4 ^ top) L below) in
    ap (height 4) all ∙ told_height m cs A L top f.part.is_part f.changes.changes f.changes.ascend (subst (IsPart 4 top) all (changed_part f)) high past some

-- all of them are as many as there are
pub take_whole : (m : Lookup) (cs : List (ℕ × Word)) (L : Array) → ChangesFor 4 m cs L → take (length cs) L ≡ L
take_whole m [] [] f = refl
take_whole m [] (p ∷ L) f = absurd f
take_whole m (c ∷ cs) [] f = absurd f
take_whole m (c ∷ cs) (p ∷ L) f = ap (λ X. p ∷ X) (take_whole m cs L f.2)

-- the last of the first i + 1 changes is the one at place i
taken_last : (cs : List (ℕ × Word)) (i : ℕ) (d : ℕ × Word) (P Q : (ℕ × Word) → Type 0) → i < length cs → (P (get_or cs i d) → Q (get_or cs i d)) → IsLast (take (suc i) cs) P → IsLast (take (suc i) cs) Q
taken_last [] i d P Q lt f last = absurd (omega (arith, lt))
taken_last (c ∷ cs) zero d P Q lt f last = f last
taken_last (c ∷ []) (suc i) d P Q lt f last = absurd (omega (arith, lt))
taken_last (c ∷ e ∷ cs) (suc i) d P Q lt f last = taken_last (e ∷ cs) i d P Q (omega (arith, lt)) f last

pub last_taken : (cs : List (ℕ × Word)) (k : ℕ) (d : ℕ × Word) (P Q : (ℕ × Word) → Type 0) → 1 ≤ k → k ≤ length cs → (P (get_or cs (k - 1) d) → Q (get_or cs (k - 1) d)) → IsLast (take k cs) P → IsLast (take k cs) Q
last_taken cs k d P Q some fits f =
    let up : suc (k - 1) ≡ k = omega (arith, some) in
    subst (λ n. IsLast (take n cs) P → IsLast (take n cs) Q) up (taken_last cs (k - 1) d P Q (omega (arith, some, fits)) f)

-- one change less, if that one changes nothing
pub drops_last : (m : Lookup) (h k : ℕ) (cs : List (ℕ × Word)) (A L : Array) (d : ℕ × Word) → IsPart 4 h A → ChangesFor 4 m cs L → AreChanges 0 L → 1 ≤ k → k ≤ length cs
    → 4 ^ h ≤ (get_or cs (k - 1) d).0 → (get_or cs (k - 1) d).1 ≡ word_of Num 0 0 → with A (take (k - 1) L) ≡ with A (take k L)
drops_last m h k cs A L d a f ascend some fits past z =
    let up : suc (k - 1) ≡ k = omega (arith, some) in
    drops_zero m h (k - 1) cs A L d a f ascend (omega (arith, some, fits)) past z ∙ ap (λ n. with A (take n L)) up
