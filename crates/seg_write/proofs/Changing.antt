-- The words and values that changes leave, of an array and of its quarters.
use Rattle.std.proofs.Common.{◌≡◌, ◌≢◌, ℕ, zero, suc, ◌+◌, ◌-◌, ◌*◌, ◌^◌, ◌<◌, ◌≤◌, List, [], ◌∷◌, map, length, take, cond, eqb, get_or, set, refl, sym, ◌∙◌, ap, subst, inl, inr, arith}
use Rattle.std.specs.List.{range_with_len}
use Rattle.std.proofs.Math.ListN.{length-set}
use Rattle.std.proofs.lemmas.Bool.{cases_eq, eq-eqb, ne_eqb}
use Rattle.std.proofs.lemmas.List.{get_or-set_other, get_or-set_same}
use Rattle.std.proofs.lemmas.Option.{slice_get-get_or}
use Rattle.std.proofs.Math.Nat.{pow-succ'}
use Rattle.hic_word.specs.declared.Word.{Word}
use Rattle.hic_word.specs.Values.{Array, IsArray, IsBelow, Value, at}
use Rattle.hic_word.specs.Changes.{AreChanges, value_after, with}
use Rattle.hic_word.specs.Parts.{slice, values}
use Rattle.hic_word.specs.declared.Kind.TheVariants.{Num}
use Rattle.hic_word.specs.Canon.{IsPart}
use Rattle.hic_word.specs.Stands.{AWord, Lookup, NoWord, WordFor, WordsFor, word_of}
use Rattle.hic_word.proofs.callers.Forms.{changes_are_made}
use Rattle.hic_word.proofs.callers.Slices.{slice_changes, slices_are_changed, slices_nest, value_after-slice, IsBelow-slice, slice_whole}
use Rattle.hic_word.specs.InMemory.{ChangesFor}
use Rattle.seg_read.proofs.Places.{word_at}
use Rattle.seg_write.specs.Puts.{FallInto, put_at, put_each, quarters_of}
use Rattle.seg_write.proofs.Cutting.{offset_from, take_ascends}

-- the changes up to one tell its word at its offset, and elsewhere what those before it tell
told : (m : Lookup) (cs : List (ℕ × Word)) (L : Array) (b i o : ℕ) (v : Value) (d : ℕ × Word) → ChangesFor 4 m cs L → AreChanges b L → (get_or cs i d).0 ≡ o → i < length cs → WordFor 4 m (get_or cs i d).1 (value_after (take (suc i) L) o v)
told m [] L b i o v d h a same lt = absurd (omega (arith, lt))
told m (c ∷ cs) [] b i o v d h a same lt = absurd h
told m (c ∷ cs) (p ∷ L) b zero o v d h a same lt = subst (λ t. WordFor 4 m c.1 (cond t p.1 v)) (sym (eq-eqb p.0 o (sym h.0 ∙ same))) h.1
told m (c ∷ cs) (p ∷ L) b (suc i) o v d h a same lt =
    let later = offset_from m cs L (suc p.0) i (get_or cs i d) h.2 a.3 (slice_get-get_or cs i d (omega (arith, lt))) in
    subst (λ t. WordFor 4 m (get_or cs i d).1 (cond t p.1 (value_after (take (suc i) L) o v))) (sym (ne_eqb p.0 o (λ e. omega (arith, later, same, e)))) (told m cs L (suc p.0) i o v d h.2 a.3 same (omega (arith, lt)))

passed_over : (m : Lookup) (cs : List (ℕ × Word)) (L : Array) (i o : ℕ) (v : Value) (d : ℕ × Word) → ChangesFor 4 m cs L → (get_or cs i d).0 ≢ o → i < length cs → value_after (take (suc i) L) o v ≡ value_after (take i L) o v
passed_over m [] L i o v d h other lt = absurd (omega (arith, lt))
passed_over m (c ∷ cs) [] i o v d h other lt = absurd h
passed_over m (c ∷ cs) (p ∷ L) zero o v d h other lt = ap (λ t. cond t p.1 v) (ne_eqb p.0 o (λ e. other (h.0 ∙ e)))
passed_over m (c ∷ cs) (p ∷ L) (suc i) o v d h other lt = ap (cond (eqb p.0 o) p.1) (passed_over m cs L i o v d h.2 other (omega (arith, lt)))

-- changes are as many as their words
pub changes_long : (m : Lookup) (cs : List (ℕ × Word)) (L : Array) → ChangesFor 4 m cs L → length L ≡ length cs
changes_long m [] [] h = refl
changes_long m [] (p ∷ L) h = absurd h
changes_long m (c ∷ cs) [] h = absurd h
changes_long m (c ∷ cs) (p ∷ L) h = ap suc (changes_long m cs L h.2)

-- the values of an array of height h with the changes that fall into it
pub at-put_at : (h b c : ℕ) (A L : Array) (i : ℕ) → IsArray A → AreChanges c L → i < 4 ^ h → at (put_at h b A L) i ≡ value_after L (b + i) (at A i)
at-put_at h b c A L i a cs lt = (changes_are_made A (slice b (4 ^ h) L) a (slice_changes b (4 ^ h) c L cs)).1 i ∙ value_after-slice b (4 ^ h) L i (at A i) lt

-- a part with changes is a part, since it is its own first slice
pub part_put : (h b c : ℕ) (A L : Array) → IsPart 4 h A → AreChanges c L → IsPart 4 h (put_at h b A L)
part_put h b c A L part a =
    let s = 4 ^ h in
    let S = slice b s L in
    let changes = slice_changes b s c L a in
    let same : slice 0 s (with A S) ≡ with A S = slices_are_changed 0 s 0 A S part.valid changes ∙ ap (λ X. with X (slice 0 s S)) (slice_whole s A part.below) ∙ ap (with A) (slice_whole s S (IsBelow-slice b s L)) in
    record { positive = part.positive; low = part.low; valid = (changes_are_made A S part.valid changes).0; below = subst (IsBelow s) same (IsBelow-slice 0 s (with A S)) }

-- changes that fall into an array fall into its quarters
pub four_quarters : (h : ℕ) → 1 ≤ h → 4 * 4 ^ (h - 1) ≡ 4 ^ h
four_quarters h some = sym (pow-succ' 4 (h - 1)) ∙ (let back : suc (h - 1) ≡ h = omega arith in ap (λ k. 4 ^ k) back)

pub fall_quarters : (m : Lookup) (h b : ℕ) (cs : List (ℕ × Word)) (L : Array) → 2 ≤ h → FallInto m h b 1 cs L → FallInto m (h - 1) b 4 cs L
fall_quarters m h b cs L high f = record {
  changes = f.changes;
  ascend = f.ascend;
  below = subst (λ n. IsBelow n L) (let four = four_quarters h (omega arith) in omega (arith, four)) f.below;
}

-- slices beside one another, each with the changes that fall into it, are the slices of the array with changes; so are quarters
slices_put : (n q b k s : ℕ) (A L : Array) → (q + n) * 4 ^ k ≤ s → IsArray A → AreChanges 0 (slice b s L)
    → put_each k (b + q * 4 ^ k) (map (λ q. slice (q * 4 ^ k) (4 ^ k) A) (range_with_len q n)) L ≡ map (λ q. slice (q * 4 ^ k) (4 ^ k) (with A (slice b s L))) (range_with_len q n)
slices_put zero q b k s A L room a changes = refl
slices_put (suc n) q b k s A L room a changes =
    let t = 4 ^ k in
    let fits : q * t + t ≤ s = omega (arith, room) in
    let first : put_at k (b + q * t) (slice (q * t) t A) L ≡ slice (q * t) t (with A (slice b s L)) = ap (with (slice (q * t) t A)) (sym (slices_nest b s (q * t) t L fits)) ∙ sym (slices_are_changed (q * t) t 0 A (slice b s L) a changes) in
    let next : b + q * t + t ≡ b + (q + 1) * t = omega arith in
    ap (λ X. X ∷ put_each k (b + q * t + t) (map (λ q. slice (q * t) t A) (range_with_len (q + 1) n)) L) first
    ∙ ap (λ Xs. slice (q * t) t (with A (slice b s L)) ∷ Xs) (ap (λ c. put_each k c (map (λ q. slice (q * t) t A) (range_with_len (q + 1) n)) L) next ∙ slices_put n (q + 1) b k s A L (omega (arith, room)) a changes)

pub quarters_put : (h b c : ℕ) (A L : Array) → IsPart 4 h A → AreChanges c L → put_each (h - 1) b (quarters_of h A) L ≡ quarters_of h (put_at h b A L)
quarters_put h b c A L part a =
    let start : b ≡ b + 0 * 4 ^ (h - 1) = omega arith in
    let four = four_quarters h part.positive in
    ap (λ o. put_each (h - 1) o (quarters_of h A) L) start ∙ slices_put 4 0 b (h - 1) (4 ^ h) A L (omega (arith, four)) part.valid (slice_changes b (4 ^ h) c L a)

-- four words that stand for the values at the offsets 0 to 3
four_words : (m : Lookup) (B : Array) (xs : List Word) (z : Word) → length xs ≡ 4 → ((q : ℕ) → q < 4 → WordFor 4 m (get_or xs q z) (at B q)) → WordsFor 4 m xs (values 4 0 B)
four_words m B [] z long f = absurd (omega (arith, long))
four_words m B (a ∷ []) z long f = absurd (omega (arith, long))
four_words m B (a ∷ b ∷ []) z long f = absurd (omega (arith, long))
four_words m B (a ∷ b ∷ c ∷ []) z long f = absurd (omega (arith, long))
four_words m B (a ∷ b ∷ c ∷ e ∷ []) z long f = AWord (f 0 (omega arith)) (AWord (f 1 (omega arith)) (AWord (f 2 (omega arith)) (AWord (f 3 (omega arith)) NoWord)))
four_words m B (a ∷ b ∷ c ∷ e ∷ x ∷ xs) z long f = absurd (omega (arith, long))

words_long : {m : Lookup} (xs : List Word) (vs : List Value) → WordsFor 4 m xs vs → length xs ≡ length vs
words_long [] [] NoWord = refl
words_long [] (v ∷ vs) f = elim f [ ]
words_long (x ∷ xs) [] f = elim f [ ]
words_long (x ∷ xs) (v ∷ vs) (AWord w ws) = ap suc (words_long xs vs ws)

-- one change more in the words of a lowest part
pub put_next : (m : Lookup) (b i : ℕ) (cs : List (ℕ × Word)) (A L : Array) (words : List Word) (d : ℕ × Word) → IsArray A → FallInto m 1 b 1 cs L → i < length cs
    → WordsFor 4 m words (values 4 0 (put_at 1 b A (take i L))) → WordsFor 4 m (set words ((get_or cs i d).0 - b) (get_or cs i d).1) (values 4 0 (put_at 1 b A (take (suc i) L)))
put_next m b i cs A L words d a f lt before =
    let long : length words ≡ 4 = words_long words (values 4 0 (put_at 1 b A (take i L))) before in
    let z = word_of Num 0 0 in
    let o = (get_or cs i d).0 in
    let w = (get_or cs i d).1 in
    let from : b ≤ o = offset_from m cs L b i (get_or cs i d) f.changes f.ascend (slice_get-get_or cs i d lt) in
    let now : (q : ℕ) → q < 4 → at (put_at 1 b A (take (suc i) L)) q ≡ value_after (take (suc i) L) (b + q) (at A q) = λ q low. at-put_at 1 b b A (take (suc i) L) q a (take_ascends b (suc i) L f.ascend) low in
    let then : (q : ℕ) → q < 4 → at (put_at 1 b A (take i L)) q ≡ value_after (take i L) (b + q) (at A q) = λ q low. at-put_at 1 b b A (take i L) q a (take_ascends b i L f.ascend) low in
    four_words m (put_at 1 b A (take (suc i) L)) (set words (o - b) w) z (length-set words (o - b) w ∙ long) (λ q low. elim (cases_eq q (o - b)) [
      | inl same ↦
          let here : get_or (set words (o - b) w) q z ≡ w = ap (λ k. get_or (set words (o - b) w) k z) same ∙ get_or-set_same words (o - b) w z (omega (arith, low, same, long)) in
          subst (λ x. WordFor 4 m x (at (put_at 1 b A (take (suc i) L)) q)) (sym here) (subst (WordFor 4 m w) (sym (now q low)) (told m cs L b i (b + q) (at A q) d f.changes f.ascend (omega (arith, same, from)) lt))
      | inr other ↦
          let there : get_or (set words (o - b) w) q z ≡ get_or words q z = get_or-set_other words (o - b) q w z other in
          let value = then q low ∙ sym (passed_over m cs L i (b + q) (at A q) d f.changes (λ e. other (omega (arith, e))) lt) ∙ sym (now q low) in
          subst (λ x. WordFor 4 m x (at (put_at 1 b A (take (suc i) L)) q)) (sym there) (subst (WordFor 4 m (get_or words q z)) value (word_at q (put_at 1 b A (take i L)) words z before low))
    ])
