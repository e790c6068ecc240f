-- Small numbers in one word.
use Rattle.std.proofs.Common.{◌≡◌, ℕ, zero, suc, ◌+◌, ◌*◌, ◌/◌, ◌%◌, ◌^◌, ◌<◌, ◌≤◌, Bool, true, false, ltb, List, [], ◌∷◌, ◌++◌, map, length, get_or, take, drop, set, slice_index, Option, Some, None, refl, sym, ◌∙◌, ap, subst, inl, inr, ◌⊎◌, arith}
use Rattle.std.proofs.lemmas.Bool.{lt-ltb, le-ltb, cases_lt}
use Rattle.std.proofs.Math.Nat.{pow-succ', pow-zero}
use Rattle.std.proofs.lemmas.Nat.{pow-add}
use Rattle.std.proofs.lemmas.List.{drop_all, drop_more, length-drop, length-map, map-append, take_all, take_more, take_more_set}
use Rattle.hic_word.specs.declared.Kind.TheVariants.{Num}
use Rattle.hic_word.specs.declared.Word.{Word}
use Rattle.hic_word.specs.Lists.{AllBelow}
use Rattle.hic_word.specs.Width.{IsWidth, pack_limit}
use Rattle.hic_word.specs.Values.{Number, Ref, Value}
use Rattle.hic_word.specs.Canon.{small, small_more}
use Rattle.hic_word.specs.Names.{id_if, names_in}
use Rattle.hic_word.specs.Stands.{AWord, IsEmpty, IsNumber, IsPacked, IsStored, Lookup, NoWord, WordFor, WordsFor, pack_bits, word_of}
use Rattle.hic_word.proofs.callers.Forms.{by_width}
use Rattle.hic_word.proofs.callers.Bits.{digits_are_read, digits_value_below, bits_is, kind_is}

-- a word that is a number below l
abbrev pub IsSmall : ℕ → Word → Type 0
IsSmall l x = (x.kind ≡ Num) × (x.bits < l)

small_word : {w : ℕ} {m : Lookup} {x : Word} {v : Value} → WordFor w m x v → x.kind ≡ Num → v ≡ Number x.bits
small_word (IsNumber e) k = ap Number (sym (bits_is e))
small_word (IsEmpty e) k = let a = kind_is e in cc
small_word (IsPacked z e) k = let a = kind_is e in cc
small_word (IsStored z i e) k = let a = kind_is e in cc

abbrev pub AreSmall : ℕ → List Word → Type 0
AreSmall l [] = Unit {0}
AreSmall l (x ∷ xs) = IsSmall l x × AreSmall l xs

pub words_small : {w : ℕ} {m : Lookup} {xs : List Word} {vs : List Value} (l : ℕ) → WordsFor w m xs vs → AreSmall l xs → small l vs ≡ Some (map (λ x. x.bits) xs)
words_small l NoWord s = refl
words_small l (AWord {x = x} {xs = xs} {v = v} {vs = vs} f fs) s =
    ap (λ u. small l (u ∷ vs)) (small_word f s.0.0)
    ∙ ap (λ t. small_more t x.bits (small l vs)) (lt-ltb x.bits l s.0.1)
    ∙ ap (small_more true x.bits) (words_small l fs s.1)

abbrev pub HasLarge : ℕ → List Word → Type 0
HasLarge l [] = ⊥
HasLarge l (x ∷ xs) = (IsSmall l x → ⊥) ⊎ HasLarge l xs

none_more : (t : Bool) (n : ℕ) (o : Option (List ℕ)) → o ≡ None → small_more t n o ≡ None
none_more true n None e = refl
none_more true n (Some ns) e = cc
none_more false n o e = refl

large_word : {w : ℕ} {m : Lookup} {x : Word} {v : Value} (l : ℕ) (vs : List Value) → WordFor w m x v → (IsSmall l x → ⊥) → small l (v ∷ vs) ≡ None
large_word l vs (IsNumber {x = x} {n = n} e) b =
    elim (cases_lt n l) [
      | inl lt ↦ absurd (b (kind_is e, subst (λ k. k < l) (sym (bits_is e)) lt))
      | inr ge ↦ ap (λ t. small_more t n (small l vs)) (le-ltb n l ge)
    ]
large_word l vs (IsEmpty e) b = refl
large_word l vs (IsPacked z e) b = refl
large_word l vs (IsStored z i e) b = refl

large_later : (l : ℕ) (v : Value) (vs : List Value) → small l vs ≡ None → small l (v ∷ vs) ≡ None
large_later l (Number n) vs h = none_more (ltb n l) n (small l vs) h
large_later l (Ref H) vs h = refl

pub words_large : {w : ℕ} {m : Lookup} {xs : List Word} {vs : List Value} (l : ℕ) → WordsFor w m xs vs → HasLarge l xs → small l vs ≡ None
words_large l NoWord b = absurd b
words_large l (AWord {vs = vs} f fs) (inl b) = large_word l vs f b
words_large l (AWord {v = v} {vs = vs} f fs) (inr b) = large_later l v vs (words_large l fs b)

-- a word that is not small, at its place
pub large_at : (l : ℕ) (xs : List Word) (i : ℕ) (d : Word) → i < length xs → (IsSmall l (get_or xs i d) → ⊥) → HasLarge l xs
large_at l [] i d low b = absurd (omega arith)
large_at l (x ∷ xs) zero d low b = inl b
large_at l (x ∷ xs) (suc i) d low b = inr (large_at l xs i d (omega arith) b)

pub not_true : (r : Bool) {P : Type 0} → (P → r ≡ true) → r ≡ false → P → ⊥
not_true r f e p = let a = f p in cc

-- the widths have room: a power of the least number that cannot be packed is one of 2
power_of_power : (a n : ℕ) → (2 ^ a) ^ n ≡ 2 ^ (a * n)
power_of_power a zero = let e : a * 0 ≡ 0 = omega arith in rw e (pow-zero (2 ^ a))
power_of_power a (suc n) = let e : a * suc n ≡ a + a * n = omega arith in rw (e, pow-add 2 a (a * n), pow-succ' (2 ^ a) n, power_of_power a n) refl

pub limit_power : (w n : ℕ) → pack_limit w ^ n ≡ 2 ^ (64 / w * n)
limit_power w n = power_of_power (64 / w) n

full_power : {w : ℕ} → IsWidth w → pack_limit w ^ w ≡ 2 ^ 64
full_power = by_width (λ w. pack_limit w ^ w ≡ 2 ^ 64) refl refl refl

pub some_small : {w : ℕ} → IsWidth w → 1 ≤ pack_limit w
some_small = by_width (λ w. 1 ≤ pack_limit w) (omega arith) (omega arith) (omega arith)

-- all words from place i on are small, and their numbers are packed in `bits`
pub record IsPackedFrom (w : ℕ) (xs : List Word) (i bits : ℕ) : Type 0 where
  are_small : AreSmall (pack_limit w) (drop i xs)
  bits_are : bits ≡ pack_bits w (map (λ x. x.bits) (drop i xs))

pub packed_place : {w : ℕ} {xs : List Word} {i k bits : ℕ} → i ≡ k → IsPackedFrom w xs i bits → IsPackedFrom w xs k bits
packed_place {w} {xs} {bits = bits} same was = subst (λ j. IsPackedFrom w xs j bits) same was

pub none_packed : (w : ℕ) (xs : List Word) → length xs ≡ w → IsPackedFrom w xs w 0
none_packed w xs long =
    let none : drop w xs ≡ [] = drop_all w xs (omega arith) in
    record { are_small = subst (AreSmall (pack_limit w)) (sym none) tt; bits_are = sym (ap (λ ys. pack_bits w (map (λ x. x.bits) ys)) none) }

pub one_packed : {w : ℕ} (xs : List Word) (i j bits : ℕ) (d : Word) → i < length xs → i + 1 ≡ j → IsPackedFrom w xs j bits → IsSmall (pack_limit w) (get_or xs i d) → IsPackedFrom w xs i ((get_or xs i d).bits + pack_limit w * bits)
one_packed {w} xs i j bits d low next was s =
    let more : drop i xs ≡ get_or xs i d ∷ drop j xs = drop_more xs i d low ∙ ap (λ k. get_or xs i d ∷ drop k xs) next in
    record {
      are_small = subst (AreSmall (pack_limit w)) (sym more) (s, was.are_small);
      bits_are = ap (λ n. (get_or xs i d).bits + pack_limit w * n) was.bits_are ∙ sym (ap (λ ys. pack_bits w (map (λ x. x.bits) ys)) more);
    }

small_below : (l : ℕ) (xs : List Word) → AreSmall l xs → AllBelow l (map (λ x. x.bits) xs)
small_below l [] s = tt
small_below l (x ∷ xs) s = (s.0.1, small_below l xs s.1)

-- what is packed takes 64 bits at most
pub packed_room : {w : ℕ} → IsWidth w → (xs : List Word) (i bits : ℕ) → length xs ≡ w → IsPackedFrom w xs i bits → bits < 2 ^ 64
packed_room {w} wide xs i bits long was =
    let ns = map (λ x. x.bits) (drop i xs) in
    let short : length ns ≤ w = let a = length-map (drop i xs) (λ x. x.bits) in let b = length-drop i xs in omega arith in
    let below : pack_bits w ns < pack_limit w ^ w = digits_value_below (pack_limit w) w ns (some_small wide) (small_below (pack_limit w) (drop i xs) was.are_small) short in
    subst (λ n. n < 2 ^ 64) (sym was.bits_are) (subst (λ n. pack_bits w ns < n) (full_power wide) below)

-- one word more, at place i: what is packed then takes 64 bits at most
pub record IsStep (w : ℕ) (xs : List Word) (i n l bits : ℕ) : Type 0 where
  pub packed : IsPackedFrom w xs i (n + l * bits)
  pub room : n + l * bits < 2 ^ 64

pub packed_step : {w : ℕ} → IsWidth w → (xs : List Word) (i j l bits : ℕ) (d : Word) → length xs ≡ w → i < length xs → i + 1 ≡ j → l ≡ pack_limit w → IsPackedFrom w xs j bits → IsSmall (pack_limit w) (get_or xs i d) → IsStep w xs i (get_or xs i d).bits l bits
packed_step {w} wide xs i j l bits d long low next limit was s =
    let one : IsPackedFrom w xs i ((get_or xs i d).bits + l * bits) = subst (λ k. IsPackedFrom w xs i ((get_or xs i d).bits + k * bits)) (sym limit) (one_packed xs i j bits d low next was s) in
    record { packed = one; room = packed_room wide xs i _ long one }

-- no word that is small has a name
small_names : (l : ℕ) (xs : List Word) → AreSmall l xs → names_in xs ≡ []
small_names l [] s = refl
small_names l (x ∷ xs) s = rw (ap (λ k. id_if k x.bits) s.0.0, small_names l xs s.1) refl

pub all_packed_names : (w : ℕ) (xs : List Word) (bits : ℕ) → IsPackedFrom w xs 0 bits → names_in xs ≡ []
all_packed_names w xs bits was = small_names (pack_limit w) xs was.are_small

pub all_packed : {w : ℕ} (m : Lookup) (xs : List Word) (vs : List Value) (bits : ℕ) → IsPackedFrom w xs 0 bits → WordsFor w m xs vs → (ns : List ℕ) × (small (pack_limit w) vs ≡ Some ns) × (bits ≡ pack_bits w ns)
all_packed {w} m xs vs bits was f = (map (λ x. x.bits) xs, words_small (pack_limit w) f was.are_small, was.bits_are)

-- numbers read from a packed word
pub packed_number : {w : ℕ} → IsWidth w → (m : Lookup) (bits q : ℕ) (ns : List ℕ) (x : Word) → AllBelow (pack_limit w) ns → bits ≡ pack_bits w ns → x ≡ word_of Num 0 (bits / 2 ^ (64 / w * q) % pack_limit w) → WordFor w m x (Number (slice_index ns q))
packed_number {w} wide m bits q ns x small is e =
    let read : pack_bits w ns / pack_limit w ^ q % pack_limit w ≡ slice_index ns q = (digits_are_read (pack_limit w) ns (some_small wide) small).place q in
    IsNumber (e ∙ ap (word_of Num 0) (ap (λ n. n / 2 ^ (64 / w * q) % pack_limit w) is ∙ ap (λ p. pack_bits w ns / p % pack_limit w) (sym (limit_power w q)) ∙ read))

words_more : {w : ℕ} {m : Lookup} {xs : List Word} {vs : List Value} {x : Word} {v : Value} → WordsFor w m xs vs → WordFor w m x v → WordsFor w m (xs ++ x ∷ []) (vs ++ v ∷ [])
words_more NoWord f = AWord f NoWord
words_more (AWord g gs) f = AWord g (words_more gs f)

-- the first i words stand for the first i packed numbers
abbrev pub AreUnpacked : ℕ → ℕ → List Word → ℕ → Type 0
AreUnpacked w bits xs i = (m : Lookup) (ns : List ℕ) → AllBelow (pack_limit w) ns → length ns ≡ w → bits ≡ pack_bits w ns → WordsFor w m (take i xs) (map Number (take i ns))

pub none_unpacked : (w bits : ℕ) (xs : List Word) → AreUnpacked w bits xs 0
none_unpacked w bits xs m ns small long is = NoWord

pub one_unpacked : {w : ℕ} (bits i : ℕ) (xs : List Word) (y : Word) → i < length xs → i < w → AreUnpacked w bits xs i
    → ((m : Lookup) (ns : List ℕ) → AllBelow (pack_limit w) ns → bits ≡ pack_bits w ns → WordFor w m y (Number (slice_index ns i))) → AreUnpacked w bits (set xs i y) (i + 1)
one_unpacked {w} bits i xs y low less was f m ns small long is =
    let words : take (i + 1) (set xs i y) ≡ take i xs ++ y ∷ [] = take_more_set xs i y low in
    let numbers : map Number (take (i + 1) ns) ≡ map Number (take i ns) ++ Number (slice_index ns i) ∷ [] = ap (map Number) (take_more ns i 0 (omega arith)) ∙ map-append Number (take i ns) (slice_index ns i ∷ []) in
    subst (WordsFor w m (take (i + 1) (set xs i y))) (sym numbers) (subst (λ ys. WordsFor w m ys (map Number (take i ns) ++ Number (slice_index ns i) ∷ [])) (sym words) (words_more (was m ns small long is) (f m ns small is)))

pub all_unpacked : {w : ℕ} (bits i : ℕ) (xs : List Word) → length xs ≡ w → w ≤ i → AreUnpacked w bits xs i → (m : Lookup) (ns : List ℕ) → AllBelow (pack_limit w) ns → length ns ≡ w → bits ≡ pack_bits w ns → WordsFor w m xs (map Number ns)
all_unpacked {w} bits i xs long high was m ns small total is =
    subst (λ ys. WordsFor w m ys (map Number ns)) (take_all i xs (omega arith)) (subst (λ ks. WordsFor w m (take i xs) (map Number ks)) (take_all i ns (omega arith)) (was m ns small total is))
