-- Which places are not 0: by tests of words, and by the entries and values that the words stand for.
use Rattle.std.proofs.Common.{◌≡◌, ◌≢◌, ◌↔◌, ℕ, zero, suc, ◌+◌, ◌<◌, ◌≤◌, Bool, true, false, IsTrue, List, [], ◌∷◌, ◌++◌, map, length, get_or, take, None, refl, sym, ◌∙◌, ap, subst, arith}
use Rattle.std.specs.Prelude.{option_to_list}
use Rattle.std.proofs.lemmas.List.{length-append, take_all, take_more}
use Rattle.hic_word.specs.declared.Kind.TheVariants as kinds
use Rattle.hic_word.specs.declared.Word.{Word}
use Rattle.hic_word.specs.Values.{Number, Value}
use Rattle.hic_word.specs.Entries.{Entries, Entry, Named, Pack, Zero, entries}
use Rattle.hic_word.specs.Canon.{AllZero, Alone, Sole, all_zero, alone, next, sole}
use Rattle.hic_word.specs.Canon as canon
use Rattle.hic_word.specs.Names.{named_id, names_in}
use Rattle.hic_word.specs.Stands.{AWord, AnEntry, EntriesFor, EntryFor, IsEmpty, IsNumber, IsPacked, IsStored, Lookup, NamedEntry, NoEntries, NoWord, PackEntry, WordFor, WordsFor, ZeroEntry, word_of}
use Rattle.hic_word.proofs.callers.Forms.{alone-alone, next-alone}
use Rattle.hic_word.proofs.callers.Bits.{bits_is, kind_is}
use Rattle.seg_canon.specs.declared.filled.Filled.{Filled}
use Rattle.seg_canon.specs.declared.filled.Filled.TheVariants.{Nowhere, At, Several}
use Rattle.seg_canon.specs.Filled.{AreTests, all_true, filled_of, first_if, further}

abbrev pub zero_entry : Entry → Bool
zero_entry Zero = true
zero_entry (Pack ns) = false
zero_entry (Named L p) = false

-- the test of one word
abbrev IsTest : Word → Bool → Type 0
IsTest x z = IsTrue z ↔ (x ≡ word_of kinds.Num 0 0)

tests_entry : {w : ℕ} {m : Lookup} {x : Word} {e : Entry} (z : Bool) → EntryFor w m x e → IsTest x z → z ≡ zero_entry e
tests_entry z (ZeroEntry e) t = t.1 e
tests_entry false (PackEntry e) t = refl
tests_entry true (PackEntry e) t = let a = kind_is (t.0 refl) in let b = kind_is e in cc
tests_entry false (NamedEntry i e) t = refl
tests_entry true (NamedEntry i e) t = let a = kind_is (t.0 refl) in let b = kind_is e in cc

pub tests_entries : {w : ℕ} {m : Lookup} {xs : List Word} {es : Entries} (zs : List Bool) → EntriesFor w m xs es → AreTests xs zs → zs ≡ map zero_entry (entries es)
tests_entries [] NoEntries t = refl
tests_entries (z ∷ zs) NoEntries t = absurd t
tests_entries [] (AnEntry e es) t = absurd t
tests_entries (z ∷ zs) (AnEntry e es) t = let first = tests_entry z e t.0 in let rest = tests_entries zs es t.1 in cc

-- the places of the entries that are not `Zero`
abbrev pub filled_by : Sole → Filled
filled_by AllZero = Nowhere
filled_by (Alone q e) = At q
filled_by canon.Several = Several

all_zeros : (es : List Entry) → all_true (map zero_entry es) ≡ all_zero es
all_zeros [] = refl
all_zeros (Zero ∷ es) = all_zeros es
all_zeros (Pack ns ∷ es) = refl
all_zeros (Named L p ∷ es) = refl

further-next : (s : Sole) → further (filled_by s) ≡ filled_by (next s)
further-next AllZero = refl
further-next (Alone q e) = refl
further-next canon.Several = refl

first-alone : (t : Bool) (e : Entry) → first_if t ≡ filled_by (alone t e)
first-alone true e = refl
first-alone false e = refl

pub filled_sole : (es : List Entry) → filled_of (map zero_entry es) ≡ filled_by (sole es)
filled_sole [] = refl
filled_sole (Zero ∷ es) = ap further (filled_sole es) ∙ further-next (sole es)
filled_sole (Pack ns ∷ es) = ap first_if (all_zeros es) ∙ first-alone (all_zero es) (Pack ns)
filled_sole (Named L p ∷ es) = ap first_if (all_zeros es) ∙ first-alone (all_zero es) (Named L p)

-- what is told of places
further-nowhere : (f : Filled) → further f ≡ Nowhere → f ≡ Nowhere
further-nowhere Nowhere h = refl
further-nowhere (At q) h = cc
further-nowhere Several h = cc

further-at : (f : Filled) (q : ℕ) → further f ≡ At q → (r : ℕ) × (f ≡ At r) × (q ≡ suc r)
further-at Nowhere q h = cc
further-at (At r) q h = (r, refl, cc)
further-at Several q h = cc

first-nowhere : (t : Bool) → first_if t ≡ Nowhere → ⊥
first-nowhere true h = cc
first-nowhere false h = cc

first-at : (t : Bool) (q : ℕ) → first_if t ≡ At q → (t ≡ true) × (q ≡ 0)
first-at true q h = (refl, cc)
first-at false q h = cc

no_name : {x : Word} → x ≡ word_of kinds.Num 0 0 → named_id x ≡ None
no_name e = ap named_id e

names_none : (xs : List Word) (zs : List Bool) → AreTests xs zs → all_true zs ≡ true → names_in xs ≡ []
names_none [] [] t h = refl
names_none [] (z ∷ zs) t h = absurd t
names_none (x ∷ xs) [] t h = absurd t
names_none (x ∷ xs) (false ∷ zs) t h = cc
names_none (x ∷ xs) (true ∷ zs) t h = rw (no_name (t.0.0 refl), names_none xs zs t.1 h) refl

pub nowhere_true : (zs : List Bool) → filled_of zs ≡ Nowhere → all_true zs ≡ true
nowhere_true [] h = refl
nowhere_true (true ∷ zs) h = nowhere_true zs (further-nowhere (filled_of zs) h)
nowhere_true (false ∷ zs) h = absurd (first-nowhere (all_true zs) h)

-- words that are all 0 name nothing; where one alone is not, its name is the only one
pub names_nowhere : (xs : List Word) (zs : List Bool) → AreTests xs zs → filled_of zs ≡ Nowhere → names_in xs ≡ []
names_nowhere xs zs t h = names_none xs zs t (nowhere_true zs h)

pub names_at : (xs : List Word) (zs : List Bool) (q : ℕ) (d : Word) → AreTests xs zs → filled_of zs ≡ At q → names_in xs ≡ option_to_list (named_id (get_or xs q d)) ++ []
names_at [] [] q d t h = cc
names_at [] (z ∷ zs) q d t h = absurd t
names_at (x ∷ xs) [] q d t h = absurd t
names_at (x ∷ xs) (true ∷ zs) q d t h = let (r, was, is) = further-at (filled_of zs) q h in rw (is, no_name (t.0.0 refl)) (names_at xs zs r d t.1 was)
names_at (x ∷ xs) (false ∷ zs) q d t h = let (zeros, is) = first-at (all_true zs) q h in rw (is, names_none xs zs t.1 zeros) refl

pub place_below : (xs : List Word) (zs : List Bool) (q : ℕ) → AreTests xs zs → filled_of zs ≡ At q → q < length xs
place_below [] [] q t h = cc
place_below [] (z ∷ zs) q t h = absurd t
place_below (x ∷ xs) [] q t h = absurd t
place_below (x ∷ xs) (true ∷ zs) q t h = let (r, was, is) = further-at (filled_of zs) q h in let below = place_below xs zs r t.1 was in omega arith
place_below (x ∷ xs) (false ∷ zs) q t h = let (zeros, is) = first-at (all_true zs) q h in omega arith

-- one more test behind others
pub tests_more : (xs : List Word) (zs : List Bool) (x : Word) (z : Bool) → AreTests xs zs → IsTest x z → AreTests (xs ++ x ∷ []) (zs ++ z ∷ [])
tests_more [] [] x z t f = (f, tt)
tests_more [] (y ∷ zs) x z t f = absurd t
tests_more (u ∷ xs) [] x z t f = absurd t
tests_more (u ∷ xs) (y ∷ zs) x z t f = (t.0, tests_more xs zs x z t.1 f)

-- the places where tests fail, with one more, behind them
abbrev after_place : Filled → ℕ → Filled
after_place Nowhere q = At q
after_place (At r) q = Several
after_place Several q = Several

abbrev more_places : Bool → Filled → ℕ → Filled
more_places true f q = f
more_places false f q = after_place f q

further-more : (z : Bool) (f : Filled) (q : ℕ) → further (more_places z f q) ≡ more_places z (further f) (suc q)
further-more true f q = refl
further-more false Nowhere q = refl
further-more false (At r) q = refl
further-more false Several q = refl

all-more : (zs : List Bool) (z : Bool) (q : ℕ) → first_if (all_true (zs ++ z ∷ [])) ≡ more_places z (first_if (all_true zs)) q
all-more [] true q = refl
all-more [] false q = refl
all-more (true ∷ zs) z q = all-more zs z q
all-more (false ∷ zs) true q = refl
all-more (false ∷ zs) false q = refl

filled_more : (zs : List Bool) (z : Bool) → filled_of (zs ++ z ∷ []) ≡ more_places z (filled_of zs) (length zs)
filled_more [] true = refl
filled_more [] false = refl
filled_more (true ∷ zs) z = ap further (filled_more zs z) ∙ further-more z (filled_of zs) (length zs)
filled_more (false ∷ zs) z = all-more zs z (suc (length zs))

-- the first i of some words have these places that are not 0
pub record IsFilled (xs : List Word) (i : ℕ) (f : Filled) : Type 0 where
  tests : List Bool
  long : length tests ≡ i
  are_tests : AreTests (take i xs) tests
  places : f ≡ filled_of tests

pub none_filled : (xs : List Word) → IsFilled xs 0 Nowhere
none_filled xs = record { tests = []; long = refl; are_tests = tt; places = refl }

one_filled : (xs : List Word) (i : ℕ) (d : Word) (f g : Filled) (z : Bool) → i < length xs → IsFilled xs i f → IsTest (get_or xs i d) z → g ≡ more_places z f i → IsFilled xs (i + 1) g
one_filled xs i d f g z low was t e = record {
  tests = was.tests ++ z ∷ [];
  long = length-append was.tests (z ∷ []) ∙ ap (λ n. n + 1) was.long;
  are_tests = subst (λ ys. AreTests ys (was.tests ++ z ∷ [])) (sym (take_more xs i d low)) (tests_more (take i xs) was.tests (get_or xs i d) z was.are_tests t);
  places = e ∙ ap (λ p. more_places z p i) was.places ∙ ap (more_places z (filled_of was.tests)) (sym was.long) ∙ sym (filled_more was.tests z);
}

-- the places by how many they are, and the last
abbrev pub told : ℕ → ℕ → Filled
told zero q = Nowhere
told (suc zero) q = At q
told (suc (suc n)) q = Several

after_told : (n q p k : ℕ) → k ≡ n + 1 → told k p ≡ after_place (told n q) p
after_told zero q p k e = let one : k ≡ 1 = omega arith in ap (λ j. told j p) one
after_told (suc zero) q p k e = let two : k ≡ 2 = omega arith in ap (λ j. told j p) two
after_told (suc (suc n)) q p k e = let more : k ≡ suc (suc (suc n)) = omega arith in ap (λ j. told j p) more

pub told_several : (n q : ℕ) → 2 ≤ n → told n q ≡ Several
told_several zero q more = absurd (omega arith)
told_several (suc zero) q more = absurd (omega arith)
told_several (suc (suc n)) q more = refl

-- a step of the walk over the words
pub zero_passed : (xs : List Word) (i n q k p : ℕ) (d : Word) (z : Bool) → i < length xs → IsFilled xs i (told n q) → IsTest (get_or xs i d) z → z ≡ true → k ≡ n → p ≡ q → IsFilled xs (i + 1) (told k p)
zero_passed xs i n q k p d z low was t e a b = one_filled xs i d (told n q) (told k p) z low was t (ap (λ j. told j p) a ∙ ap (told n) b ∙ sym (ap (λ y. more_places y (told n q) i) e))

pub place_filled : (xs : List Word) (i n q k p : ℕ) (d : Word) (z : Bool) → i < length xs → IsFilled xs i (told n q) → IsTest (get_or xs i d) z → z ≡ false → k ≡ n + 1 → p ≡ i → IsFilled xs (i + 1) (told k p)
place_filled xs i n q k p d z low was t e a b = one_filled xs i d (told n q) (told k p) z low was t (ap (told k) b ∙ after_told n q i k a ∙ sym (ap (λ y. more_places y (told n q) i) e))

pub all_filled : (xs : List Word) (i : ℕ) (f g : Filled) → length xs ≤ i → IsFilled xs i f → g ≡ f → (zs : List Bool) × AreTests xs zs × (g ≡ filled_of zs)
all_filled xs i f g high was same = (was.tests, subst (λ ys. AreTests ys was.tests) (take_all i xs high) was.are_tests, same ∙ was.places)

-- values that are all 0
abbrev pub AreZero : List Value → Type 0
AreZero [] = Unit {0}
AreZero (v ∷ vs) = (v ≡ Number 0) × AreZero vs

-- the word 0 stands for the number 0 and for the entry of an empty part, and no other word does
pub zero_value : {w : ℕ} {m : Lookup} {x : Word} {v : Value} → WordFor w m x v → x ≡ word_of kinds.Num 0 0 → v ≡ Number 0
zero_value (IsNumber e) z = ap Number (sym (bits_is e) ∙ bits_is z)
zero_value (IsEmpty e) z = let a = kind_is e in let b = kind_is z in cc
zero_value (IsPacked r e) z = let a = kind_is e in let b = kind_is z in cc
zero_value (IsStored r i e) z = let a = kind_is e in let b = kind_is z in cc

pub zero_word : {w : ℕ} {m : Lookup} {x : Word} {v : Value} → WordFor w m x v → v ≡ Number 0 → x ≡ word_of kinds.Num 0 0
zero_word (IsNumber {n = n} e) z = let same : n ≡ 0 = cc in e ∙ ap (word_of kinds.Num 0) same
zero_word (IsEmpty e) z = cc
zero_word (IsPacked r e) z = cc
zero_word (IsStored r i e) z = cc

pub zero_entry_of : {w : ℕ} {m : Lookup} {x : Word} {e : Entry} → EntryFor w m x e → x ≡ word_of kinds.Num 0 0 → e ≡ Zero
zero_entry_of (ZeroEntry e) z = refl
zero_entry_of (PackEntry e) z = let a = kind_is e in let b = kind_is z in cc
zero_entry_of (NamedEntry i e) z = let a = kind_is e in let b = kind_is z in cc

pub zero_word_of : {w : ℕ} {m : Lookup} {x : Word} {e : Entry} → EntryFor w m x e → e ≡ Zero → x ≡ word_of kinds.Num 0 0
zero_word_of (ZeroEntry e) z = e
zero_word_of (PackEntry e) z = cc
zero_word_of (NamedEntry i e) z = cc

zero_values : {w : ℕ} {m : Lookup} {xs : List Word} {vs : List Value} (zs : List Bool) → WordsFor w m xs vs → AreTests xs zs → all_true zs ≡ true → AreZero vs
zero_values zs NoWord t h = tt
zero_values [] (AWord x xs) t h = absurd t
zero_values (false ∷ zs) (AWord x xs) t h = cc
zero_values (true ∷ zs) (AWord x xs) t h = (zero_value x (t.0.0 refl), zero_values zs xs t.1 h)

pub nowhere_zero : {w : ℕ} {m : Lookup} {xs : List Word} {vs : List Value} (zs : List Bool) → WordsFor w m xs vs → AreTests xs zs → filled_of zs ≡ Nowhere → AreZero vs
nowhere_zero zs w t h = zero_values zs w t (nowhere_true zs h)

pub zero_nowhere : {w : ℕ} {m : Lookup} {xs : List Word} {vs : List Value} (zs : List Bool) → WordsFor w m xs vs → AreTests xs zs → AreZero vs → filled_of zs ≡ Nowhere
zero_nowhere [] NoWord t h = refl
zero_nowhere (z ∷ zs) NoWord t h = absurd t
zero_nowhere [] (AWord x xs) t h = absurd t
zero_nowhere (z ∷ zs) (AWord x xs) t h = rw (t.0.1 (zero_word x h.0), zero_nowhere zs xs t.1 h.1) refl

-- entries of which one alone is not `Zero`
zero_get : (es : List Entry) (i : ℕ) → all_zero es ≡ true → get_or es i Zero ≡ Zero
zero_get [] i h = refl
zero_get (Zero ∷ es) zero h = refl
zero_get (Zero ∷ es) (suc i) h = zero_get es i h
zero_get (Pack ns ∷ es) i h = cc
zero_get (Named L p ∷ es) i h = cc

abbrev IsOnly : List Entry → ℕ → Entry → Type 0
IsOnly es q e = (get_or es q Zero ≡ e) × ((i : ℕ) → i ≢ q → get_or es i Zero ≡ Zero)

only_here : (e : Entry) (es : List Entry) → all_zero es ≡ true → IsOnly (e ∷ es) 0 e
only_here e es h = (refl, other)
  where
    other : (i : ℕ) → i ≢ 0 → get_or (e ∷ es) i Zero ≡ Zero
    other zero n = absurd (n refl)
    other (suc i) n = zero_get es i h

only_later : (es : List Entry) (q : ℕ) (e : Entry) → IsOnly es q e → IsOnly (Zero ∷ es) (suc q) e
only_later es q e o = (o.0, other)
  where
    other : (i : ℕ) → i ≢ suc q → get_or (Zero ∷ es) i Zero ≡ Zero
    other zero n = refl
    other (suc i) n = o.1 i (λ s. n (ap suc s))

pub sole_only : (es : List Entry) (q : ℕ) (e : Entry) → sole es ≡ Alone q e → IsOnly es q e
sole_only [] q e h = cc
sole_only (Zero ∷ es) q e h = let (r, was, is) = next-alone (sole es) q e h in subst (λ k. IsOnly (Zero ∷ es) k e) (sym is) (only_later es r e (sole_only es r e was))
sole_only (Pack ns ∷ es) q e h = let (zeros, same, is) = alone-alone (all_zero es) (Pack ns) q e h in subst (λ k. IsOnly (Pack ns ∷ es) k e) (sym is) (subst (IsOnly (Pack ns ∷ es) 0) same (only_here (Pack ns) es zeros))
sole_only (Named L p ∷ es) q e h = let (zeros, same, is) = alone-alone (all_zero es) (Named L p) q e h in subst (λ k. IsOnly (Named L p ∷ es) k e) (sym is) (subst (IsOnly (Named L p ∷ es) 0) same (only_here (Named L p) es zeros))

filled-alone : (s : Sole) (q : ℕ) → filled_by s ≡ At q → (e : Entry) × (s ≡ Alone q e)
filled-alone AllZero q h = cc
filled-alone (Alone r e) q h = (e, let same : r ≡ q = cc in ap (λ k. Alone k e) same)
filled-alone canon.Several q h = cc

pub sole_at : (es : List Entry) (q : ℕ) → filled_by (sole es) ≡ At q → sole es ≡ Alone q (get_or es q Zero)
sole_at es q h = let (e, is) = filled-alone (sole es) q h in is ∙ ap (Alone q) (sym (sole_only es q e is).0)
