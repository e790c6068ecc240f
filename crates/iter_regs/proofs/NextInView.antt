-- The search for the next value of a view: A is the snapshot, L the pairs over it.
use Rattle.std.proofs.Common.{◌≡◌, ℕ, suc, ◌+◌, ◌*◌, ◌^◌, ◌<◌, ◌≤◌, eqb, nat_lt, cond, if◌then◌else◌, Bool, true, false, IsTrue, ◌↔◌, [], ◌∷◌, drop, length, Option, Some, None, refl, sym, ◌∙◌, ap, subst, inl, inr, arith}
use Rattle.std.proofs.Math.Nat.{mul-le-mul_left}
use Rattle.std.specs.Option.{option_eq}
use Rattle.std.proofs.lemmas.Bool.{cases_lt, eq-eqb, eqb-false, ne_eqb}
use Rattle.std.proofs.lemmas.Bool.Decides.{nat_tests}
use Rattle.hic_word.specs.Values.{Array, IsArray, Number, Value, at, is_zero}
use Rattle.hic_word.specs.View.{next_of}
use Rattle.hic_word.specs.ArrayLaws.{IsNext}
use Rattle.hic_word.specs.Changes.{AreChanges, value_after, with}
use Rattle.hic_word.specs.Memory.{Memory, line_at, width}
use Rattle.hic_word.specs.InMemory.{CanApply, ChangesFor, WordIn}
use Rattle.hic_word.specs.declared.Word.{Word}
use Rattle.hic_word.specs.declared.Kind.TheVariants.{Num}
use Rattle.hic_word.specs.Stands.{Lookup, word_of}
use Rattle.seg_canon.proofs.Filling.{zero_value, zero_word}
use Rattle.line_mem.specs.Looks.{LooksUpTo}
use Rattle.hic_word.proofs.callers.Forms.{at_high, changes_are_made, next_is_least, sorted_array}
use Rattle.write_buf.specs.WordPairs.{WordPairs, pairs_from}
use Rattle.iter_regs.specs.Iters.{one_if, search_looks, zeros}

-- ---- what `next_of` is

-- the least offset with a value that is not 0 is the next one
is_next : (A : Array) (i o : ℕ) → IsArray A → IsNext A i o → next_of A i ≡ Some o
is_next A i o a n = go (next_of A i) refl
  where
    go : (r : Option ℕ) → next_of A i ≡ r → next_of A i ≡ Some o
    go None e = absurd (n.some ((next_is_least A i a).none e o n.from))
    go (Some p) e =
        let f = (next_is_least A i a).found p e in
        elim (cases_lt p o) [
          | inl low ↦ absurd (f.some (n.least p f.from low))
          | inr high ↦ elim (cases_lt o p) [
            | inl less ↦ absurd (n.some (f.least o n.from less))
            | inr more ↦ e ∙ ap (λ (x : ℕ). Some x) (omega (arith, high, more))
          ]
        ]

-- past the values of an array there is no next one
no_next : (A : Array) (i : ℕ) → IsArray A → ((j : ℕ) → i ≤ j → at A j ≡ Number 0) → next_of A i ≡ None
no_next A i a zero = go (next_of A i) refl
  where
    go : (r : Option ℕ) → next_of A i ≡ r → next_of A i ≡ None
    go None e = e
    go (Some p) e = let f = (next_is_least A i a).found p e in absurd (f.some (zero p f.from))

-- past the last offset there is none
pub no_next_past : (A : Array) (i : ℕ) → IsArray A → 2 ^ 32 ≤ i → next_of A i ≡ None
no_next_past A i a high = no_next A i a (λ j from. at_high (2 ^ 32) j A (sorted_array A a).below (omega (arith, from, high)))

-- ---- pairs over an array

-- below all pairs an array keeps its values
untouched : (b i : ℕ) (L : Array) (v : Value) → AreChanges b L → i < b → value_after L i v ≡ v
untouched b i [] v valid low = refl
untouched b i (p ∷ L) v valid low = ap (λ t. cond t p.1 (value_after L i v)) (ne_eqb p.0 i (λ e. let q = valid.0 in omega (arith, e, q, low))) ∙ untouched (suc p.0) i L v valid.3 (let q = valid.0 in omega (arith, q, low))

-- the pairs at an offset and above it
abbrev pub changes_from : Array → ℕ → Array
changes_from [] o = []
changes_from (p ∷ L) o = if nat_lt p.0 o then changes_from L o else p ∷ L

module _ (w : ℕ) (m : Lookup) (o : ℕ) where
  pub from_for : (cs : WordPairs) (L : Array) → ChangesFor w m cs L → ChangesFor w m (pairs_from cs o) (changes_from L o)
  from_for [] [] d = tt
  from_for [] (p ∷ L) d = absurd d
  from_for (c ∷ cs) [] d = absurd d
  from_for (c ∷ cs) (p ∷ L) d = go (nat_lt c.0 o) (nat_lt p.0 o) (ap (λ i. nat_lt i o) d.0) (from_for cs L d.2)
    where
      go : (s t : Bool) → s ≡ t → ChangesFor w m (pairs_from cs o) (changes_from L o) → ChangesFor w m (if s then pairs_from cs o else c ∷ cs) (if t then changes_from L o else p ∷ L)
      go true true e later = later
      go true false e later = cc
      go false true e later = cc
      go false false e later = d

pub from_valid : (b o : ℕ) (L : Array) → AreChanges b L → AreChanges o (changes_from L o)
from_valid b o [] valid = tt
from_valid b o (p ∷ L) valid = go (nat_lt p.0 o) refl (from_valid (suc p.0) o L valid.3)
  where
    go : (t : Bool) → nat_lt p.0 o ≡ t → AreChanges o (changes_from L o) → AreChanges o (if t then changes_from L o else p ∷ L)
    go true e later = later
    go false e later = (grind (arith, nat_tests, e), valid.1, valid.2, valid.3)

-- from the offset on they tell what all pairs tell
pub from_same : (o i : ℕ) (L : Array) (v : Value) → o ≤ i → value_after L i v ≡ value_after (changes_from L o) i v
from_same o i [] v high = refl
from_same o i (p ∷ L) v high = go (nat_lt p.0 o) refl (from_same o i L v high)
  where
    go : (t : Bool) → nat_lt p.0 o ≡ t → value_after L i v ≡ value_after (changes_from L o) i v → value_after (p ∷ L) i v ≡ value_after (if t then changes_from L o else p ∷ L) i v
    go true e later = ap (λ t. cond t p.1 (value_after L i v)) (ne_eqb p.0 i (λ s. grind (arith, nat_tests, e, s, high))) ∙ later
    go false e later = refl

pub from_zeros : (o : ℕ) (L : Array) → zeros (changes_from L o) ≤ zeros L
from_zeros o [] = omega arith
from_zeros o (p ∷ L) = go (nat_lt p.0 o) (from_zeros o L)
  where
    go : (t : Bool) → zeros (changes_from L o) ≤ zeros L → zeros (if t then changes_from L o else p ∷ L) ≤ zeros (p ∷ L)
    go true later = omega (arith, later)
    go false later = omega arith

-- ---- the search, pair by pair

-- R is left of the pairs, `found` is the next value of A from `cur` on, and from `start` up to `cur` the view has none
pub record Sought (A L : Array) (start : ℕ) (found : Option ℕ) (R : Array) : Type 0 where
  pub cur : ℕ
  pub low : start ≤ cur
  pub passed : (i : ℕ) → start ≤ i → i < cur → at (with A L) i ≡ Number 0
  pub left : (i : ℕ) → cur ≤ i → at (with A L) i ≡ value_after R i (at A i)
  pub next : found ≡ next_of A cur
  pub valid : AreChanges cur R

module _ (A L : Array) (a : IsArray A) (l : AreChanges 0 L) where
  pub sought_first : (start : ℕ) (found : Option ℕ) → found ≡ next_of A start → Sought A L start found (changes_from L start)
  sought_first start found e = record {
    cur = start;
    low = omega arith;
    passed = λ i from before. absurd (omega (arith, from, before));
    left = λ i high. (changes_are_made A L a l).1 i ∙ from_same start i L (at A i) high;
    next = e;
    valid = from_valid 0 start L l;
  }

  pub sought_last : (start : ℕ) (found : Option ℕ) → Sought A L start found [] → found ≡ next_of (with A L) start
  sought_last start None s = sym (no_next (with A L) start (changes_are_made A L a l).0 (λ i from. elim (cases_lt i s.cur) [
    | inl before ↦ s.passed i from before
    | inr high ↦ s.left i high ∙ (next_is_least A s.cur a).none (sym s.next) i high
  ]))
  sought_last start (Some o) s =
      let n = (next_is_least A s.cur a).found o (sym s.next) in
      let low = s.low in let high = n.from in
      sym (is_next (with A L) start o (changes_are_made A L a l).0 (record {
        from = omega (arith, low, high);
        some = λ z. n.some (sym (s.left o n.from) ∙ z);
        least = λ i from before. elim (cases_lt i s.cur) [
          | inl early ↦ s.passed i from early
          | inr late ↦ s.left i late ∙ n.least i late before
        ];
      }))

  module _ (start : ℕ) (found : Option ℕ) (p : ℕ × Value) (R : Array) (s : Sought A L start found (p ∷ R)) where
    -- below the next pair the view has what the array has
    own : (i : ℕ) → s.cur ≤ i → i < p.0 → at (with A L) i ≡ at A i
    own i late before = s.left i late ∙ untouched p.0 i (p ∷ R) (at A i) (omega arith, s.valid.1, s.valid.2, s.valid.3) before

    -- at it the view has its value
    here : at (with A L) p.0 ≡ p.1
    here = s.left p.0 s.valid.0 ∙ ap (λ b. cond b p.1 (value_after R p.0 (at A p.0))) (eq-eqb p.0 p.0 refl)

    -- and above it what is left tells
    above : (i : ℕ) → p.0 < i → at (with A L) i ≡ value_after R i (at A i)
    above i after = s.left i (let q = s.valid.0 in omega (arith, q, after)) ∙ ap (λ b. cond b p.1 (value_after R i (at A i))) (ne_eqb p.0 i (λ e. omega (arith, e, after)))

    -- where nothing was found below it, the array has nothing there
    clear : ((o : ℕ) → found ≡ Some o → o < p.0 → ⊥) → (i : ℕ) → s.cur ≤ i → i < p.0 → at A i ≡ Number 0
    clear none i late before = go (next_of A s.cur) refl
      where
        go : (r : Option ℕ) → next_of A s.cur ≡ r → at A i ≡ Number 0
        go None e = (next_is_least A s.cur a).none e i late
        go (Some o) e = elim (cases_lt i o) [
          | inl less ↦ ((next_is_least A s.cur a).found o e).least i late less
          | inr more ↦ absurd (none o (s.next ∙ e) (omega (arith, more, before)))
        ]

    passed_to : ((o : ℕ) → found ≡ Some o → o < p.0 → ⊥) → (i : ℕ) → start ≤ i → i < p.0 → at (with A L) i ≡ Number 0
    passed_to none i from before = elim (cases_lt i s.cur) [
      | inl early ↦ s.passed i from early
      | inr late ↦ own i late before ∙ clear none i late before
    ]

    -- what was found below the pair is the answer
    pub found_below : (o : ℕ) → found ≡ Some o → o < p.0 → found ≡ next_of (with A L) start
    found_below o e below =
        let n = (next_is_least A s.cur a).found o (sym s.next ∙ e) in
        let low = s.low in let high = n.from in
        e ∙ sym (is_next (with A L) start o (changes_are_made A L a l).0 (record {
          from = omega (arith, low, high);
          some = λ z. n.some (sym (own o n.from below) ∙ z);
          least = λ i from before. elim (cases_lt i s.cur) [
            | inl early ↦ s.passed i from early
            | inr late ↦ own i late (omega (arith, before, below)) ∙ n.least i late before
          ];
        }))

    -- else the pair is, if its value is not 0
    pub found_here : ((o : ℕ) → found ≡ Some o → o < p.0 → ⊥) → (p.1 ≡ Number 0 → ⊥) → Some p.0 ≡ next_of (with A L) start
    found_here none some = sym (is_next (with A L) start p.0 (changes_are_made A L a l).0 (record {
      from = (let low = s.low in let q = s.valid.0 in omega (arith, low, q));
      some = λ z. some (sym here ∙ z);
      least = passed_to none;
    }))

    -- a 0 is passed over
    pub passed_on : (later : Option ℕ) → ((o : ℕ) → found ≡ Some o → o < p.0 → ⊥) → p.1 ≡ Number 0 → later ≡ next_of A (suc p.0) → Sought A L start later R
    passed_on later none zero e = record {
      cur = suc p.0;
      low = (let low = s.low in let q = s.valid.0 in omega (arith, low, q));
      passed = λ i from before. elim (cases_lt i p.0) [
        | inl less ↦ passed_to none i from less
        | inr more ↦ subst (λ j. at (with A L) j ≡ Number 0) (omega (arith, before, more)) (here ∙ zero)
      ];
      left = λ i high. above i high;
      next = e;
      valid = s.valid.3;
    }

    -- where it takes nothing away, what was found stays found
    pub still_next : ((o : ℕ) → found ≡ Some o → o < p.0 → ⊥) → (found ≡ Some p.0 → ⊥) → found ≡ next_of A (suc p.0)
    still_next none other = go found refl
      where
        zero_to : (o : ℕ) → found ≡ Some o → suc p.0 ≤ o
        zero_to o e = elim (cases_lt o (suc p.0)) [
          | inl low ↦ elim (cases_lt o p.0) [
            | inl less ↦ absurd (none o e less)
            | inr same ↦ absurd (other (e ∙ ap (λ (x : ℕ). Some x) (omega (arith, low, same))))
          ]
          | inr high ↦ high
        ]

        go : (r : Option ℕ) → found ≡ r → found ≡ next_of A (suc p.0)
        go None e = e ∙ sym (no_next A (suc p.0) a (λ j high. (next_is_least A s.cur a).none (sym s.next ∙ e) j (let q = s.valid.0 in omega (arith, q, high))))
        go (Some o) e =
            let n = (next_is_least A s.cur a).found o (sym s.next ∙ e) in
            e ∙ sym (is_next A (suc p.0) o a (record {
              from = zero_to o e;
              some = n.some;
              least = λ j high before. n.least j (let q = s.valid.0 in omega (arith, q, high)) before;
            }))

-- ---- the rounds of the search

-- what a test that answered false tells
pub not_so : {b : Bool} {P : Type 0} → (IsTrue b → P) × (P → IsTrue b) → b ≡ false → P → ⊥
not_so both e p = let t = both.1 p in cc

pub other_than : {b : Bool} {found : Option ℕ} {n : ℕ} → b ≡ option_eq eqb found (Some n) → b ≡ false → found ≡ Some n → ⊥
other_than {b} {found} {n} e f h =
    let t : eqb n n ≡ false = sym (ap (λ o. option_eq eqb o (Some n)) h) ∙ sym e ∙ f in
    eqb-false n n t refl

pub none_below : {b : Bool} {found : Option ℕ} {n : ℕ} → (IsTrue b ↔ ((o : ℕ) × (found ≡ Some o) × (o < n))) → b ≡ false → (o : ℕ) → found ≡ Some o → o < n → ⊥
none_below both e o f low = not_so both e (o, f, low)

-- what is known while these pairs are left
pub record State (m : Memory) (snapshot : Word) (left : WordPairs) (A L : Array) (from : ℕ) (found : Option ℕ) (old new : ℕ) : Type 0 where
  pub rest : Array
  pub rest_for : ChangesFor (width m) (line_at m) left rest
  pub sought : Sought A L from found rest
  pub searches : ℕ
  pub few : searches + zeros rest ≤ zeros L + 1
  pub looks : LooksUpTo (2 * snapshot.height * searches) old new

module _ (m : Memory) (snapshot : Word) (writes : WordPairs) (A L : Array) (can : CanApply m snapshot writes A L) (from : ℕ) where
  pub state_first : (items : WordPairs) (found : Option ℕ) (old new : ℕ) → items ≡ pairs_from writes from → found ≡ next_of A from → LooksUpTo (2 * snapshot.height) old new → State m snapshot (drop 0 items) A L from found old new
  state_first items found old new e next looks = record {
    rest = changes_from L from;
    rest_for = subst (λ cs. ChangesFor (width m) (line_at m) cs (changes_from L from)) (sym e) (from_for (width m) (line_at m) from writes L can.changes_for);
    sought = sought_first A L can.root_for.valid can.ascend from found next;
    searches = 1;
    few = (let z = from_zeros from L in omega (arith, z));
    looks = (looks.0, omega (arith, looks.1));
  }

  pub state_last : (left : WordPairs) (found : Option ℕ) (old new : ℕ) → left ≡ [] → State m snapshot left A L from found old new → found ≡ next_of (with A L) from
  state_last left found old new e s = go s.rest (subst (λ cs. ChangesFor (width m) (line_at m) cs s.rest) e s.rest_for) s.sought
    where
      go : (R : Array) → ChangesFor (width m) (line_at m) [] R → Sought A L from found R → found ≡ next_of (with A L) from
      go [] d t = sought_last A L can.root_for.valid can.ascend from found t
      go (p ∷ R) d t = absurd d

  pub state_looks : (left : WordPairs) (found : Option ℕ) (old new : ℕ) → State m snapshot left A L from found old new → LooksUpTo (search_looks snapshot.height L) old new
  state_looks left found old new s =
      let most : 2 * snapshot.height * s.searches ≤ 2 * snapshot.height * (zeros L + 1) = mul-le-mul_left (2 * snapshot.height) (let f = s.few in omega (arith, f)) in
      (s.looks.0, (let l = s.looks.1 in omega (arith, l, most)))

  module _ (left : WordPairs) (c : ℕ × Word) (cs : WordPairs) (found : Option ℕ) (old new : ℕ) (first : left ≡ c ∷ cs) (s : State m snapshot left A L from found old new) where
    -- what is said of the first pair that is left is said of the first change that is left
    with_first : {X : Type 0} → ((p : ℕ × Value) (R : Array) → c.0 ≡ p.0 → WordIn m c.1 p.1 → ChangesFor (width m) (line_at m) cs R → Sought A L from found (p ∷ R) → s.searches + zeros (p ∷ R) ≤ zeros L + 1 → X) → X
    with_first {X} say = go s.rest (subst (λ ps. ChangesFor (width m) (line_at m) ps s.rest) first s.rest_for) s.sought s.few
      where
        go : (R : Array) → ChangesFor (width m) (line_at m) (c ∷ cs) R → Sought A L from found R → s.searches + zeros R ≤ zeros L + 1 → X
        go [] d t few = absurd d
        go (p ∷ R) d t few = say p R d.0 d.1 d.2 t few

    pub round_below : (o : ℕ) → found ≡ Some o → o < c.0 → found ≡ next_of (with A L) from
    round_below o e below = with_first (λ p R at_same word rest t few. found_below A L can.root_for.valid can.ascend from found p R t o e (omega (arith, below, at_same)))

    pub round_here : ((o : ℕ) → found ≡ Some o → o < c.0 → ⊥) → (c.1 ≡ word_of Num 0 0 → ⊥) → Some c.0 ≡ next_of (with A L) from
    round_here none some = with_first (λ p R at_same word rest t few. ap (λ (x : ℕ). Some x) at_same ∙ found_here A L can.root_for.valid can.ascend from found p R t (λ o e below. none o e (omega (arith, below, at_same))) (λ z. some (zero_word word z)))

    pub round_again : (later : Option ℕ) (newer : ℕ) → ((o : ℕ) → found ≡ Some o → o < c.0 → ⊥) → c.1 ≡ word_of Num 0 0 → later ≡ next_of A (c.0 + 1) → LooksUpTo (2 * snapshot.height) new newer → State m snapshot cs A L from later old newer
    round_again later newer none zero next looks = with_first (λ p R at_same word rest t few.
        let value : p.1 ≡ Number 0 = zero_value word zero in
        let one : one_if (is_zero p.1) ≡ 1 = ap (λ v. one_if (is_zero v)) value in
        record {
          rest = R;
          rest_for = rest;
          sought = passed_on A L can.root_for.valid can.ascend from found p R t later (λ o e below. none o e (omega (arith, below, at_same))) value (next ∙ ap (next_of A) (omega (arith, at_same)));
          searches = suc s.searches;
          few = omega (arith, few, one);
          looks = (let l = s.looks in omega (arith, l, looks), let l = s.looks in omega (arith, l, looks));
        })

    pub round_on : ((o : ℕ) → found ≡ Some o → o < c.0 → ⊥) → c.1 ≡ word_of Num 0 0 → (found ≡ Some c.0 → ⊥) → State m snapshot cs A L from found old new
    round_on none zero other = with_first (λ p R at_same word rest t few.
        let not_below : (o : ℕ) → found ≡ Some o → o < p.0 → ⊥ = λ o e below. none o e (omega (arith, below, at_same)) in
        record {
          rest = R;
          rest_for = rest;
          sought = passed_on A L can.root_for.valid can.ascend from found p R t found not_below (zero_value word zero) (still_next A L can.root_for.valid can.ascend from found p R t not_below (λ e. other (e ∙ ap (λ (x : ℕ). Some x) (sym at_same))));
          searches = s.searches;
          few = omega (arith, few);
          looks = s.looks;
        })

-- no pair is left where there was none
pub no_pairs : (items writes : WordPairs) (from i : ℕ) → items ≡ pairs_from writes from → i < length items → writes ≡ [] → ⊥
no_pairs items writes from i e low none = let z : length items ≡ 0 = ap length (e ∙ ap (λ ps. pairs_from ps from) none) in omega (arith, low, z)
