-- The canonical entry of an array whose words all lie in one part of a lower height, by that part's entry.
use Rattle.std.proofs.Common.{◌≡◌, ◌≢◌, ℕ, zero, suc, ◌+◌, ◌-◌, ◌*◌, ◌/◌, ◌%◌, ◌^◌, ◌<◌, ◌≤◌, List, [], ◌∷◌, length, set, refl, sym, ◌∙◌, ap, subst, inl, inr, arith}
use Rattle.std.proofs.Math.Nat.{mul-le-mul_right, one-le-pow, pow-succ'}
use Rattle.std.proofs.lemmas.Bool.{cases_lt, lt-leb}
use Rattle.std.proofs.lemmas.Nat.{div-add-mod', pow-add}
use Rattle.hic_word.specs.Width.{four_wide}
use Rattle.hic_word.specs.declared.Kind.TheVariants.{Node, Num}
use Rattle.hic_word.specs.declared.Kind.TheVariants as kinds
use Rattle.hic_word.specs.declared.Word.{Word}
use Rattle.hic_word.specs.Lists.{AllBelow}
use Rattle.hic_word.specs.Memory.{Memory}
use Rattle.hic_word.specs.Names.{names_in}
use Rattle.hic_word.specs.Stands.{AnEntry, EntriesFor, EntryFor, Lookup, NamedEntry, NoEntries, PackEntry, ZeroEntry, word_of}
use Rattle.hic_word.specs.Values.{Array, IsBelow}
use Rattle.hic_word.specs.Entries.{Entry, Inner, LineValue, Named, Pack, Zero, inner}
use Rattle.hic_word.specs.FormLaws.{part_entries}
use Rattle.hic_word.specs.Parts.{part, slice}
use Rattle.hic_word.specs.Canon.{IsPart, enc, joined, sole}
use Rattle.hic_word.proofs.callers.Forms.{lines_are_needed, part_plain, parts_are_parts, paths_are_places, paths_are_short}
use Rattle.hic_word.proofs.callers.Bits.{kind_is}
use Rattle.hic_word.proofs.callers.Slices.{slice_past, slice_whole, slices_nest}
use Rattle.seg_canon.specs.declared.parts.Part.{Part}
use Rattle.seg_canon.specs.Folds.{PiecesFor}
use Rattle.seg_canon.specs.Parts.{PartFor, whole_part}
use Rattle.seg_canon.specs.Raises.{one_if_packed, raises}
use Rattle.seg_canon.proofs.Folding.{entry_named}
use Rattle.seg_canon.proofs.Opening.{entry_packed}
use Rattle.seg_canon.proofs.Pieces.{enc-empty, enc_joined}
use Rattle.seg_read.specs.Levels.{levels}
use Rattle.seg_read.proofs.Entering.{part_top}
use Rattle.seg_read.proofs.Levels.{levels_some}
use Rattle.seg_read.proofs.Rooting.{as_whole}
use Rattle.seg_write.specs.Gains.{HasNamed}
use Rattle.seg_write.specs.Lone.{CanLift, LiesIn, led, lifted, piece}
use Rattle.seg_write.specs.Trades.{Trades}
use Rattle.seg_write.proofs.Quartering.{entry_part}
use Rattle.seg_write.proofs.Storing.{held_alike}
use Rattle.seg_write.proofs.Raising.{entries_pieces, higher, raises_low}

node_kind : {m : Lookup} {x : Word} {L : LineValue} {p : List ℕ} → EntryFor 4 m x (Named L p) → x.kind ≡ Node
node_kind (NamedEntry i e) = kind_is e

-- words that name the same are exchanged for the same
pub trades_named : {a b : Memory} {xs ys : List Word} {n : ℕ} (ws zs : List Word) → names_in ws ≡ names_in xs → names_in ys ≡ names_in zs → Trades a b xs ys n → Trades a b ws zs n
trades_named {a} {b} {xs} {ys} ws zs given taken t = record {
  passes = record { holds = λ held h. held_alike b ys zs held taken (t.passes.holds held (held_alike a ws xs held given h)); lines = t.passes.lines; layout = t.passes.layout };
  counts = t.counts;
}

pub set_names : (q : ℕ) (x z : Word) → q < 4 → z ≡ word_of Num 0 0 → names_in (x ∷ []) ≡ names_in (set (z ∷ z ∷ z ∷ z ∷ []) q x)
set_names q x z lt is = blanks q lt ∙ ap (λ (y : Word). names_in (set (y ∷ y ∷ y ∷ y ∷ []) q x)) (sym is)
  where
    y : Word
    y = word_of Num 0 0

    blanks : (q : ℕ) → q < 4 → names_in (x ∷ []) ≡ names_in (set (y ∷ y ∷ y ∷ y ∷ []) q x)
    blanks zero lt = refl
    blanks (suc zero) lt = refl
    blanks (suc (suc zero)) lt = refl
    blanks (suc (suc (suc zero))) lt = refl
    blanks (suc (suc (suc (suc q)))) lt = absurd (omega (arith, lt))

-- four entries, of which one alone may be filled
abbrev blank : List Entry
blank = Zero ∷ Zero ∷ Zero ∷ Zero ∷ []

joined_set : (q : ℕ) (e : Entry) → q < 4 → e ≢ Zero → joined (sole (set blank q e)) (set blank q e) ≡ led q e
joined_set q Zero lt some = absurd (some refl)
joined_set zero (Pack ns) lt some = refl
joined_set (suc zero) (Pack ns) lt some = refl
joined_set (suc (suc zero)) (Pack ns) lt some = refl
joined_set (suc (suc (suc zero))) (Pack ns) lt some = refl
joined_set (suc (suc (suc (suc q)))) (Pack ns) lt some = absurd (omega (arith, lt))
joined_set zero (Named L p) lt some = refl
joined_set (suc zero) (Named L p) lt some = refl
joined_set (suc (suc zero)) (Named L p) lt some = refl
joined_set (suc (suc (suc zero))) (Named L p) lt some = refl
joined_set (suc (suc (suc (suc q)))) (Named L p) lt some = absurd (omega (arith, lt))

set_blank : (q : ℕ) → q < 4 → set blank q Zero ≡ blank
set_blank zero lt = refl
set_blank (suc zero) lt = refl
set_blank (suc (suc zero)) lt = refl
set_blank (suc (suc (suc zero))) lt = refl
set_blank (suc (suc (suc (suc q)))) lt = absurd (omega (arith, lt))

-- the words of such entries
set_entries : {m : Lookup} {x : Word} {e : Entry} (q : ℕ) (z : Word) → q < 4 → z ≡ word_of Num 0 0 → EntryFor 4 m x e → EntriesFor 4 m (set (z ∷ z ∷ z ∷ z ∷ []) q x) (inner (set blank q e))
set_entries zero z lt is f = AnEntry f (AnEntry (ZeroEntry is) (AnEntry (ZeroEntry is) (AnEntry (ZeroEntry is) NoEntries)))
set_entries (suc zero) z lt is f = AnEntry (ZeroEntry is) (AnEntry f (AnEntry (ZeroEntry is) (AnEntry (ZeroEntry is) NoEntries)))
set_entries (suc (suc zero)) z lt is f = AnEntry (ZeroEntry is) (AnEntry (ZeroEntry is) (AnEntry f (AnEntry (ZeroEntry is) NoEntries)))
set_entries (suc (suc (suc zero))) z lt is f = AnEntry (ZeroEntry is) (AnEntry (ZeroEntry is) (AnEntry (ZeroEntry is) (AnEntry f NoEntries)))
set_entries (suc (suc (suc (suc q)))) z lt is f = absurd (omega (arith, lt))

-- the quarters of a part are its pieces of the height below
quarter_piece : (k q : ℕ) (D : Array) → part 4 D (suc k) q ≡ piece k D q
quarter_piece k q D = ap (λ j. slice (q * 4 ^ j) (4 ^ j) D) (let less : suc k - 1 ≡ k = omega arith in less)

entry_piece : (k q : ℕ) (D : Array) → enc 4 (suc k - 1) (part 4 D (suc k) q) ≡ enc 4 k (piece k D q)
entry_piece k q D = ap (λ j. enc 4 j (part 4 D (suc k) q)) (let less : suc k - 1 ≡ k = omega arith in less) ∙ ap (enc 4 k) (quarter_piece k q D)

module _ (k : ℕ) (D : Array) where
  -- but for one quarter all are empty
  abbrev pub EmptyBut : ℕ → Type 0
  EmptyBut q = (i : ℕ) → i < 4 → i ≢ q → piece k D i ≡ []

  none_at : {q : ℕ} (i : ℕ) → EmptyBut q → i < 4 → i ≢ q → enc 4 (suc k - 1) (part 4 D (suc k) i) ≡ Zero
  none_at i none lt other = entry_piece k i D ∙ ap (enc 4 k) (none i lt other) ∙ enc-empty 4 k

  entries_set : (q : ℕ) → q < 4 → EmptyBut q → part_entries 4 (suc k) D ≡ set blank q (enc 4 k (piece k D q))
  entries_set zero lt none = λ i. entry_piece k 0 D i ∷ none_at 1 none (omega arith) (λ e. omega (arith, e)) i ∷ none_at 2 none (omega arith) (λ e. omega (arith, e)) i ∷ none_at 3 none (omega arith) (λ e. omega (arith, e)) i ∷ []
  entries_set (suc zero) lt none = λ i. none_at 0 none (omega arith) (λ e. omega (arith, e)) i ∷ entry_piece k 1 D i ∷ none_at 2 none (omega arith) (λ e. omega (arith, e)) i ∷ none_at 3 none (omega arith) (λ e. omega (arith, e)) i ∷ []
  entries_set (suc (suc zero)) lt none = λ i. none_at 0 none (omega arith) (λ e. omega (arith, e)) i ∷ none_at 1 none (omega arith) (λ e. omega (arith, e)) i ∷ entry_piece k 2 D i ∷ none_at 3 none (omega arith) (λ e. omega (arith, e)) i ∷ []
  entries_set (suc (suc (suc zero))) lt none = λ i. none_at 0 none (omega arith) (λ e. omega (arith, e)) i ∷ none_at 1 none (omega arith) (λ e. omega (arith, e)) i ∷ none_at 2 none (omega arith) (λ e. omega (arith, e)) i ∷ entry_piece k 3 D i ∷ []
  entries_set (suc (suc (suc (suc q)))) lt none = absurd (omega (arith, lt))

-- the entry of a part of which one quarter alone may have words
pub one_level : (k q : ℕ) (D : Array) → 1 ≤ k → q < 4 → IsPart 4 (suc k) D → EmptyBut k D q → enc 4 (suc k) D ≡ led q (enc 4 k (piece k D q))
one_level k q [] some lt a none = enc-empty 4 (suc k) ∙ sym (ap (led q) (enc-empty 4 k))
one_level k q (p ∷ D) some lt a none =
    let e = enc 4 k (piece k (p ∷ D) q) in
    let made : enc 4 (suc k) (p ∷ D) ≡ joined (sole (set blank q e)) (set blank q e) = enc_joined 4 (suc k) (p ∷ D) (omega (arith, some)) (λ n. cc) ∙ ap (λ es. joined (sole es) es) (entries_set k (p ∷ D) q lt none) in
    made ∙ joined_set q e lt (λ z.
    let all : set blank q e ≡ blank = ap (set blank q) z ∙ set_blank q lt in
    let line : enc 4 (suc k) (p ∷ D) ≡ Named (Inner (inner blank)) [] = made ∙ ap (λ es. joined (sole es) es) all in
    absurd ((lines_are_needed 4 (Inner (inner blank)) four_wide (record { height = suc k; array = p ∷ D; path = []; is_part = a; made = line })).2))

-- pieces of pieces
four_times : (k : ℕ) → 4 ^ suc k ≡ 4 * 4 ^ k
four_times k = pow-succ' 4 k

pieces_nest : (k n q : ℕ) (A : Array) → q < 4 → piece k (piece (suc k) A n) q ≡ piece k A (n * 4 + q)
pieces_nest k n q A lt =
    let s = 4 ^ k in
    let four = four_times k in
    let all : (q + 1) * s ≤ 4 * s = mul-le-mul_right s (omega (arith, lt)) in
    let place : n * 4 ^ suc k + q * s ≡ (n * 4 + q) * s = ap (λ t. n * t + q * s) four ∙ omega arith in
    slices_nest (n * 4 ^ suc k) (4 ^ suc k) (q * s) s A (omega (arith, all, four)) ∙ ap (λ b. slice b s A) place

four_of : (n : ℕ) → n / 4 * 4 + n % 4 ≡ n
four_of n = div-add-mod' n 4

-- the only piece is the array
whole_piece : (k n : ℕ) (A : Array) → IsPart 4 k A → n < 1 → piece k A n ≡ A
whole_piece k n A a lt =
    let none : n ≡ 0 = omega (arith, lt) in
    let start : n * 4 ^ k ≡ 0 = ap (λ i. i * 4 ^ k) none ∙ omega arith in
    ap (λ b. slice b (4 ^ k) A) start ∙ slice_whole (4 ^ k) A a.below

quarter_number : (j n : ℕ) → n < 4 ^ suc j → n / 4 < 4 ^ j
quarter_number j n lt = let four = four_times j in omega (arith, lt, four)

piece_part : (j k n h : ℕ) (A : Array) → j + k ≡ h → 1 ≤ k → IsPart 4 h A → n < 4 ^ j → IsPart 4 k (piece k A n)
piece_part zero k n h A all some a lt =
    let own : IsPart 4 k A = subst (λ j. IsPart 4 j A) (let same : h ≡ k = omega (arith, all) in same) a in
    subst (IsPart 4 k) (sym (whole_piece k n A own lt)) own
piece_part (suc j) k n h A all some a lt =
    let D = piece (suc k) A (n / 4) in
    let next : IsPart 4 (suc k) D = piece_part j (suc k) (n / 4) h A (omega (arith, all)) (omega arith) a (quarter_number j n lt) in
    let quarter = (parts_are_parts 4 (suc k) (n % 4) D (omega (arith, some)) next).is_part in
    let low : IsPart 4 k (part 4 D (suc k) (n % 4)) = subst (λ i. IsPart 4 i (part 4 D (suc k) (n % 4))) (let less : suc k - 1 ≡ k = omega arith in less) quarter in
    subst (IsPart 4 k) (quarter_piece k (n % 4) D ∙ pieces_nest k (n / 4) (n % 4) A (omega arith) ∙ ap (piece k A) (four_of n)) low

-- past its offsets an array has nothing, and a slice of nothing is nothing
pub slice_none : (b s : ℕ) (L : Array) → IsBelow b L → slice b s L ≡ []
slice_none b s [] low = refl
slice_none b s (p ∷ L) low = let out = lt-leb b p.0 low.0 in rw out (slice_none b s L low.1)

in_nothing : (b s c t : ℕ) (A : Array) → slice b s A ≡ [] → c + t ≤ s → slice (b + c) t A ≡ []
in_nothing b s c t A none fits = sym (slices_nest b s c t A fits) ∙ ap (slice c t) none

-- a piece ends within the array
pub piece_room : (j k n h : ℕ) → j + k ≡ h → n < 4 ^ j → n * 4 ^ k + 4 ^ k ≤ 4 ^ h
piece_room j k n h same lt =
    let all : (n + 1) * 4 ^ k ≤ 4 ^ j * 4 ^ k = mul-le-mul_right (4 ^ k) (omega (arith, lt)) in
    let power = sym (pow-add 4 j k) ∙ ap (λ i. 4 ^ i) same in
    omega (arith, all, power)

-- over an array that lies in one of its pieces: every other piece is empty
module _ {k n h : ℕ} {A : Array} (f : LiesIn k n h A) where
  other_piece : (w : ℕ) → w ≢ n → w * 4 ^ k + 4 ^ k ≤ 4 ^ h → piece k A w ≡ []
  other_piece w other fits =
      let s = 4 ^ k in
      elim (cases_lt w n) [
        | inl less ↦
            let room : (w + 1) * s ≤ n * s = mul-le-mul_right s (omega (arith, less)) in
            ap (λ b. slice b s A) (let same : w * s ≡ 0 + w * s = omega arith in same) ∙ in_nothing 0 (n * s) (w * s) s A f.before (omega (arith, room))
        | inr more ↦
            let e = n * s + s in
            let room : (n + 1) * s ≤ w * s = mul-le-mul_right s (omega (arith, more, other)) in
            ap (λ b. slice b s A) (let same : w * s ≡ e + (w * s - e) = omega (arith, room) in same) ∙ in_nothing e (4 ^ h - e) (w * s - e) s A f.past (omega (arith, room, fits))
      ]

  module _ (j : ℕ) (all : suc j + k ≡ h) (some : 1 ≤ k) where
    low : n < 4 ^ suc j
    low = subst (λ i. n < 4 ^ i) (let same : h - k ≡ suc j = omega (arith, all) in same) f.inside

    above_room : n / 4 * 4 ^ suc k + 4 ^ suc k ≤ 4 ^ h
    above_room = piece_room j (suc k) (n / 4) h (omega (arith, all)) (quarter_number j n low)

    -- so it lies in one piece of the height above, of which the others' quarters are empty
    pub lies_above : LiesIn (suc k) (n / 4) h A
    lies_above =
        let s = 4 ^ k in
        let t = 4 ^ suc k in
        let four = four_times k in
        let room = above_room in
        let start : n / 4 * 4 * s ≤ n * s = mul-le-mul_right s (omega arith) in
        let end : (n + 1) * s ≤ (n / 4 + 1) * 4 * s = mul-le-mul_right s (omega arith) in
        let up : n / 4 * t ≡ n / 4 * 4 * s = ap (λ i. n / 4 * i) four ∙ omega arith in
        let e = n * s + s in
        let o = n / 4 * t + t in
        let later : e ≤ o = omega (arith, end, up, four) in
        record {
          is_part = f.is_part;
          inside = subst (λ i. n / 4 < 4 ^ i) (let same : j ≡ h - suc k = omega (arith, all) in same) (quarter_number j n low);
          before = in_nothing 0 (n * s) 0 (n / 4 * t) A f.before (omega (arith, start, up));
          past = ap (λ b. slice b (4 ^ h - o) A) (let same : o ≡ e + (o - e) = omega (arith, later) in same) ∙ in_nothing e (4 ^ h - e) (o - e) (4 ^ h - o) A f.past (omega (arith, later, room));
        }

    pub above_part : IsPart 4 (suc k) (piece (suc k) A (n / 4))
    above_part = piece_part j (suc k) (n / 4) h A (omega (arith, all)) (omega arith) f.is_part (quarter_number j n low)

    pub others_empty : EmptyBut k (piece (suc k) A (n / 4)) (n % 4)
    others_empty i lt other =
        let s = 4 ^ k in
        let four = four_times k in
        let room = above_room in
        let w = n / 4 * 4 + i in
        let end : (w + 1) * s ≤ (n / 4 + 1) * 4 * s = mul-le-mul_right s (omega (arith, lt)) in
        let up : n / 4 * 4 ^ suc k ≡ n / 4 * 4 * s = ap (λ t. n / 4 * t) four ∙ omega arith in
        pieces_nest k (n / 4) i A lt ∙ other_piece w (λ e. other (omega (arith, e, lt))) (omega (arith, end, up, four, room))

    this_quarter : piece k (piece (suc k) A (n / 4)) (n % 4) ≡ piece k A n
    this_quarter = pieces_nest k (n / 4) (n % 4) A (omega arith) ∙ ap (piece k A) (four_of n)

    pub led_above : enc 4 (suc k) (piece (suc k) A (n / 4)) ≡ led (n % 4) (enc 4 k (piece k A n))
    led_above = one_level k (n % 4) (piece (suc k) A (n / 4)) some (omega arith) above_part others_empty ∙ ap (λ B. led (n % 4) (enc 4 k B)) this_quarter

-- the entry of an array that lies in one of its pieces, by that of the piece
pub lifts : (j k n h : ℕ) (A : Array) → j + k ≡ h → 1 ≤ k → LiesIn k n h A → enc 4 h A ≡ lifted j n (enc 4 k (piece k A n))
lifts zero k n h A all some f =
    let same : h ≡ k = omega (arith, all) in
    let own : IsPart 4 k A = subst (λ i. IsPart 4 i A) same f.is_part in
    let one : n < 1 = subst (λ i. n < 4 ^ i) (let none : h - k ≡ 0 = omega (arith, all) in none) f.inside in
    ap (λ i. enc 4 i A) same ∙ ap (enc 4 k) (sym (whole_piece k n A own one))
lifts (suc j) k n h A all some f =
    lifts j (suc k) (n / 4) h A (omega (arith, all)) (omega arith) (lies_above f j all some) ∙ ap (lifted j (n / 4)) (led_above f j all some)

-- a line is named at each height, by a path that is longer by the levels
pub lifted_named : (j n : ℕ) (L : LineValue) (p : List ℕ) → (o : List ℕ) × (lifted j n (Named L p) ≡ Named L o) × (length o ≡ j + length p)
lifted_named zero n L p = (p, refl, omega arith)
lifted_named (suc j) n L p = let (o, is, long) = lifted_named j (n / 4) L (n % 4 ∷ p) in (o, is, omega (arith, long))

pub named_below : (j k n h : ℕ) (A : Array) (R : List Array) → j + k ≡ h → 1 ≤ k → LiesIn k n h A → HasNamed (enc 4 h A) R → HasNamed (enc 4 k (piece k A n)) R
named_below j k n h A R all some f named L p e =
    let (o, is, long) = lifted_named j n L p in
    named L o (lifts j k n h A all some f ∙ ap (lifted j n) e ∙ is)

-- an entry higher up has no fewer levels, and one more where a packed one has a line
led_levels : {m : Lookup} {x : Word} {e : Entry} (q : ℕ) → EntryFor 4 m x e → levels e + one_if_packed x.kind ≤ levels (led q e)
led_levels q (ZeroEntry z) = let none = ap one_if_packed (kind_is z) in omega (arith, none)
led_levels q (PackEntry {ns = ns} z) = let one = ap one_if_packed (kind_is z) in let some = levels_some (Inner (inner (set blank q (Pack ns)))) in omega (arith, one, some)
led_levels q (NamedEntry i z) = let none = ap one_if_packed (kind_is z) in omega (arith, none)

led_more : (q : ℕ) (e : Entry) → levels e ≤ levels (led q e)
led_more q Zero = omega arith
led_more q (Pack ns) = omega arith
led_more q (Named L p) = omega arith

lifted_more : (j n : ℕ) (e : Entry) → levels e ≤ levels (lifted j n e)
lifted_more zero n e = omega arith
lifted_more (suc j) n e = let first = led_more (n % 4) e in let rest = lifted_more j (n / 4) (led (n % 4) e) in omega (arith, first, rest)

pub levels_below_lift : (j k n h : ℕ) (A : Array) → j + k ≡ h → 1 ≤ k → LiesIn k n h A → levels (enc 4 k (piece k A n)) ≤ levels (enc 4 h A)
levels_below_lift j k n h A all some f =
    let more = lifted_more j n (enc 4 k (piece k A n)) in
    let same = ap levels (lifts j k n h A all some f) in
    omega (arith, more, same)

lifted_zero : (j n : ℕ) → lifted j n Zero ≡ Zero
lifted_zero zero n = refl
lifted_zero (suc j) n = lifted_zero j (n / 4)

-- over a part, and an array in its part n
module _ {m : Lookup} {p : Part} {n : ℕ} {A : Array} (f : CanLift m p n A) where
  levels_between : p.top - p.at + p.at ≡ p.top
  levels_between = let high = f.part.high in omega (arith, high)

  all_levels : enc 4 p.top A ≡ lifted (p.top - p.at) n (enc 4 p.at (piece p.at A n))
  all_levels = lifts (p.top - p.at) p.at n p.top A levels_between f.part.is_part.positive f.lies

  -- at its whole height it has its own entry, and so has an empty part
  pub lift_none : p.top ≤ p.at → PartFor 4 m (whole_part p.top p.entry) A
  lift_none all =
      let high = f.part.high in
      let same : p.at ≡ p.top = omega (arith, all, high) in
      let one : n < 1 = subst (λ i. n < 4 ^ i) (let none : p.top - p.at ≡ 0 = omega (arith, all) in none) f.lies.inside in
      let own : IsPart 4 p.at A = subst (λ h. IsPart 4 h A) (sym same) f.lies.is_part in
      as_whole p.top p refl same (subst (PartFor 4 m p) (whole_piece p.at n A own one) f.part)

  pub lift_zero : piece p.at A n ≡ [] → PartFor 4 m (whole_part p.top p.entry) A
  lift_zero none =
      let zeros = ap (enc 4 p.at) none ∙ enc-empty 4 p.at in
      let all : enc 4 p.top A ≡ Zero = all_levels ∙ ap (lifted (p.top - p.at) n) zeros ∙ lifted_zero (p.top - p.at) n in
      entry_part f.lies.is_part (subst (EntryFor 4 m p.entry) (zeros ∙ sym all) f.part.entry)

  -- an entry that names a line, lengthened by the levels between, is that of the whole
  pub node_lifts : (r : Word) → p.entry.kind ≡ Node
      → ((o : Lookup) (L : LineValue) (q : List ℕ) → EntryFor 4 o p.entry (Named L q) → AllBelow 4 q → length q + (p.top - p.at) ≤ 15 → EntryFor 4 o r (lifted (p.top - p.at) n (Named L q)))
      → PartFor 4 m (whole_part p.top r) A
  node_lifts r k stands =
      let B = piece p.at A n in
      let (L, q, is) = entry_named f.part.entry k in
      let j = p.top - p.at in
      let all : enc 4 p.top A ≡ lifted j n (Named L q) = all_levels ∙ ap (lifted j n) is in
      let (o, named, long) = lifted_named j n L q in
      let short : length o ≤ 15 = paths_are_short 4 p.top A L o four_wide f.lies.is_part (all ∙ named) in
      let places = paths_are_places 4 p.at B L q four_wide f.part.is_part is in
      entry_part f.lies.is_part (subst (EntryFor 4 m r) (sym all) (stands m L q (subst (EntryFor 4 m p.entry) is f.part.entry) places (omega (arith, short, long))))

-- over one that lies below its height
module _ {m : Lookup} {p : Part} {n : ℕ} {A : Array} (f : CanLift m p n A) (less : p.at < p.top) where
  next_level : suc (p.top - p.at - 1) + p.at ≡ p.top
  next_level = omega (arith, less)

  pub lift_levels : levels (enc 4 p.at (piece p.at A n)) + raises p ≤ levels (enc 4 p.top A)
  lift_levels =
      let e = enc 4 p.at (piece p.at A n) in
      let first = led_levels (n % 4) f.part.entry in
      let rest = lifted_more (p.top - p.at - 1) (n / 4) (led (n % 4) e) in
      let all = ap levels (lifts (suc (p.top - p.at - 1)) p.at n p.top A next_level f.part.is_part.positive f.lies) in
      let raised = raises_low p less in
      omega (arith, first, rest, all, raised)

  -- the part one level higher, of which a quarter alone may have words
  abbrev pub upper : Array
  upper = piece (p.at + 1) A (n / 4)

  one_more : suc p.at ≡ p.at + 1
  one_more = omega arith

  pub upper_part : IsPart 4 (p.at + 1) upper
  upper_part = subst (λ h. IsPart 4 h (piece h A (n / 4))) one_more (above_part f.lies (p.top - p.at - 1) next_level f.part.is_part.positive)

  pub upper_pieces : (z : Word) → z ≡ word_of Num 0 0 → PiecesFor 4 m (p.at + 1) (set (z ∷ z ∷ z ∷ z ∷ []) (n % 4) p.entry) upper
  upper_pieces z is =
      let D = piece (suc p.at) A (n / 4) in
      let j = p.top - p.at - 1 in
      let some = f.part.is_part.positive in
      let entry = subst (λ B. EntryFor 4 m p.entry (enc 4 p.at B)) (sym (this_quarter f.lies j next_level some)) f.part.entry in
      let entries = subst (λ es. EntriesFor 4 m (set (z ∷ z ∷ z ∷ z ∷ []) (n % 4) p.entry) (inner es)) (sym (entries_set p.at D (n % 4) (omega arith) (others_empty f.lies j next_level some))) (set_entries (n % 4) z (omega arith) is entry) in
      subst (λ h. PiecesFor 4 m h (set (z ∷ z ∷ z ∷ z ∷ []) (n % 4) p.entry) (piece h A (n / 4))) one_more (entries_pieces m (suc p.at) (set (z ∷ z ∷ z ∷ z ∷ []) (n % 4) p.entry) D (omega (arith, some)) entries)

  upper_lies : LiesIn (p.at + 1) (n / 4) p.top A
  upper_lies = subst (λ h. LiesIn h (n / 4) p.top A) one_more (lies_above f.lies (p.top - p.at - 1) next_level f.part.is_part.positive)

  pub upper_named : (R : List Array) → HasNamed (enc 4 p.top A) R → HasNamed (enc 4 (p.at + 1) upper) R
  upper_named R named = named_below (p.top - p.at - 1) (p.at + 1) (n / 4) p.top A R (omega (arith, less)) (omega arith) upper_lies named

  module _ {o : Lookup} {x : Word} (g : PartFor 4 o (whole_part (p.at + 1) x) upper) where
    pub upper_lift : CanLift o (higher p x) (n / 4) A
    upper_lift = record { part = record { is_part = g.is_part; high = omega (arith, less); low = f.part.low; entry = g.entry }; lies = upper_lies }

    -- it has a line where the quarter is packed
    pub upper_node : p.entry.kind ≡ kinds.Pack → x.kind ≡ Node
    upper_node k =
        let (ns, is, bits) = entry_packed f.part.entry k in
        let line = subst (λ h. enc 4 h (piece h A (n / 4)) ≡ led (n % 4) (enc 4 p.at (piece p.at A n))) one_more (led_above f.lies (p.top - p.at - 1) next_level f.part.is_part.positive) ∙ ap (led (n % 4)) is in
        node_kind (subst (EntryFor 4 o x) line g.entry)

-- a part's array lies in its first part of each height
pub raise_lift : {m : Lookup} {p : Part} {A : Array} → PartFor 4 m p A → CanLift m p 0 A
raise_lift {m} {p} {A} f =
    let s = 4 ^ p.at in
    let end : s ≡ 0 * s + s = omega arith in
    let some = one-le-pow (p.top - p.at) 4 (omega arith) in
    record {
      part = subst (PartFor 4 m p) (sym (whole_piece p.at 0 A f.is_part (omega arith))) f;
      lies = record {
        is_part = part_top f;
        inside = omega (arith, some);
        before = slice_past 0 (0 * s) 0 A (omega arith) (part_plain f.is_part).rises;
        past = slice_none (0 * s + s) (4 ^ p.top - (0 * s + s)) A (subst (λ e. IsBelow e A) end f.is_part.below);
      };
    }
