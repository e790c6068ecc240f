-- The way down to an offset: one digit of it after another leads to an entry, and the last to the word.
use Rattle.std.proofs.Common.{◌≡◌, ◌≢◌, ℕ, zero, suc, ◌+◌, ◌-◌, ◌*◌, ◌/◌, ◌%◌, ◌^◌, ◌<◌, ◌≤◌, List, [], length, Option, Some, None, get_or, slice_get, slice_index, refl, sym, ◌∙◌, ap, subst, inl, inr, arith}
use Rattle.std.proofs.lemmas.Bool.{cases_lt}
use Rattle.std.proofs.Math.ListN.{get_or-map}
use Rattle.std.proofs.Math.Nat.{mod-eq_of_lt, one-le-pow}
use Rattle.std.proofs.lemmas.Nat.{div-mul-add, mod-mul-add, mod-pow-add, mod_below}
use Rattle.std.proofs.lemmas.Option.{get_or_from_slice_get, slice_get_past}
use Rattle.hic_word.specs.Width.{four_wide}
use Rattle.hic_word.specs.declared.Kind.TheVariants.{Node, Num}
use Rattle.hic_word.specs.declared.Kind.TheVariants as kinds
use Rattle.hic_word.specs.declared.Word.{Word}
use Rattle.hic_word.specs.Lists.{AllBelow}
use Rattle.hic_word.specs.Values.{Array, Number, Value, at}
use Rattle.hic_word.specs.Parts.{part, values}
use Rattle.hic_word.specs.Canon.{enc}
use Rattle.hic_word.specs.InMemory.{RootIn}
use Rattle.hic_word.specs.Memory.{Memory, line_at}
use Rattle.hic_word.specs.Stands.{Lookup, WordFor, pack_bits, word_of}
use Rattle.hic_word.proofs.callers.Forms.{packs_are_small, parts_are_parts}
use Rattle.line_mem.specs.Sound.{HasWord}
use Rattle.seg_canon.specs.Opens.{IsLine, IsOne}
use Rattle.seg_canon.specs.Parts.{PartFor, whole_part}
use Rattle.seg_canon.proofs.Opening.{entry_packed, stored_opened, zero_opened}
use Rattle.seg_canon.proofs.Pieces.{pack_height, packed_values}
use Rattle.seg_read.specs.Levels.{lines_on_way, lines_to, own_line}
use Rattle.seg_read.proofs.Entering.{line_words, one_high}
use Rattle.seg_read.proofs.Places.{line_quarter, path_one, word_at}
use Rattle.seg_read.proofs.Raising.{raises_whole}
use Rattle.seg_read.proofs.Rooting.{four_power}
use Rattle.seg_read.proofs.Ways.{lines_to-empty, lines_to-low, lines_within, one_own}

-- an offset within a part by its highest digit and the rest
digits : (i k : ℕ) → i % 4 ^ suc k ≡ i / 4 ^ k % 4 * 4 ^ k + i % 4 ^ k
digits i k =
    let more : 2 * suc k ≡ 2 + 2 * k = omega arith in
    ap (λ n. i % n) (four_power (suc k) ∙ ap (λ j. 2 ^ j) more) ∙ mod-pow-add i 2 (2 * k) ∙ ap (λ n. i / n % 4 * n + i % n) (sym (four_power k))

rest_low : (i k : ℕ) → i % 4 ^ k < 4 ^ k
rest_low i k = mod_below i (4 ^ k) (one-le-pow k 4 (omega arith))

pub digit_place : (i k : ℕ) → i % 4 ^ suc k / 4 ^ k ≡ i / 4 ^ k % 4
digit_place i k = ap (λ n. n / 4 ^ k) (digits i k) ∙ div-mul-add (i / 4 ^ k % 4) (4 ^ k) (i % 4 ^ k) (rest_low i k)

pub digit_rest : (i k : ℕ) → i % 4 ^ suc k % 4 ^ k ≡ i % 4 ^ k
digit_rest i k = ap (λ n. n % 4 ^ k) (digits i k) ∙ mod-mul-add (i / 4 ^ k % 4) (4 ^ k) (i % 4 ^ k) (rest_low i k)

digit_low : (n : ℕ) → n % 4 < 4
digit_low n = mod_below n 4 (omega arith)

-- the entry of a part of height h on the way to offset i of A: the part has the word in its place, and n lines lie on the way on
pub record OnWay (m : Lookup) (h : ℕ) (x : Word) (A : Array) (i n : ℕ) : Type 0 where
  pub array : Array
  pub stands : PartFor 4 m (whole_part h x) array
  pub value : at array (i % 4 ^ h) ≡ at A i
  pub lines : n ≡ lines_to 4 h array (i % 4 ^ h)

-- the same, and at height 0 the word itself
abbrev pub Reaches : Lookup → ℕ → Word → Array → ℕ → ℕ → Type 0
Reaches m zero x A i n = WordFor 4 m x (at A i) × (n ≡ 0)
Reaches m (suc k) x A i n = OnWay m (suc k) x A i n

-- a way to an offset of a root's array, of which `now - old` looks are done
abbrev pub GoesDown : Memory → Word → ℕ → ℕ → Word → ℕ → ℕ → Type 0
GoesDown m root i h x old now = (A : Array) → RootIn m root A → (n : ℕ) × Reaches (line_at m) h x A i n × (now + n ≡ old + lines_on_way 4 A i)

-- at a turn, of which looks are done and looks are left
pub turn : (m : Lookup) (x : Word) (A : Array) (i h old now : ℕ) → (n : ℕ) × Reaches m h x A i n × (now + n ≡ old + lines_on_way 4 A i) → 0 < h → (n : ℕ) × OnWay m (suc (h - 1)) x A i n × (now + n ≡ old + lines_on_way 4 A i)
turn m x A i h old now (n, reach, all) more = let up : h ≡ suc (h - 1) = omega (arith, more) in (n, subst (λ j. Reaches m j x A i n) up reach, all)

pub arrived : {m : Lookup} {x : Word} {n : ℕ} (A : Array) (i h : ℕ) → h ≡ 0 → Reaches m h x A i n → WordFor 4 m x (at A i) × (n ≡ 0)
arrived {m} {x} {n} A i h e r = subst (λ j. Reaches m j x A i n) e r

-- it begins at the root
pub first_way : {m : Memory} {root x : Word} {A : Array} (i old : ℕ) → RootIn m root A → 1 ≤ root.height → i < 4 ^ root.height → PartFor 4 (line_at m) (whole_part root.height x) A
    → (n : ℕ) × Reaches (line_at m) root.height x A i n × (old + n ≡ old + lines_on_way 4 A i)
first_way {m} {root} {x} {A} i old r some low f = go root.height refl
  where
    go : (h : ℕ) → root.height ≡ h → (n : ℕ) × Reaches (line_at m) h x A i n × (old + n ≡ old + lines_on_way 4 A i)
    go zero e = absurd (omega (arith, some, e))
    go (suc k) e =
        let same : i % 4 ^ suc k ≡ i = mod-eq_of_lt (subst (λ h. i < 4 ^ h) e low) in
        let all : lines_on_way 4 A i ≡ lines_to 4 (suc k) A i = lines_within i (suc k) r (omega arith) (sym e) (subst (λ h. i < 4 ^ h) e low) in (
          lines_to 4 (suc k) A i,
          record { array = A; stands = subst (λ h. PartFor 4 (line_at m) (whole_part h x) A) e f; value = ap (at A) same; lines = ap (lines_to 4 (suc k) A) (sym same) },
          ap (λ n. old + n) (sym all),
        )

-- no more looks are done than the root has levels
pub few_looks : {m : Memory} {root : Word} {A : Array} (i old now n : ℕ) → RootIn m root A → (1 ≤ root.height) × (i < 4 ^ root.height) → now + n ≡ old + lines_on_way 4 A i → now ≤ old + root.height
few_looks {root = root} {A = A} i old now n r (some, low) all =
    let way = lines_within i root.height r some refl low in
    let most = lines_to-low root.height i A in
    omega (arith, all, way, most)

-- a digit, as it is read
pub shifted : (i k : ℕ) → i / 2 ^ (2 * k) % 4 ≡ i / 4 ^ k % 4
shifted i k = ap (λ p. i / p % 4) (sym (four_power k))

-- what lies on the way on is the part's own line and what lies in the quarter of the digit
way_lines : {m : Lookup} {k : ℕ} {x : Word} {A : Array} {i n : ℕ} (q : ℕ) (w : OnWay m (suc k) x A i n) → q ≡ i / 4 ^ k % 4 → n ≡ own_line (enc 4 (suc k) w.array) + lines_to 4 k (part 4 w.array (suc k) q) (i % 4 ^ k)
way_lines {k = k} {i = i} q w e =
    let own = own_line (enc 4 (suc k) w.array) in
    let rest = i % 4 ^ suc k % 4 ^ k in
    w.lines ∙ ap (λ d. own + lines_to 4 k (part 4 w.array (suc k) d) rest) (digit_place i k ∙ sym e) ∙ ap (λ r. own + lines_to 4 k (part 4 w.array (suc k) q) r) (digit_rest i k)

way_value : {m : Lookup} {k : ℕ} {x : Word} {A : Array} {i n : ℕ} (q : ℕ) (w : OnWay m (suc k) x A i n) → 1 ≤ k → q ≡ i / 4 ^ k % 4 → at (part 4 w.array (suc k) q) (i % 4 ^ k) ≡ at A i
way_value {k = k} {A = A} {i = i} q w some e =
    let down : suc k - 1 ≡ k = omega arith in
    let in_quarter = (parts_are_parts 4 (suc k) q w.array (omega (arith, some)) w.stands.is_part).values (i % 4 ^ k) (subst (λ j. i % 4 ^ k < 4 ^ j) (sym down) (rest_low i k)) in
    in_quarter ∙ ap (λ j. at w.array (q * 4 ^ j + i % 4 ^ k)) down ∙ ap (λ d. at w.array (d * 4 ^ k + i % 4 ^ k)) e ∙ ap (at w.array) (sym (digits i k)) ∙ w.value

-- into the quarter of the digit
way_on : {m : Lookup} {x y : Word} {A : Array} {i n : ℕ} (k q : ℕ) (w : OnWay m (suc k) x A i n) → 1 ≤ k → q ≡ i / 4 ^ k % 4 → PartFor 4 m (whole_part k y) (part 4 w.array (suc k) q) → Reaches m k y A i (lines_to 4 k (part 4 w.array (suc k) q) (i % 4 ^ k))
way_on zero q w some e f = absurd (omega (arith, some))
way_on {i = i} (suc j) q w some e f = record { array = part 4 w.array (suc (suc j)) q; stands = f; value = way_value q w some e; lines = refl }

-- through a line
has_word : (o : Option (List Word)) (q : ℕ) (y : Word) → HasWord o q y → (line : List Word) × (o ≡ Some line) × (slice_get line q ≡ Some y)
has_word None q y h = absurd h
has_word (Some line) q y h = (line, refl, h)

word_low : (line : List Word) (q : ℕ) (y : Word) → slice_get line q ≡ Some y → q < length line
word_low line q y e = elim (cases_lt q (length line)) [
  | inl low ↦ low
  | inr past ↦ absurd (let none = slice_get_past line q past in cc)
]

in_line : {m : Lookup} {x y : Word} {A : Array} {i n id q : ℕ} (k : ℕ) (line : List Word) (w : OnWay m (suc k) x A i n) → IsLine 4 m (whole_part (suc k) x) id w.array → m id ≡ Some line → q ≡ i / 4 ^ k % 4 → get_or line q (word_of Num 0 0) ≡ y
    → q < length line → Reaches m k y A i (lines_to 4 k (part 4 w.array (suc k) q) (i % 4 ^ k))
in_line {m} {x} {y} {A} {i} {n} {id} {q} zero line w l is e word low =
    let place : i % 4 ≡ q = omega (arith, e) in
    let here = word_at q w.array line (word_of Num 0 0) (line_words line l is refl) (subst (λ j. j < 4) (sym e) (digit_low (i / 4 ^ 0))) in
    (subst (λ z. WordFor 4 m z (at A i)) word (subst (WordFor 4 m (get_or line q (word_of Num 0 0))) (ap (at w.array) (sym place) ∙ w.value) here), refl)
in_line {m} {x} {y} {A} {i} {n} {id} {q} (suc j) line w l is e word low =
    let quarter = line_quarter q (suc j) line l w.stands is (omega arith) low in
    way_on (suc j) q w (omega arith) e (subst (λ z. PartFor 4 m (whole_part (suc j) z) (part 4 w.array (suc (suc j)) q)) word quarter)

pub through_line : {m : Lookup} {x : Word} {A : Array} {i n k : ℕ} (id q : ℕ) (y : Word) → OnWay m (suc k) x A i n → x.kind ≡ Node → x.bits / 2 ^ 59 ≡ 0 → id ≡ x.bits % 2 ^ 24 → q ≡ i / 4 ^ k % 4 → HasWord (m id) q y
    → (l : ℕ) × Reaches m k y A i l × (n ≡ 1 + l)
through_line {m} {x} {A} {i} {n} {k} id q y w node none e place has =
    let l = stored_opened four_wide id w.stands node (omega arith) none e in
    let (line, is, word) = has_word (m id) q y has in
    let own : own_line (enc 4 (suc k) w.array) ≡ 1 = ap own_line l.made in
    let all = way_lines q w place in
    (lines_to 4 k (part 4 w.array (suc k) q) (i % 4 ^ k), in_line k line w l is place (get_or_from_slice_get line q y (word_of Num 0 0) word) (word_low line q y word), omega (arith, own, all))

-- the line of an entry without a path is there
pub way_line : {m : Lookup} {x : Word} {A : Array} {i n k : ℕ} (id : ℕ) (w : OnWay m (suc k) x A i n) → x.kind ≡ Node → x.bits / 2 ^ 59 ≡ 0 → id ≡ x.bits % 2 ^ 24 → IsLine 4 m (whole_part (suc k) x) id w.array
way_line id w node none e = stored_opened four_wide id w.stands node (omega arith) none e

-- along a path, and off it
way_one : {m : Lookup} {x y : Word} {A : Array} {i n k : ℕ} (path len : ℕ) (w : OnWay m (suc k) x A i n) → x.kind ≡ Node → path ≡ x.bits / 2 ^ 24 % 2 ^ 35 → len ≡ x.bits / 2 ^ 59 → 1 ≤ len
    → y ≡ word_of Node 0 (x.bits % 2 ^ 24 + 2 ^ 24 * (x.bits / 2 ^ 24 % 2 ^ 35 / 4) + 2 ^ 59 * (x.bits / 2 ^ 59 - 1)) → IsOne 4 m (whole_part (suc k) x) (path % 4) (whole_part k y) w.array
way_one {m} {x} {y} {k = k} path len w node p l some word =
    let down : suc k - 1 ≡ k = omega arith in
    subst (λ j. IsOne 4 m (whole_part (suc k) x) (path % 4) (whole_part j y) w.array) down (path_one (suc k) path len y w.stands node p l some word)

way_own : {m : Lookup} {x y : Word} {A : Array} {i n k q : ℕ} (w : OnWay m (suc k) x A i n) → IsOne 4 m (whole_part (suc k) x) q (whole_part k y) w.array → own_line (enc 4 (suc k) w.array) ≡ 0
way_own {x = x} {k = k} w o = one_own o w.stands (raises_whole (whole_part (suc k) x) refl)

pub along_path : {m : Lookup} {x y : Word} {A : Array} {i n k : ℕ} (path len : ℕ) → OnWay m (suc k) x A i n → x.kind ≡ Node → path ≡ x.bits / 2 ^ 24 % 2 ^ 35 → len ≡ x.bits / 2 ^ 59 → 1 ≤ len
    → y ≡ word_of Node 0 (x.bits % 2 ^ 24 + 2 ^ 24 * (x.bits / 2 ^ 24 % 2 ^ 35 / 4) + 2 ^ 59 * (x.bits / 2 ^ 59 - 1)) → path % 4 ≡ i / 4 ^ k % 4 → Reaches m k y A i n
along_path {m} {x} {y} {A} {i} {n} {k} path len w node p l some word e =
    let o = way_one path len w node p l some word in
    let own = way_own w o in
    let all = way_lines (path % 4) w e in
    let high : 2 ≤ suc k = one_high o in
    let same : lines_to 4 k (part 4 w.array (suc k) (path % 4)) (i % 4 ^ k) ≡ n = omega (arith, own, all) in
    subst (Reaches m k y A i) same (way_on k (path % 4) w (omega (arith, high)) e o.quarter)

pub off_path : {m : Lookup} {x : Word} {A : Array} {i n k : ℕ} (path len : ℕ) → OnWay m (suc k) x A i n → x.kind ≡ Node → path ≡ x.bits / 2 ^ 24 % 2 ^ 35 → len ≡ x.bits / 2 ^ 59 → 1 ≤ len
    → path % 4 ≢ i / 4 ^ k % 4 → (at A i ≡ Number 0) × (n ≡ 0)
off_path {m} {x} {A} {i} {n} {k} path len w node p l some apart =
    let q = i / 4 ^ k % 4 in
    let o = way_one path len w node p l some refl in
    let own = way_own w o in
    let all = way_lines q w refl in
    let high : 2 ≤ suc k = one_high o in
    let none : part 4 w.array (suc k) q ≡ [] = o.others q (digit_low (i / 4 ^ k)) (λ e. apart (sym e)) in
    let empty = ap (λ (B : Array). lines_to 4 k B (i % 4 ^ k)) none ∙ lines_to-empty k (i % 4 ^ k) in
    (sym (way_value q w (omega (arith, high)) refl) ∙ ap (λ (B : Array). at B (i % 4 ^ k)) none, omega (arith, own, all, empty))

-- at an empty part
pub at_empty : {m : Lookup} {x : Word} {A : Array} {i n k : ℕ} → OnWay m (suc k) x A i n → (x.kind ≡ Node → ⊥) → (x.kind ≡ kinds.Pack → ⊥) → (at A i ≡ Number 0) × (n ≡ 0)
at_empty {i = i} {k = k} w node packed =
    let none = zero_opened w.stands node packed in
    (sym w.value ∙ ap (λ (B : Array). at B (i % 4 ^ suc k)) none, w.lines ∙ ap (λ (B : Array). lines_to 4 (suc k) B (i % 4 ^ suc k)) none ∙ lines_to-empty (suc k) (i % 4 ^ suc k))

-- at packed numbers
values_at : (A : Array) (q : ℕ) (d : Value) → q < 4 → get_or (values 4 0 A) q d ≡ at A q
values_at A zero d l = refl
values_at A (suc zero) d l = refl
values_at A (suc (suc zero)) d l = refl
values_at A (suc (suc (suc zero))) d l = refl
values_at A (suc (suc (suc (suc q)))) d l = absurd (omega (arith, l))

pub at_packed : {m : Lookup} {x y : Word} {A : Array} {i n k q : ℕ} → OnWay m (suc k) x A i n → x.kind ≡ kinds.Pack → q ≡ i / 4 ^ k % 4
    → ((ns : List ℕ) → AllBelow 65536 ns → x.bits ≡ pack_bits 4 ns → WordFor 4 m y (Number (slice_index ns q))) → WordFor 4 m y (at A i) × (n ≡ 0)
at_packed {k = suc j} w packed e number = let (ns, is, bits) = entry_packed w.stands.entry packed in absurd (let low = pack_height 4 (suc (suc j)) w.array ns is in omega (arith, low))
at_packed {m = m} {y = y} {A = A} {i = i} {n = n} {k = zero} {q = q} w packed e number =
    let (ns, is, bits) = entry_packed w.stands.entry packed in
    let (long, small) = packs_are_small 4 1 w.array ns four_wide w.stands.is_part is in
    let place : q ≡ i % 4 = omega (arith, e) in
    let here : Number (slice_index ns q) ≡ at A i =
    sym (get_or-map Number ns q 0) ∙ ap (λ (vs : List Value). get_or vs q (Number 0)) (packed_values 4 w.array ns is) ∙ values_at w.array q (Number 0) (subst (λ d. d < 4) (sym e) (digit_low (i / 4 ^ 0))) ∙ ap (at w.array) place ∙ w.value in
    let none : own_line (enc 4 1 w.array) ≡ 0 = ap own_line is in
    let all : n ≡ own_line (enc 4 1 w.array) + 0 = w.lines in
    (subst (WordFor 4 m y) here (number ns small bits), omega (arith, none, all))
