-- Words and quarters by their places.
use Rattle.std.proofs.Common.{◌≡◌, ◌≢◌, ℕ, zero, suc, ◌+◌, ◌-◌, ◌*◌, ◌/◌, ◌%◌, ◌^◌, ◌<◌, ◌≤◌, List, [], ◌∷◌, map, length, slice_index_or, Some, sym, ◌∙◌, ap, subst, arith}
use Rattle.std.proofs.Math.Nat.{one-le-pow, pow-le-pow_right, pow-succ'}
use Rattle.std.proofs.lemmas.Nat.{div-add-mod', div_below, mod_below, mul-add-lt}
use Rattle.hic_word.specs.Width.{four_wide}
use Rattle.hic_word.specs.declared.Kind.TheVariants.{Node}
use Rattle.hic_word.specs.declared.Kind.TheVariants as kinds
use Rattle.hic_word.specs.declared.Word.{Word}
use Rattle.hic_word.specs.Lists.{AllBelow}
use Rattle.hic_word.specs.Values.{Array, Number, at}
use Rattle.hic_word.specs.Parts.{part, values}
use Rattle.hic_word.specs.Canon.{IsPart, enc}
use Rattle.hic_word.specs.Stands.{AWord, Lookup, WordFor, WordsFor, pack_bits, word_of}
use Rattle.hic_word.proofs.callers.Forms.{parts_are_parts}
use Rattle.seg_canon.specs.declared.parts.Part.{Part}
use Rattle.seg_canon.specs.Opens.{IsLine, IsOne}
use Rattle.seg_canon.specs.Parts.{PartFor, QuartersFor, whole_part}
use Rattle.seg_canon.proofs.Opening.{entry_packed, pack_opened, path_opened, stored_opened}
use Rattle.seg_canon.proofs.Pieces.{pack_height}
use Rattle.seg_canon.proofs.Quarters.{lines_are_stored, quarters_of_line}
use Rattle.seg_read.specs.Founds.{word_in}
use Rattle.seg_read.specs.Levels.{levels}
use Rattle.seg_read.proofs.Entering.{line_levels, one_high, part_top}
use Rattle.seg_read.proofs.Levels.{quarter_low}
use Rattle.seg_read.proofs.OwnLevels.{own_levels}

words_from : {m : Lookup} (n b i : ℕ) (A : Array) (xs : List Word) (d : Word) → WordsFor 4 m xs (values n b A) → i < n → WordFor 4 m (slice_index_or xs i d) (at A (b + i))
words_from {m} zero b i A xs d f l = absurd (omega arith)
words_from {m} (suc n) b i A [] d f l = elim f [ ]
words_from {m} (suc n) b zero A (x ∷ xs) d (AWord w ws) l = subst (λ j. WordFor 4 m x (at A j)) (let same : b ≡ b + 0 = omega arith in same) w
words_from {m} (suc n) b (suc i) A (x ∷ xs) d (AWord w ws) l = subst (λ j. WordFor 4 m (slice_index_or xs i d) (at A j)) (let same : suc b + i ≡ b + suc i = omega arith in same) (words_from n (suc b) i A xs d ws (omega arith))

pub word_at : {m : Lookup} (i : ℕ) (A : Array) (xs : List Word) (d : Word) → WordsFor 4 m xs (values 4 0 A) → i < 4 → WordFor 4 m (slice_index_or xs i d) (at A i)
word_at {m} i A xs d f l = subst (λ j. WordFor 4 m (slice_index_or xs i d) (at A j)) (let same : 0 + i ≡ i = omega arith in same) (words_from 4 0 i A xs d f l)

-- what stands for a part past the end of a list
abbrev pub no_part : Part
no_part = record { top = 0; at = 0; entry = word_of kinds.Num 0 0 }

quarters_from : {m : Lookup} (h k q i : ℕ) (A : Array) (xs : List Word) → QuartersFor 4 m h A q (map (whole_part k) xs) → i < length xs → PartFor 4 m (whole_part k (word_in xs i)) (part 4 A h (q + i))
quarters_from h k q i A [] f l = absurd (omega arith)
quarters_from {m} h k q zero A (x ∷ xs) f l = subst (λ j. PartFor 4 m (whole_part k x) (part 4 A h j)) (let same : q ≡ q + 0 = omega arith in same) f.0
quarters_from {m} h k q (suc i) A (x ∷ xs) f l = subst (λ j. PartFor 4 m (whole_part k (word_in xs i)) (part 4 A h j)) (let same : q + 1 + i ≡ q + suc i = omega arith in same) (quarters_from h k (q + 1) i A xs f.1 (omega arith))

-- the quarters of a line that is not a leaf
pub line_quarter : {m : Lookup} {x : Word} {id : ℕ} {A : Array} (q k : ℕ) (line : List Word) → IsLine 4 m (whole_part (suc k) x) id A → PartFor 4 m (whole_part (suc k) x) A → m id ≡ Some line → 1 ≤ k → q < length line → PartFor 4 m (whole_part k (word_in line q)) (part 4 A (suc k) q)
line_quarter {m} {x} {id} {A} q k line l f is some low =
    let down : suc k - 1 ≡ k = omega arith in
    let all = quarters_of_line four_wide m (suc k) A l.value line (omega (arith, some)) (part_top f) l.made (lines_are_stored 4 m id l.value line l.line is) in
    let one = quarters_from (suc k) (suc k - 1) 0 q A line all low in
    subst (λ j. PartFor 4 m (whole_part j (word_in line q)) (part 4 A (suc k) q)) down (subst (λ j. PartFor 4 m (whole_part (suc k - 1) (word_in line q)) (part 4 A (suc k) j)) (let same : 0 + q ≡ q = omega arith in same) one)

-- an array of a height above 1, s being the number of a quarter's offsets
pub record HasQuarters (h s : ℕ) (A : Array) : Type 0 where
  pub size : s ≡ 4 ^ (h - 1)
  pub some : 1 ≤ s
  pub all : 4 ^ h ≡ 4 * s
  pub high : 2 ≤ h
  pub is_part : IsPart 4 h A

pub has_quarters : {m : Lookup} {x : Word} {A : Array} (h s : ℕ) → PartFor 4 m (whole_part h x) A → s ≡ 4 ^ (h - 1) → 2 ≤ h → HasQuarters h s A
has_quarters h s f size high =
    let some : 1 ≤ 4 ^ (h - 1) = one-le-pow (h - 1) 4 (omega arith) in
    let up : suc (h - 1) ≡ h = omega (arith, high) in
    let all : 4 ^ h ≡ 4 * 4 ^ (h - 1) = ap (λ n. 4 ^ n) (sym up) ∙ pow-succ' 4 (h - 1) in
    record {
      size = size;
      some = subst (λ n. 1 ≤ n) (sym size) some;
      all = subst (λ n. 4 ^ h ≡ 4 * n) (sym size) all;
      high = high;
      is_part = part_top f;
    }

-- the quarters of a line that is not a leaf, each with fewer levels than the line
pub record LineQuarters (m : Lookup) (h s : ℕ) (A : Array) (line : List Word) : Type 0 where
  pub quarters : HasQuarters h s A
  pub stand : (q : ℕ) → q < 4 → PartFor 4 m (whole_part (h - 1) (word_in line q)) (part 4 A h q)
  pub levels : (q : ℕ) → q < 4 → suc (levels (enc 4 (h - 1) (part 4 A h q))) ≤ levels (enc 4 h A)

pub line_quarters : {m : Lookup} {x : Word} {id : ℕ} {A : Array} (h s : ℕ) (line : List Word) → IsLine 4 m (whole_part h x) id A → PartFor 4 m (whole_part h x) A → m id ≡ Some line → length line ≡ 4 → s ≡ 4 ^ (h - 1) → 2 ≤ h → LineQuarters m h s A line
line_quarters {m} {x} {id} {A} h s line l f is long size high =
    let up : suc (h - 1) ≡ h = omega (arith, high) in
    let all = line_levels l in
    record {
      quarters = has_quarters h s f size high;
      stand = λ q low. subst (λ j. PartFor 4 m (whole_part (h - 1) (word_in line q)) (part 4 A j q)) up (line_quarter q (h - 1) line (subst (λ j. IsLine 4 m (whole_part j x) id A) (sym up) l) (subst (λ j. PartFor 4 m (whole_part j x) A) (sym up) f) is (omega (arith, high)) (omega (arith, long, low)));
      levels = λ q low. let fewer = quarter_low h A l.value q high l.made low in omega (arith, fewer, all);
    }

-- the only quarter with a word, to which a path leads, with as many levels
pub record PathQuarter (m : Lookup) (h s q : ℕ) (x y : Word) (A : Array) : Type 0 where
  pub quarters : HasQuarters h s A
  pub one : IsOne 4 m (whole_part h x) q (whole_part (h - 1) y) A
  pub levels : levels (enc 4 (h - 1) (part 4 A h q)) ≡ levels (enc 4 h A)

-- an entry that names a line without its path's first number
abbrev pub shorter_word : Word → Word
shorter_word x = word_of Node 0 (x.bits % 2 ^ 24 + 2 ^ 24 * (x.bits / 2 ^ 24 % 2 ^ 35 / 4) + 2 ^ 59 * (x.bits / 2 ^ 59 - 1))

pub path_one : {m : Lookup} {x : Word} {A : Array} (h path len : ℕ) (y : Word) → PartFor 4 m (whole_part h x) A → x.kind ≡ Node → path ≡ x.bits / 2 ^ 24 % 2 ^ 35 → len ≡ x.bits / 2 ^ 59 → 1 ≤ len
    → y ≡ shorter_word x → IsOne 4 m (whole_part h x) (path % 4) (whole_part (h - 1) y) A
path_one h path len y f node p l some word = path_opened four_wide path len y f node (omega arith) p l some word

pub path_quarter : {m : Lookup} {x : Word} {A : Array} (h path len s : ℕ) (y : Word) → PartFor 4 m (whole_part h x) A → x.kind ≡ Node → path ≡ x.bits / 2 ^ 24 % 2 ^ 35 → len ≡ x.bits / 2 ^ 59 → 1 ≤ len
    → y ≡ shorter_word x → s ≡ 4 ^ (h - 1) → PathQuarter m h s (path % 4) x y A
path_quarter h path len s y f node p l some word size =
    let o = path_one h path len y f node p l some word in
    record { quarters = has_quarters h s f size (one_high o); one = o; levels = own_levels f o }

-- packed numbers
pub packed_words : {m : Lookup} {x : Word} {A : Array} (h : ℕ) (words : List Word) → PartFor 4 m (whole_part h x) A → x.kind ≡ kinds.Pack
    → ((ns : List ℕ) → AllBelow 65536 ns → length ns ≡ 4 → x.bits ≡ pack_bits 4 ns → WordsFor 4 m words (map Number ns)) → (h ≡ 1) × WordsFor 4 m words (values 4 0 A)
packed_words {A = A} h words f k unpacked =
    let (ns, is, bits) = entry_packed f.entry k in
    let (ms, made, stand) = pack_opened four_wide words f k unpacked in
    (pack_height 4 h A ns is, stand)

-- what a quarter has
pub quarter_value : {h s : ℕ} {A : Array} (q i : ℕ) → HasQuarters h s A → i < s → at (part 4 A h q) i ≡ at A (q * s + i)
quarter_value {h} {s} {A} q i w l = subst (λ n. at (part 4 A h q) i ≡ at A (q * n + i)) (sym w.size) ((parts_are_parts 4 h q A w.high w.is_part).values i (subst (λ n. i < n) w.size l))

-- an offset in a quarter is one in the whole, and fits
pub offset_low : {h s : ℕ} {A : Array} (q o : ℕ) → HasQuarters h s A → q < 4 → o < s → q * s + o < 4 ^ h
offset_low q o w place low = let l = mul-add-lt q _ o 4 place low in let all = w.all in omega (arith, l, all)

pub offset_fits : {h s : ℕ} {A : Array} (n : ℕ) → HasQuarters h s A → n < 4 ^ h → n < 4294967296
offset_fits {h = h} n w l = let low = w.is_part.low in let less : 4 ^ h ≤ 4 ^ 16 = pow-le-pow_right (omega arith) low in omega (arith, less, l)

pub quarter_offset : {h s : ℕ} {A : Array} (o : ℕ) → HasQuarters h s A → o < 4 ^ (h - 1) → o < s
quarter_offset o w l = subst (λ n. o < n) (sym w.size) l

-- the quarter that an offset falls in
pub record IsHere (h s i : ℕ) : Type 0 where
  pub place : i / s < 4
  pub rest : i % s < 4 ^ (h - 1)
  pub whole : i / s * s + i % s ≡ i

pub quarter_here : {h s : ℕ} {A : Array} (i : ℕ) → HasQuarters h s A → i < 4 ^ h → IsHere h s i
quarter_here {h} {s} i w low =
    let all = w.all in
    record {
      place = div_below i s 4 w.some (omega (arith, all, low));
      rest = subst (λ n. i % s < n) w.size (mod_below i s w.some);
      whole = div-add-mod' i s;
    }

-- an entry that names a line without a path, and where an offset falls in its quarters
pub whole_line : {m : Lookup} {x : Word} {A : Array} (h id len : ℕ) → PartFor 4 m (whole_part h x) A → x.kind ≡ Node → len ≡ x.bits / 2 ^ 59 → len ≤ 0 → id ≡ x.bits % 2 ^ 24 → IsLine 4 m (whole_part h x) id A
whole_line h id len f node l none e = stored_opened four_wide id f node (omega arith) (omega (arith, l, none)) e

pub record LineHere (m : Lookup) (h s i : ℕ) (A : Array) (line : List Word) : Type 0 where
  pub all : LineQuarters m h s A line
  pub here : IsHere h s i
  pub stand : PartFor 4 m (whole_part (h - 1) (word_in line (i / s))) (part 4 A h (i / s))
  pub fewer : suc (levels (enc 4 (h - 1) (part 4 A h (i / s)))) ≤ levels (enc 4 h A)

pub line_here : {m : Lookup} {x : Word} {id : ℕ} {A : Array} (h s i : ℕ) (line : List Word) → PartFor 4 m (whole_part h x) A → IsLine 4 m (whole_part h x) id A → m id ≡ Some line → length line ≡ 4 → s ≡ 4 ^ (h - 1) → h ≢ 1 → i < 4 ^ h → LineHere m h s i A line
line_here h s i line f l is long size more low =
    let positive = f.is_part.positive in
    let all = line_quarters h s line l f is long size (omega (arith, positive, more)) in
    let here = quarter_here i all.quarters low in
    record { all = all; here = here; stand = all.stand (i / s) here.place; fewer = all.levels (i / s) here.place }
