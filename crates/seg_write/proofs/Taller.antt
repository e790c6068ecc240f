-- A part that is taken to a greater height, with changes past its own.
use Rattle.std.proofs.Common.{◌≡◌, ℕ, ◌+◌, ◌-◌, ◌*◌, ◌<◌, ◌≤◌, List, [], ◌∷◌, length, take, drop, refl, sym, ◌∙◌, ap, subst, arith}
use Rattle.std.proofs.Math.Nat.{mul-le-mul, mul-le-mul_left, mul-le-mul_right}
use Rattle.hic_word.specs.Width.{four_wide}
use Rattle.hic_word.specs.declared.Kind.TheVariants.{Num}
use Rattle.hic_word.specs.declared.Word.{Word}
use Rattle.hic_word.specs.Values.{Array, IsArray}
use Rattle.hic_word.specs.Canon.{IsPart, enc}
use Rattle.hic_word.specs.Standing.{IsWithin}
use Rattle.hic_word.specs.Stands.{Lookup, word_of}
use Rattle.line_mem.specs.Looks.{LooksUpTo}
use Rattle.seg_canon.specs.declared.parts.Part.{Part}
use Rattle.seg_canon.specs.Folds.{PiecesFor}
use Rattle.seg_canon.specs.Parts.{PartFor, whole_part}
use Rattle.seg_canon.proofs.Growing.{part_grows}
use Rattle.seg_canon.proofs.Pieces.{first_quarter, other_quarters}
use Rattle.seg_read.specs.Levels.{levels}
use Rattle.seg_read.proofs.Entering.{empty_quarter, part_top}
use Rattle.seg_read.proofs.Levels.{levels_low}
use Rattle.seg_read.proofs.Rooting.{as_whole}
use Rattle.seg_write.specs.Gains.{HasNamed, HaveNamed}
use Rattle.seg_write.specs.Puts.{AreEntries, CanGrow, CanPut, CanPutEach, FallInto, HaveLevels, put_at, put_each, quarters_of}
use Rattle.seg_write.proofs.Changing.{fall_quarters, part_put, quarters_put}
use Rattle.seg_write.proofs.Growing.{fall_grows}
use Rattle.seg_write.proofs.Naming.{quarters_named}
use Rattle.seg_write.proofs.Putting.{no_changes}
use Rattle.seg_write.proofs.Quartering.{entries_are_pieces}
use Rattle.seg_write.proofs.Tops.{empty_levels}
use Rattle.seg_write.proofs.Turning.{Cut}

-- three empty arrays
abbrev pub nothing : List Array
nothing = [] ∷ [] ∷ [] ∷ []

pub no_levels : (k : ℕ) → HaveLevels 0 k nothing
no_levels k = empty_levels 0 k nothing (refl, (refl, (refl, tt)))

module _ {m : Lookup} {p : Part} {cs : List (ℕ × Word)} {A L : Array} (can : CanGrow m p cs A L) where
  pub tall_part : IsPart 4 p.top (put_at p.top 0 A L)
  tall_part = part_put p.top 0 0 A L (part_top can.part) can.changes.ascend

  -- without changes it is the part's array
  pub nothing_put : length cs ≡ 0 → A ≡ put_at p.top 0 A L
  nothing_put e = sym (ap (put_at p.top 0 A) (no_changes m cs L e can.changes.changes))

  -- at its own height the changes are put into its entry
  pub puts_whole : p.top ≤ p.at → CanPut m p.top p.entry 0 cs A L
  puts_whole all =
      let high = can.part.high in
      record { part = as_whole p.top p refl (omega (arith, all, high)) can.part; changes = can.changes }

  module _ (less : p.at < p.top) where
    pub tall : 2 ≤ p.top
    tall = let some = can.part.is_part.positive in omega (arith, some, less)

    pub four_fall : FallInto m (p.top - 1) 0 4 cs L
    four_fall = fall_quarters m p.top 0 cs L tall can.changes

    -- below its own height it is its first quarter
    alone : quarters_of p.top A ≡ A ∷ nothing
    alone =
        let low : p.at ≤ p.top - 1 = omega (arith, less) in
        let first = first_quarter four_wide p.top p.at A low can.part.is_part.below in
        let none = other_quarters four_wide p.top p.at A low can.part.is_part.below in
        λ i. first i ∷ none 1 (λ e. cc) i ∷ none 2 (λ e. cc) i ∷ none 3 (λ e. cc) i ∷ []

    module _ {c i : ℕ} {here later : List (ℕ × Word)} (w : Cut m (p.top - 1) 0 c i 3 cs here later L) where
      pub grows_first : (q : Part) → q ≡ record { top = p.top - 1; at = p.at; entry = p.entry } → CanGrow m q here A (take i L)
      grows_first q is =
          let low = can.part.low in
          subst (λ (r : Part). CanGrow m r here A (take i L)) (sym is) (record {
            part = record { is_part = can.part.is_part; high = omega (arith, less); low = omega (arith, low); entry = can.part.entry };
            changes = w.first;
          })

      pub puts_later : (n : Lookup) (z : Word) → IsWithin m n → z ≡ word_of Num 0 0 → CanPutEach n (p.top - 1) (z ∷ z ∷ z ∷ []) c later nothing (drop i L)
      puts_later n z within is =
          let low = can.part.low in
          let more = tall in
          let none = empty_quarter n (p.top - 1) z [] (omega (arith, more)) (omega (arith, low)) is refl in
          record { entries = (none, (none, (none, tt))); changes = fall_grows m n within (p.top - 1) c 3 later (drop i L) w.others }

      quarters : put_at (p.top - 1) 0 A (take i L) ∷ put_each (p.top - 1) c nothing (drop i L) ≡ quarters_of p.top (put_at p.top 0 A L)
      quarters = sym (w.put A nothing) ∙ ap (λ As. put_each (p.top - 1) 0 As L) (sym alone) ∙ quarters_put p.top 0 0 A L (part_top can.part) can.changes.ascend

      pub tall_pieces : (mid n : Lookup) (x : Word) (xs : List Word) → IsWithin mid n → PartFor 4 mid (whole_part (p.top - 1) x) (put_at (p.top - 1) 0 A (take i L))
          → AreEntries n (p.top - 1) xs (put_each (p.top - 1) c nothing (drop i L)) → PiecesFor 4 n p.top (x ∷ xs) (put_at p.top 0 A L)
      tall_pieces mid n x xs within first rest =
          entries_are_pieces n p.top (put_at p.top 0 A L) tall (x ∷ xs) (subst (AreEntries n (p.top - 1) (x ∷ xs)) quarters (part_grows mid n within (whole_part (p.top - 1) x) (put_at (p.top - 1) 0 A (take i L)) first, rest))

      pub tall_named : (C : Array) → IsArray C → HasNamed (enc 4 p.top (put_at p.top 0 A L)) (C ∷ []) → HaveNamed (p.top - 1) (put_at (p.top - 1) 0 A (take i L) ∷ put_each (p.top - 1) c nothing (drop i L)) (C ∷ [])
      tall_named C whole named = subst (λ As. HaveNamed (p.top - 1) As (C ∷ [])) (sym quarters) (quarters_named p.top (put_at p.top 0 A L) C tall whole named)

-- the looks of a height's changes and of those below it, and for the line that is made
pub grown_looks : (a b n v t own P Q R s0 s1 s2 s3 : ℕ) → a + b ≡ n → 1 ≤ n → 2 ≤ t → own ≤ 1 → Q ≡ P → R ≡ P → LooksUpTo (a * v + (a * (t - 1) + 1) * P) s0 s1 → LooksUpTo (b * (0 + (t - 1) * Q)) s1 s2 → LooksUpTo (own * R) s2 s3
    → LooksUpTo (n * v + (n * t + 1) * P) s0 s3
grown_looks a b n v t own P Q R s0 s1 s2 s3 sum some high one same last first then store =
    let k = t - 1 in
    let up : t ≡ k + 1 = omega arith in
    let reads : n * v ≡ a * v + b * v = ap (λ c. c * v) (sym sum) ∙ omega arith in
    let all : n * t ≡ a * k + b * k + n = ap (λ c. n * c) up ∙ (let s : n * (k + 1) ≡ n * k + n = omega arith in s) ∙ ap (λ c. c * k + n) (sym sum) ∙ omega arith in
    let fits : (a * k + 1 + b * k + 1) * P ≤ (n * t + 1) * P = mul-le-mul_right P (omega (arith, all, some)) in
    let made : own * R ≤ 1 * R = mul-le-mul_right R one in
    let before : b * (0 + k * Q) ≡ b * k * P = ap (λ c. b * (0 + k * c)) same ∙ omega arith in
    let ra = first.0 in
    let rb = then.0 in
    let rc = store.0 in
    let la = first.1 in
    let lb = then.1 in
    let lc = store.1 in
    (omega (arith, ra, rb, rc), omega (arith, la, lb, lc, reads, fits, made, before, last))

-- the counts of what is taken
pub grown_fits : (a b n t : ℕ) → a + b ≡ n → 1 ≤ n → 2 ≤ t → 4 * (t - 1) * a + 2 + (4 * (t - 1) * b + 3) + 1 ≤ 4 * t * n + 2
grown_fits a b n t sum some high =
    let k = t - 1 in
    let up : t ≡ k + 1 = omega arith in
    let all : 4 * t * n ≡ 4 * k * a + 4 * k * b + 4 * n = ap (λ c. 4 * c * n) up ∙ (let s : 4 * (k + 1) * n ≡ 4 * k * n + 4 * n = omega arith in s) ∙ ap (λ c. 4 * k * c + 4 * n) (sym sum) ∙ omega arith in
    omega (arith, all, some)

-- the counts have room for each
pub grown_room : (a b n t x M : ℕ) → a + b ≡ n → 1 ≤ n → 2 ≤ t → x + (4 * t * n + 2) ≤ M → (x + (4 * (t - 1) * a + 2) ≤ M) × (x + (4 * (t - 1) * a + 2) + (4 * (t - 1) * b + 3) + 1 ≤ M)
grown_room a b n t x M sum some high room =
    let fits = grown_fits a b n t sum some high in
    (omega (arith, fits, room), omega (arith, fits, room))

-- the looks where there are no changes, and at the part's own height
pub raised_looks : (n v t P s0 s1 : ℕ) → LooksUpTo P s0 s1 → LooksUpTo (n * v + (n * t + 1) * P) s0 s1
raised_looks n v t P s0 s1 looks =
    let all : (n * t + 1) * P ≡ n * t * P + P = omega arith in
    let last = looks.1 in
    (looks.0, omega (arith, last, all))

pub whole_looks : {m : Lookup} {p : Part} {cs : List (ℕ × Word)} {A L : Array} → CanGrow m p cs A L → p.top ≤ p.at → (n P s0 s1 : ℕ) → LooksUpTo (n * (levels (enc 4 p.top A) + levels (enc 4 p.top (put_at p.top 0 A L)) * P)) s0 s1
    → LooksUpTo (n * levels (enc 4 p.at A) + (n * p.top + 1) * P) s0 s1
whole_looks {p = p} {A = A} {L = L} can all n P s0 s1 looks =
    let high = can.part.high in
    let same : levels (enc 4 p.top A) ≡ levels (enc 4 p.at A) = ap (λ h. levels (enc 4 h A)) (let top : p.top ≡ p.at = omega (arith, all, high) in top) in
    let e = levels (enc 4 p.top (put_at p.top 0 A L)) in
    let made : n * e * P ≤ n * p.top * P = mul-le-mul_right P (mul-le-mul_left n (levels_low p.top (put_at p.top 0 A L))) in
    let reads = ap (λ k. n * k) same in
    let sum : n * (levels (enc 4 p.top A) + e * P) ≡ n * levels (enc 4 p.top A) + n * e * P = omega arith in
    let more : (n * p.top + 1) * P ≡ n * p.top * P + P = omega arith in
    let last = looks.1 in
    (looks.0, omega (arith, last, made, reads, sum, more))

pub first_grown : (a b n v t P s0 s1 : ℕ) → a + b ≡ n → LooksUpTo (a * v + (a * (t - 1) + 1) * P) s0 s1 → LooksUpTo (n * v + (n * t + 1) * P) s0 s1
first_grown a b n v t P s0 s1 sum first =
    let reads : a * v ≤ n * v = mul-le-mul_right v (omega (arith, sum)) in
    let fewer : a * (t - 1) ≤ n * t = mul-le-mul (omega (arith, sum)) (omega arith) in
    let made : (a * (t - 1) + 1) * P ≤ (n * t + 1) * P = mul-le-mul_right P (omega (arith, fewer)) in
    let last = first.1 in
    (first.0, omega (arith, last, reads, made))
