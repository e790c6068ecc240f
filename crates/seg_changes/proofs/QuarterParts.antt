-- The quarters of two parts, and where they differ.
use Rattle.std.proofs.Common.{◌≡◌, ◌≢◌, ℕ, zero, suc, ◌+◌, ◌-◌, ◌*◌, ◌^◌, ◌<◌, ◌≤◌, List, ◌++◌, length, refl, sym, ◌∙◌, ap, subst, arith}
use Rattle.std.proofs.Math.Nat.{mul-le-mul, pow-succ'}
use Rattle.std.proofs.lemmas.List.{length-append}
use Rattle.hic_word.specs.declared.Word.{Word}
use Rattle.hic_word.specs.Values.{Array, at}
use Rattle.hic_word.specs.Parts.{part}
use Rattle.hic_word.specs.Canon.{IsPart}
use Rattle.hic_word.specs.Stands.{Lookup}
use Rattle.hic_word.proofs.callers.Forms.{parts_are_parts}
use Rattle.seg_canon.specs.declared.parts.Part.{Part}
use Rattle.seg_canon.specs.Parts.{PartFor}
use Rattle.seg_read.proofs.Entering.{part_top}
use Rattle.seg_read.proofs.Raising.{raises_whole}
use Rattle.seg_changes.specs.declared.within.Within.{Within}
use Rattle.seg_changes.specs.Differing.{Adds, differ_from, raised_at}
use Rattle.seg_changes.specs.Withins.{WithinFor, quarter_within, raises_from}
use Rattle.seg_changes.proofs.Adding.{adds_more}
use Rattle.seg_changes.proofs.Ranges.{differ-append, raised-append, raised_length, raised_moved}

-- an array of a height above 1, and what is within its part, s being the number of a quarter's offsets
pub record HaveQuarters (m : Lookup) (h s : ℕ) (A : Array) (w : Within) : Type 0 where
  pub size : s ≡ 4 ^ (h - 1)
  pub all : 4 ^ h ≡ 4 * s
  pub high : 2 ≤ h
  pub is_part : IsPart 4 h A
  pub within : WithinFor m h w A

pub have_quarters : {m : Lookup} {A : Array} {w : Within} (p : Part) (h s : ℕ) → PartFor 4 m p A → h ≡ p.top → h ≢ 1 → s ≡ 4 ^ (h - 1) → WithinFor m p.top w A → HaveQuarters m h s A w
have_quarters {m} {A} {w} p h s f e more size within =
    let part = part_top f in
    let some = part.positive in
    let high : 2 ≤ h = omega (arith, some, e, more) in
    let up : suc (h - 1) ≡ h = omega (arith, high) in
    record {
      size = size;
      all = ap (λ n. 4 ^ n) (sym up) ∙ pow-succ' 4 (h - 1) ∙ ap (λ n. 4 * n) (sym size);
      high = high;
      is_part = subst (λ k. IsPart 4 k A) (sym e) part;
      within = subst (λ k. WithinFor m k w A) (sym e) within;
    }

-- what a quarter has
quarter_value : {m : Lookup} {h s : ℕ} {A : Array} {w : Within} (q i : ℕ) → HaveQuarters m h s A w → i < s → at (part 4 A h q) i ≡ at A (q * s + i)
quarter_value {m} {h} {s} {A} q i v low = subst (λ n. at (part 4 A h q) i ≡ at A (q * n + i)) (sym v.size) ((parts_are_parts 4 h q A v.high v.is_part).values i (subst (λ n. i < n) v.size low))

-- quarters of height 1 take no line to be raised
low_quarters : {m : Lookup} {h s : ℕ} {A : Array} {w : Within} (i n : ℕ) → HaveQuarters m h s A w → h ≡ 2 → i + n ≤ 4 → raises_from w (h - 1) i n ≡ 0
low_quarters i zero v two low = refl
low_quarters {h = h} {w = w} i (suc n) v two low =
    let place : i < 4 = omega (arith, low) in
    let f = v.within.quarters v.high i place in
    let top = v.within.heights v.high i place in
    let some = f.is_part.positive in
    let high = f.high in
    let this = raises_whole (quarter_within w (h - 1) i) (omega (arith, some, high, top, two)) in
    let rest = low_quarters (i + 1) n v two (omega (arith, low)) in
    omega (arith, this, rest)

pub quarters_free : {m : Lookup} {h s : ℕ} {A : Array} {w : Within} → HaveQuarters m h s A w → h ≡ 2 → raises_from w (h - 1) 0 4 ≡ 0
quarters_free v two = low_quarters 0 4 v two (omega arith)

-- what differs before quarter q, and in it
module _ {m : Lookup} {h s : ℕ} {A B : Array} {old_within new_within : Within} (w : HaveQuarters m h s A old_within) (v : HaveQuarters m h s B new_within) where
  before_next : (q : ℕ) → differ_from 0 ((q + 1) * s) A B ≡ differ_from 0 (q * s) A B ++ differ_from (q * s) s A B
  before_next q =
      let all : (q + 1) * s ≡ q * s + s = omega arith in
      let start : 0 + q * s ≡ q * s = omega arith in
      ap (λ n. differ_from 0 n A B) all ∙ differ-append 0 (q * s) s A B ∙ ap (λ i. differ_from 0 (q * s) A B ++ differ_from i s A B) start

  -- the differences of the quarters are those of the arrays
  quarter_differs : (b q : ℕ) → raised_at (b + q * s) (part 4 B h q) (differ_from 0 s (part 4 A h q) (part 4 B h q)) ≡ raised_at b B (differ_from (q * s) s A B)
  quarter_differs b q =
      let start : q * s + 0 ≡ q * s = omega arith in
      raised_moved b (q * s) 0 s A B (part 4 A h q) (part 4 B h q) (λ j l. quarter_value q j w (omega (arith, l))) (λ j l. quarter_value q j v (omega (arith, l)))
      ∙ ap (λ i. raised_at b B (differ_from i s A B)) start

  quarter_length : (q : ℕ) → length (differ_from 0 s (part 4 A h q) (part 4 B h q)) ≡ length (differ_from (q * s) s A B)
  quarter_length q = sym (raised_length (0 + q * s) (part 4 B h q) (differ_from 0 s (part 4 A h q) (part 4 B h q))) ∙ ap length (quarter_differs 0 q) ∙ raised_length 0 B (differ_from (q * s) s A B)

  next_differs : (b q : ℕ) → raised_at b B (differ_from 0 (q * s) A B) ++ raised_at (b + q * s) (part 4 B h q) (differ_from 0 s (part 4 A h q) (part 4 B h q)) ≡ raised_at b B (differ_from 0 ((q + 1) * s) A B)
  next_differs b q = ap (λ ds. raised_at b B (differ_from 0 (q * s) A B) ++ ds) (quarter_differs b q) ∙ sym (ap (raised_at b B) (before_next q) ∙ raised-append b B (differ_from 0 (q * s) A B) (differ_from (q * s) s A B))

  pub next_length : (q : ℕ) → length (differ_from 0 ((q + 1) * s) A B) ≡ length (differ_from 0 (q * s) A B) + length (differ_from 0 s (part 4 A h q) (part 4 B h q))
  next_length q = ap length (before_next q) ∙ length-append (differ_from 0 (q * s) A B) (differ_from (q * s) s A B) ∙ ap (λ n. length (differ_from 0 (q * s) A B) + n) (sym (quarter_length q))

  -- all differences are those before the fourth quarter and more
  pub most_length : (q : ℕ) → q ≤ 4 → length (differ_from 0 (q * s) A B) ≤ length (differ_from 0 (4 ^ h) A B)
  most_length q low =
      let whole = w.all in
      let less : q * s ≤ 4 * s = mul-le-mul low (omega arith) in
      let r = 4 ^ h - q * s in
      let rest : q * s + r ≡ 4 ^ h = omega (arith, less, whole) in
      let split = ap (λ n. length (differ_from 0 n A B)) (sym rest) ∙ ap length (differ-append 0 (q * s) r A B) ∙ length-append (differ_from 0 (q * s) A B) (differ_from (0 + q * s) r A B) in
      omega (arith, split)

  -- the pairs of quarter q behind those before it
  pub quarter_added : {old now new : List (ℕ × Word)} (b q : ℕ) → Adds m old now (raised_at b B (differ_from 0 (q * s) A B)) → Adds m now new (raised_at (b + q * s) (part 4 B h q) (differ_from 0 s (part 4 A h q) (part 4 B h q)))
      → Adds m old new (raised_at b B (differ_from 0 ((q + 1) * s) A B))
  quarter_added {old} {now} {new} b q a d = subst (Adds m old new) (next_differs b q) (adds_more a d)
