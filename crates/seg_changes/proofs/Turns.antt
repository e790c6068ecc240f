-- The quarters of two parts in turn: what has been added before quarter q, and the looks so far.
use Rattle.std.proofs.Common.{◌≡◌, ℕ, suc, ◌+◌, ◌-◌, ◌*◌, ◌^◌, ◌<◌, ◌≤◌, List, [], length, sym, ◌∙◌, ap, subst, inl, inr, arith}
use Rattle.std.proofs.Math.Nat.{mul-le-mul}
use Rattle.std.proofs.lemmas.Bool.{cases_eq}
use Rattle.hic_word.specs.declared.Word.{Word}
use Rattle.hic_word.specs.Values.{Array}
use Rattle.hic_word.specs.Parts.{part}
use Rattle.hic_word.specs.Stands.{Lookup, Unique}
use Rattle.seg_canon.specs.declared.parts.Part.{Part}
use Rattle.seg_canon.specs.Parts.{PartFor}
use Rattle.seg_canon.specs.Raises.{raises}
use Rattle.seg_changes.specs.declared.within.Within.{Within}
use Rattle.seg_changes.specs.ChangeList.{most_changes}
use Rattle.seg_changes.specs.Differing.{Adds, differ_from, raised_at}
use Rattle.seg_changes.specs.DifferLooks.{DifferLooks, found_of}
use Rattle.seg_changes.specs.Withins.{quarter_within, raises_from}
use Rattle.seg_changes.proofs.Adding.{adds_length, adds_none}
use Rattle.seg_changes.proofs.EqualParts.{equal_parts}
use Rattle.seg_changes.proofs.NodeLooks.{found_all, found_most}
use Rattle.seg_changes.proofs.QuarterParts.{HaveQuarters, most_length, next_length, quarter_added}
use Rattle.seg_changes.proofs.Ranges.{differ_same, raised_length}

-- quarter q of two arrays, as the parts p and r
pub record IsTurn (m : Lookup) (h s q : ℕ) (A B : Array) (old new : Within) (p r : Part) : Type 0 where
  pub before : HaveQuarters m h s A old
  pub after : HaveQuarters m h s B new
  pub place : q < 4
  pub left : PartFor 4 m p (part 4 A h q)
  pub right : PartFor 4 m r (part 4 B h q)
  pub top : p.top ≡ h - 1
  pub also : r.top ≡ h - 1
  pub size : 4 ^ p.top ≡ s
  pub rest : raises_from old (h - 1) q (4 - q) ≡ raises p + raises_from old (h - 1) (q + 1) (4 - (q + 1))
  pub rest_too : raises_from new (h - 1) q (4 - q) ≡ raises r + raises_from new (h - 1) (q + 1) (4 - (q + 1))

-- one quarter fewer to be raised
raises_next : (w : Within) (h q : ℕ) (p : Part) → q < 4 → p ≡ quarter_within w h q → raises_from w h q (4 - q) ≡ raises p + raises_from w h (q + 1) (4 - (q + 1))
raises_next w h q p low e =
    let more : 4 - q ≡ suc (4 - (q + 1)) = omega (arith, low) in
    ap (raises_from w h q) more ∙ ap (λ r. raises r + raises_from w h (q + 1) (4 - (q + 1))) (sym e)

quarter_for : {m : Lookup} {h s : ℕ} {A : Array} {w : Within} {p : Part} (q : ℕ) → HaveQuarters m h s A w → q < 4 → p ≡ quarter_within w (h - 1) q → PartFor 4 m p (part 4 A h q)
quarter_for {m} {h} {A = A} q v low e = subst (λ r. PartFor 4 m r (part 4 A h q)) (sym e) (v.within.quarters v.high q low)

quarter_height : {m : Lookup} {h s : ℕ} {A : Array} {w : Within} {p : Part} (q : ℕ) → HaveQuarters m h s A w → q < 4 → p ≡ quarter_within w (h - 1) q → p.top ≡ h - 1
quarter_height q v low e = ap (λ r. r.top) e ∙ v.within.heights v.high q low

pub turn : {m : Lookup} {h s q : ℕ} {A B : Array} {old new : Within} {p r : Part} → HaveQuarters m h s A old → HaveQuarters m h s B new → q < 4 → p ≡ quarter_within old (h - 1) q → r ≡ quarter_within new (h - 1) q → IsTurn m h s q A B old new p r
turn {h = h} {q = q} {old = old} {new = new} {p = p} {r = r} w v low e d = record {
  before = w;
  after = v;
  place = low;
  left = quarter_for q w low e;
  right = quarter_for q v low d;
  top = quarter_height q w low e;
  also = quarter_height q v low d;
  size = ap (λ k. 4 ^ k) (quarter_height q w low e) ∙ sym w.size;
  rest = raises_next old (h - 1) q p low e;
  rest_too = raises_next new (h - 1) q r low d;
}

-- what is taken in all, whether two parts are equal or not
spent : {h n r old new : ℕ} → DifferLooks h n r old new → new ≤ old + 2 * h * n + r
spent {h} {n} {r} {old} {new} d = elim (cases_eq n 0) [
  | inl none ↦ let few = d.equal none in omega (arith, few)
  | inr some ↦ let few = d.each (omega (arith, some)) in omega (arith, few)
]

-- from `start` to `now` looks in the quarters before q, what it takes to raise the others being kept
pub record KeptLooks (h s q : ℕ) (A B : Array) (old new : Within) (start now : ℕ) : Type 0 where
  pub more : start ≤ now
  pub most : now + (raises_from old (h - 1) q (4 - q) + raises_from new (h - 1) q (4 - q)) ≤ start + 2 * (h - 1) * length (differ_from 0 (q * s) A B) + (raises_from old (h - 1) 0 4 + raises_from new (h - 1) 0 4)

module _ {m : Lookup} {h s q : ℕ} {A B : Array} {old new : Within} {p r : Part} (t : IsTurn m h s q A B old new p r) where
  -- the offsets of the quarter stay below what those of the part do
  pub turn_fits : (b n : ℕ) → b + 4 ^ h ≤ n → b + q * s + 4 ^ p.top ≤ n
  turn_fits b n fits =
      let place = t.place in
      let next : q + 1 ≤ 4 = omega (arith, place) in
      let less : (q + 1) * s ≤ 4 * s = mul-le-mul next (omega arith) in
      let all = t.before.all in
      let size = t.size in
      omega (arith, less, all, size, fits)

  -- the pairs of the quarter behind those before it
  pub turn_added : {start now next : List (ℕ × Word)} (b : ℕ) → Adds m start now (raised_at b B (differ_from 0 (q * s) A B)) → Adds m now next (raised_at (b + q * s) (part 4 B h q) (differ_from 0 (4 ^ p.top) (part 4 A h q) (part 4 B h q)))
      → Adds m start next (raised_at b B (differ_from 0 ((q + 1) * s) A B))
  turn_added {start} {now} {next} b a d =
      quarter_added t.before t.after b q a (subst (λ k. Adds m now next (raised_at (b + q * s) (part 4 B h q) (differ_from 0 k (part 4 A h q) (part 4 B h q)))) t.size d)

  -- what differs in the quarter is counted among what differs up to it
  counted : length (differ_from 0 ((q + 1) * s) A B) ≡ length (differ_from 0 (q * s) A B) + length (differ_from 0 (4 ^ p.top) (part 4 A h q) (part 4 B h q))
  counted = next_length t.before t.after q ∙ ap (λ k. length (differ_from 0 (q * s) A B) + length (differ_from 0 k (part 4 A h q) (part 4 B h q))) (sym t.size)

  -- where there is no room for what differs in the quarter, there is none for what differs in all
  pub turn_wide : {start now : List (ℕ × Word)} (b : ℕ) → Adds m start now (raised_at b B (differ_from 0 (q * s) A B)) → most_changes < length now + length (differ_from 0 (4 ^ p.top) (part 4 A h q) (part 4 B h q))
      → most_changes < length start + length (differ_from 0 (4 ^ h) A B)
  turn_wide b a here =
      let before = adds_length a in
      let as_many = raised_length b B (differ_from 0 (q * s) A B) in
      let place = t.place in
      let all = most_length t.before t.after (q + 1) (omega (arith, place)) in
      omega (arith, here, before, as_many, counted, all)

  -- n of the differences of the quarter are found
  looks_on : (n start now next : ℕ) → KeptLooks h s q A B old new start now → DifferLooks p.top n (raises p + raises r) now next
      → (start ≤ next) × (next + (raises_from old (h - 1) (q + 1) (4 - (q + 1)) + raises_from new (h - 1) (q + 1) (4 - (q + 1))) ≤ start + 2 * (h - 1) * (length (differ_from 0 (q * s) A B) + n) + (raises_from old (h - 1) 0 4 + raises_from new (h - 1) 0 4))
  looks_on n start now next kept here =
      let more = kept.more in
      let most = kept.most in
      let on = here.more in
      let went = spent here in
      let level = ap (λ k. 2 * k * n) t.top in
      let rest = t.rest in
      let rest_too = t.rest_too in
      (omega (arith, more, on), omega (arith, most, went, level, rest, rest_too))

  -- all differences of the quarter are found
  pub turn_looks : {now next : List (ℕ × Word)} (b start before after : ℕ) → KeptLooks h s q A B old new start before
      → DifferLooks p.top (found_of (length (differ_from 0 (4 ^ p.top) (part 4 A h q) (part 4 B h q))) (length now)) (raises p + raises r) before after
      → Adds m now next (raised_at b (part 4 B h q) (differ_from 0 (4 ^ p.top) (part 4 A h q) (part 4 B h q))) → length next ≤ most_changes → KeptLooks h s (q + 1) A B old new start after
  turn_looks {now} {next} b start before after kept here added few =
      let size = adds_length added in
      let as_many = raised_length b (part 4 B h q) (differ_from 0 (4 ^ p.top) (part 4 A h q) (part 4 B h q)) in
      let each = found_all (length (differ_from 0 (4 ^ p.top) (part 4 A h q) (part 4 B h q))) (length now) (omega (arith, size, as_many, few)) in
      let (more, most) = looks_on (found_of (length (differ_from 0 (4 ^ p.top) (part 4 A h q) (part 4 B h q))) (length now)) start before after kept here in
      let whole = ap (λ n. 2 * (h - 1) * n) (counted ∙ ap (λ n. length (differ_from 0 (q * s) A B) + n) (sym each)) in
      record { more = more; most = omega (arith, most, whole) }

  -- the quarters have one entry: no difference, no pair and no look
  equal_quarters : Unique m → p.at ≡ r.at → p.entry ≡ r.entry → differ_from 0 (4 ^ p.top) (part 4 A h q) (part 4 B h q) ≡ []
  equal_quarters u at entry = differ_same 0 (4 ^ p.top) (part 4 A h q) (part 4 B h q) (equal_parts u t.left t.right at entry)

  pub same_added : (b : ℕ) (now : List (ℕ × Word)) → Unique m → p.at ≡ r.at → p.entry ≡ r.entry → Adds m now now (raised_at (b + q * s) (part 4 B h q) (differ_from 0 (4 ^ p.top) (part 4 A h q) (part 4 B h q)))
  same_added b now u at entry = subst (λ os. Adds m now now (raised_at (b + q * s) (part 4 B h q) os)) (sym (equal_quarters u at entry)) (adds_none now)

  pub same_looks : (start now : ℕ) → KeptLooks h s q A B old new start now → Unique m → p.at ≡ r.at → p.entry ≡ r.entry → KeptLooks h s (q + 1) A B old new start now
  same_looks start now kept u at entry =
      let none = ap length (equal_quarters u at entry) in
      let whole = ap (λ n. 2 * (h - 1) * n) (counted ∙ ap (λ n. length (differ_from 0 (q * s) A B) + n) none) in
      let more = kept.more in
      let most = kept.most in
      let rest = t.rest in
      let rest_too = t.rest_too in
      record { more = more; most = omega (arith, most, whole, rest, rest_too) }

  -- there is no room for all: the differences that are found, and the looks
  pub stopped : {first now : List (ℕ × Word)} (b start before after : ℕ) → length first ≤ most_changes → length now ≤ most_changes → Adds m first now (raised_at b B (differ_from 0 (q * s) A B)) → KeptLooks h s q A B old new start before
      → most_changes < length now + length (differ_from 0 (4 ^ p.top) (part 4 A h q) (part 4 B h q)) → DifferLooks p.top (found_of (length (differ_from 0 (4 ^ p.top) (part 4 A h q) (part 4 B h q))) (length now)) (raises p + raises r) before after
      → (n : ℕ) × (n ≡ found_of (length (differ_from 0 (4 ^ h) A B)) (length first)) × (start ≤ after) × (after ≤ start + 2 * (h - 1) * n + (raises_from old (h - 1) 0 4 + raises_from new (h - 1) 0 4))
  stopped {first} {now} b start before after low few a kept past here =
      let size = adds_length a in
      let as_many = raised_length b B (differ_from 0 (q * s) A B) in
      let last = found_most (length (differ_from 0 (4 ^ p.top) (part 4 A h q) (part 4 B h q))) (length now) few past in
      let all = found_most (length (differ_from 0 (4 ^ h) A B)) (length first) low (turn_wide b a past) in
      let found = found_of (length (differ_from 0 (4 ^ p.top) (part 4 A h q) (part 4 B h q))) (length now) in
      let (more, most) = looks_on found start before after kept here in
      (length (differ_from 0 (q * s) A B) + found, omega (arith, last, all, size, as_many, few), more, omega (arith, most))

-- all quarters have had their turn
pub whole_range : {m : Lookup} {h s : ℕ} {A : Array} {w : Within} (q : ℕ) → HaveQuarters m h s A w → 4 ≤ q → q ≤ 4 → q * s ≡ 4 ^ h
whole_range {s = s} q w past end = ap (λ k. k * s) (let all : q ≡ 4 = omega (arith, past, end) in all) ∙ sym w.all

pub finished : {m : Lookup} {h s : ℕ} {A B : Array} {old new : Within} {first now : List (ℕ × Word)} {start end : ℕ} (b q : ℕ) → q * s ≡ 4 ^ h → Adds m first now (raised_at b B (differ_from 0 (q * s) A B)) → length now ≤ most_changes → KeptLooks h s q A B old new start end
    → (n : ℕ) × (n ≡ found_of (length (differ_from 0 (4 ^ h) A B)) (length first)) × (start ≤ end) × (end ≤ start + 2 * (h - 1) * n + (raises_from old (h - 1) 0 4 + raises_from new (h - 1) 0 4))
finished {h = h} {s = s} {A = A} {B = B} {first = first} b q all a few kept =
    let size = adds_length a in
    let as_many = raised_length b B (differ_from 0 (q * s) A B) in
    let same = ap (λ k. length (differ_from 0 k A B)) all in
    let each = found_all (length (differ_from 0 (4 ^ h) A B)) (length first) (omega (arith, size, as_many, same, few)) in
    let most = kept.most in
    (length (differ_from 0 (q * s) A B), same ∙ sym each, kept.more, omega (arith, most))
