-- Changes that fall into parts beside one another: those of the first part, and those of the others.
use Rattle.std.proofs.Common.{◌≡◌, ℕ, suc, ◌+◌, ◌-◌, ◌*◌, ◌^◌, ◌<◌, ◌≤◌, List, [], ◌∷◌, length, take, drop, get_or, slice_set, refl, sym, ◌∙◌, ap, subst, arith, length-append}
use Rattle.std.proofs.Math.Nat.{mul-le-mul_left, mul-le-mul_right}
use Rattle.std.proofs.Math.ListN.{take-append-drop}
use Rattle.std.proofs.lemmas.List.{drop-set, drop_more}
use Rattle.hic_word.specs.declared.Word.{Word}
use Rattle.hic_word.specs.Values.{Array, IsBelow}
use Rattle.hic_word.specs.Changes.{AreChanges}
use Rattle.hic_word.specs.Canon.{enc}
use Rattle.hic_word.specs.Memory.{Memory}
use Rattle.hic_word.specs.Standing.{IsWithin}
use Rattle.hic_word.specs.Stands.{Lookup}
use Rattle.hic_word.specs.InMemory.{ChangesFor}
use Rattle.line_mem.specs.Looks.{LooksUpTo}
use Rattle.seg_canon.specs.Parts.{PartFor, whole_part}
use Rattle.seg_canon.proofs.Growing.{part_grows}
use Rattle.seg_read.specs.Levels.{levels}
use Rattle.seg_write.specs.Gains.{HasNamed, HaveNamed}
use Rattle.seg_write.specs.Puts.{AreEntries, CanPut, CanPutEach, FallInto, HaveLevels, put_at, put_each}
use Rattle.seg_write.specs.Trades.{Trades}
use Rattle.seg_write.proofs.Cutting.{fall_here, fall_later, put_here, put_later}
use Rattle.seg_write.proofs.Growing.{entries_grow, fall_grows}
use Rattle.seg_write.proofs.Trading.{trades_before}

-- the first i changes lie below an offset, and the others from it on
abbrev pub LieBelow : List (ℕ × Word) → ℕ → ℕ → Type 0
LieBelow cs e i = (m : Lookup) (c : ℕ) (L : Array) → ChangesFor 4 m cs L → AreChanges c L → IsBelow e (take i L)

abbrev pub LieFrom : List (ℕ × Word) → ℕ → ℕ → Type 0
LieFrom cs e i = (m : Lookup) (c : ℕ) (L : Array) → ChangesFor 4 m cs L → AreChanges c L → c ≤ e → AreChanges e (drop i L)

-- the changes of the first of n + 1 parts, and those of the others, which begin at offset c
pub record Cut (m : Lookup) (h b c i n : ℕ) (cs here later : List (ℕ × Word)) (L : Array) : Type 0 where
  pub lengths : length here + length later ≡ length cs
  pub first : FallInto m h b 1 here (take i L)
  pub others : FallInto m h c n later (drop i L)
  pub put : (A : Array) (As : List Array) → put_each h b (A ∷ As) L ≡ put_at h b A (take i L) ∷ put_each h c As (drop i L)

cut_at : (m : Lookup) (h b i n : ℕ) (cs : List (ℕ × Word)) (L : Array) → LieBelow cs (b + 4 ^ h) i → LieFrom cs (b + 4 ^ h) i → FallInto m h b (suc n) cs L → Cut m h b (b + 4 ^ h) i n cs (take i cs) (drop i cs) L
cut_at m h b i n cs L below from fall =
    let low = below m b L fall.changes fall.ascend in
    let high = from m b L fall.changes fall.ascend (omega arith) in
    record {
      lengths = sym (length-append (take i cs) (drop i cs)) ∙ ap length (take-append-drop i cs);
      first = fall_here m h b n i cs L fall low;
      others = fall_later m h b n i cs L fall high;
      put = λ A As. ap (λ X. X ∷ put_each h (b + 4 ^ h) As L) (sym (put_here h b i A L high)) ∙ ap (λ Xs. put_at h b A (take i L) ∷ Xs) (sym (put_later h (b + 4 ^ h) i As L low));
    }

pub cut : {m : Lookup} {h b c : ℕ} {cs here later : List (ℕ × Word)} {L : Array} (i n : ℕ) → c ≡ b + 4 ^ h → here ≡ take i cs → later ≡ drop i cs → LieBelow cs c i → LieFrom cs c i → FallInto m h b (suc n) cs L → Cut m h b c i n cs here later L
cut {m} {h} {b} {c} {cs} {here} {later} {L} i n end front back below from fall =
    let all : Cut m h b c i n cs (take i cs) (drop i cs) L = subst (λ e. LieBelow cs e i → LieFrom cs e i → Cut m h b e i n cs (take i cs) (drop i cs) L) (sym end) (λ below from. cut_at m h b i n cs L below from fall) below from in
    subst (λ xs. Cut m h b c i n cs xs later L) (sym front) (subst (λ xs. Cut m h b c i n cs (take i cs) xs L) (sym back) all)

-- the same for parts that begin at offset 0
pub cut_first : {m : Lookup} {h c : ℕ} {cs here later : List (ℕ × Word)} {L : Array} (i n : ℕ) → c ≡ 4 ^ h → here ≡ take i cs → later ≡ drop i cs → LieBelow cs c i → LieFrom cs c i → FallInto m h 0 (suc n) cs L → Cut m h 0 c i n cs here later L
cut_first i n end front back below from fall = cut i n (end ∙ omega arith) front back below from fall

-- entries beside one another, of which the first has changes of its own, and the others theirs, in any map with more lines
pub record Turn (m : Lookup) (h b c i : ℕ) (x : Word) (xs : List Word) (cs here later : List (ℕ × Word)) (As : List Array) (L : Array) : Type 0 where
  pub first : Array
  pub others : List Array
  pub arrays : As ≡ first ∷ others
  pub lengths : length here + length later ≡ length cs
  pub part : CanPut m h x b here first (take i L)
  pub parts : (n : Lookup) → IsWithin m n → CanPutEach n h xs c later others (drop i L)
  pub put : put_each h b As L ≡ put_at h b first (take i L) ∷ put_each h c others (drop i L)

turn_at : (m : Lookup) (h b c i : ℕ) (x : Word) (xs : List Word) (cs here later : List (ℕ × Word)) (As : List Array) (L : Array) → c ≡ b + 4 ^ h → here ≡ take i cs → later ≡ drop i cs → LieBelow cs c i → LieFrom cs c i
    → CanPutEach m h (x ∷ xs) b cs As L → Turn m h b c i x xs cs here later As L
turn_at m h b c i x xs cs here later [] L end front back below from f = absurd f.entries
turn_at m h b c i x xs cs here later (A ∷ As) L end front back below from f =
    let w = cut i (length As) end front back below from f.changes in
    record {
      first = A;
      others = As;
      arrays = refl;
      lengths = w.lengths;
      part = record { part = f.entries.0; changes = w.first };
      parts = λ n within. record { entries = entries_grow m n within h xs As f.entries.1; changes = fall_grows m n within h c (length As) later (drop i L) w.others };
      put = w.put A As;
    }

pub turn : {m : Lookup} {h b c : ℕ} {cs here later : List (ℕ × Word)} {As : List Array} {L : Array} (i : ℕ) (words : List Word) (place : ℕ) (d : Word) → place < length words → c ≡ b + 4 ^ h → here ≡ take i cs → later ≡ drop i cs → LieBelow cs c i → LieFrom cs c i
    → CanPutEach m h (drop place words) b cs As L → Turn m h b c i (get_or words place d) (drop (place + 1) words) cs here later As L
turn {m} {h} {b} {c} {cs} {here} {later} {As} {L} i words place d lt end front back below from f =
    turn_at m h b c i (get_or words place d) (drop (place + 1) words) cs here later As L end front back below from (subst (λ ws. CanPutEach m h ws b cs As L) (drop_more words place d lt) f)

-- an index of four words that is not past them
pub in_place : {n place : ℕ} → place ≤ 4 → (place ≡ 4 → ⊥) → n ≡ 4 → place < n
in_place le other four = omega (arith, le, other, four)

module _ {m : Lookup} {h b c i : ℕ} {x : Word} {xs : List Word} {cs here later : List (ℕ × Word)} {As : List Array} {L : Array} (w : Turn m h b c i x xs cs here later As L) where
  -- the first entry, which stood before the others, stands beside them
  pub stand_each : (mid n : Lookup) (words : List Word) (place : ℕ) (y : Word) → place < length words → IsWithin mid n → PartFor 4 mid (whole_part h y) (put_at h b w.first (take i L))
      → AreEntries n h (drop (place + 1) words) (put_each h c w.others (drop i L)) → AreEntries n h (drop place (slice_set words place y)) (put_each h b As L)
  stand_each mid n words place y lt within part rest =
      let A = put_at h b w.first (take i L) in
      let Bs = put_each h c w.others (drop i L) in
      let all : AreEntries n h (y ∷ drop (place + 1) words) (A ∷ Bs) = (part_grows mid n within (whole_part h y) A part, rest) in
      subst (AreEntries n h (drop place (slice_set words place y))) (sym w.put) (subst (λ ws. AreEntries n h ws (A ∷ Bs)) (sym (drop-set words place y lt)) all)

  -- arrays that have the lines of all, and bounds on their levels
  pub named_each : (R : List Array) → HaveNamed h (put_each h b As L) R → HasNamed (enc 4 h (put_at h b w.first (take i L))) R × HaveNamed h (put_each h c w.others (drop i L)) R
  named_each R named = subst (λ Bs. HaveNamed h Bs R) w.put named

  pub levels_before : (n : ℕ) → HaveLevels n h As → (levels (enc 4 h w.first) ≤ n) × HaveLevels n h w.others
  levels_before n low = subst (HaveLevels n h) w.arrays low

  pub levels_after : (n : ℕ) → HaveLevels n h (put_each h b As L) → (levels (enc 4 h (put_at h b w.first (take i L))) ≤ n) × HaveLevels n h (put_each h c w.others (drop i L))
  levels_after n low = subst (HaveLevels n h) w.put low

  -- the changes of all are those of the first and those of the others
  pub rises : 4 * h * length here + 4 * h * length later ≡ 4 * h * length cs
  rises = let sum = ap (λ n. 4 * h * n) w.lengths in omega (arith, sum)

-- the first part ends, and so do the others, where all of them end
pub end_first : (b c h q : ℕ) → q < 4 → b + (4 - q) * 4 ^ h ≤ 2 ^ 32 → b + 4 ^ h ≤ 2 ^ 32
end_first b c h q lt low =
    let one : 1 ≤ 4 - q = omega arith in
    let all = mul-le-mul_right (4 ^ h) one in
    omega (arith, low, all)

pub end_others : (b c h q : ℕ) → c ≡ b + 4 ^ h → q < 4 → b + (4 - q) * 4 ^ h ≤ 2 ^ 32 → c + (4 - (q + 1)) * 4 ^ h ≤ 2 ^ 32
end_others b c h q end lt low =
    let next : 4 - q ≡ 1 + (4 - (q + 1)) = omega arith in
    let all = ap (λ n. n * 4 ^ h) next in
    omega (arith, low, end, all)

-- the word that is set stands before the others
pub trades_set : (a b c : Memory) (words : List Word) (place : ℕ) (y : Word) (n k j : ℕ) → place < length words → Trades a b [] (y ∷ []) n → Trades b c [] (drop (place + 1) words) k → n + k ≤ j → Trades a c [] (drop place (slice_set words place y)) j
trades_set a b c words place y n k j lt first later fits =
    subst (λ ws. Trades a c [] ws j) (sym (drop-set words place y lt)) (trades_before a b c y (drop (place + 1) words) n k j first later fits)

-- looks of the first and of the others
pub from_looks : (p q r l n e k P Q s0 s1 s2 : ℕ) → p + q ≡ r → l ≤ n → e ≤ k → Q ≡ P → LooksUpTo (p * (l + e * P)) s0 s1 → LooksUpTo (q * (n + k * Q)) s1 s2 → LooksUpTo (r * (n + k * P)) s0 s2
from_looks p q r l n e k P Q s0 s1 s2 sum low high same first later =
    let made : e * P ≤ k * P = mul-le-mul_right P high in
    let here : p * (l + e * P) ≤ p * (n + k * P) = mul-le-mul_left p (omega (arith, low, made)) in
    let all : r * (n + k * P) ≡ p * (n + k * P) + q * (n + k * P) = ap (λ t. t * (n + k * P)) (sym sum) ∙ omega arith in
    let cost = ap (λ t. q * (n + k * t)) same in
    let ra = first.0 in
    let rb = later.0 in
    let la = first.1 in
    let lb = later.1 in
    (omega (arith, ra, rb), omega (arith, la, lb, here, all, cost))

pub first_looks : (p q r l n e k P s0 s1 : ℕ) → p + q ≡ r → l ≤ n → e ≤ k → LooksUpTo (p * (l + e * P)) s0 s1 → LooksUpTo (r * (n + k * P)) s0 s1
first_looks p q r l n e k P s0 s1 sum low high first =
    let none : LooksUpTo (q * (n + k * P)) s1 s1 = (omega arith, omega arith) in
    from_looks p q r l n e k P P s0 s1 s1 sum low high refl first none
