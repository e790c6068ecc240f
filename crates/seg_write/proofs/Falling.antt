-- An array changed within its height: its first quarter, and the later ones, which tell whether it keeps the height.
use Rattle.std.proofs.Common.{◌≡◌, ℕ, ◌+◌, ◌-◌, ◌*◌, ◌≤◌, List, [], ◌∷◌, length, take, drop, get_or, sym, ◌∙◌, ap, subst, arith}
use Rattle.std.proofs.Math.Nat.{mul-le-mul, mul-le-mul_left, mul-le-mul_right}
use Rattle.hic_word.specs.declared.Word.{Word}
use Rattle.hic_word.specs.Values.{Array}
use Rattle.hic_word.specs.Parts.{part}
use Rattle.hic_word.specs.Standing.{IsWithin}
use Rattle.hic_word.specs.Stands.{Lookup}
use Rattle.line_mem.specs.Looks.{LooksUpTo}
use Rattle.seg_canon.specs.Folds.{PiecesFor}
use Rattle.seg_canon.specs.Parts.{PartFor, whole_part}
use Rattle.seg_canon.proofs.Growing.{part_grows}
use Rattle.seg_write.specs.Puts.{AreEntries, CanPut, CanPutEach, FallInto, put_at, put_each, quarters_of}
use Rattle.seg_write.proofs.Changing.{fall_quarters, quarters_put}
use Rattle.seg_write.proofs.Growing.{entries_grow, fall_grows}
use Rattle.seg_write.proofs.Putting.{no_changes}
use Rattle.seg_write.proofs.Quartering.{entries_are_pieces, pieces_are_entries}
use Rattle.seg_write.proofs.Tops.{later_quarters}
use Rattle.seg_write.proofs.Turning.{Cut}

entries_split : (m : Lookup) (k : ℕ) (xs : List Word) (d : Word) (A : Array) (As : List Array) → AreEntries m k xs (A ∷ As) → PartFor 4 m (whole_part k (get_or xs 0 d)) A × AreEntries m k (drop 1 xs) As
entries_split m k [] d A As f = absurd f
entries_split m k (x ∷ xs) d A As f = f

module _ {m : Lookup} {top : ℕ} {x : Word} {cs : List (ℕ × Word)} {A L : Array} (can : CanPut m top x 0 cs A L) (high : 2 ≤ top) where
  pub four_fall : FallInto m (top - 1) 0 4 cs L
  four_fall = fall_quarters m top 0 cs L high can.changes

  module _ {c i : ℕ} {here later : List (ℕ × Word)} (w : Cut m (top - 1) 0 c i 3 cs here later L) where
    pub puts_later : (words : List Word) → PiecesFor 4 m top words A → CanPutEach m (top - 1) (drop 1 words) c later (later_quarters top A) (drop i L)
    puts_later words f = record { entries = (entries_split m (top - 1) words x (part 4 A top 0) (later_quarters top A) (pieces_are_entries m top A high can.part.is_part words f)).1; changes = w.others }

    pub puts_first : (n : Lookup) (words : List Word) (d : Word) → IsWithin m n → PiecesFor 4 m top words A → CanPut n (top - 1) (get_or words 0 d) 0 here (part 4 A top 0) (take i L)
    puts_first n words d within f = record {
      part = part_grows m n within (whole_part (top - 1) (get_or words 0 d)) (part 4 A top 0) (entries_split m (top - 1) words d (part 4 A top 0) (later_quarters top A) (pieces_are_entries m top A high can.part.is_part words f)).0;
      changes = fall_grows m n within (top - 1) 0 1 here (take i L) w.first;
    }

    quarters : put_at (top - 1) 0 (part 4 A top 0) (take i L) ∷ put_each (top - 1) c (later_quarters top A) (drop i L) ≡ quarters_of top (put_at top 0 A L)
    quarters = sym (w.put (part 4 A top 0) (later_quarters top A)) ∙ quarters_put top 0 0 A L can.part.is_part can.changes.ascend

    pub first_is : put_at (top - 1) 0 (part 4 A top 0) (take i L) ≡ part 4 (put_at top 0 A L) top 0
    first_is = let all = quarters in cc

    pub later_are : put_each (top - 1) c (later_quarters top A) (drop i L) ≡ later_quarters top (put_at top 0 A L)
    later_are = let all = quarters in cc

    pub top_pieces : (mid n : Lookup) (y : Word) (ys : List Word) → IsWithin mid n → AreEntries mid (top - 1) ys (put_each (top - 1) c (later_quarters top A) (drop i L))
        → PartFor 4 n (whole_part (top - 1) y) (put_at (top - 1) 0 (part 4 A top 0) (take i L)) → PiecesFor 4 n top (y ∷ ys) (put_at top 0 A L)
    top_pieces mid n y ys within rest first =
        entries_are_pieces n top (put_at top 0 A L) high (y ∷ ys) (subst (AreEntries n (top - 1) (y ∷ ys)) quarters (first, entries_grow mid n within (top - 1) ys (put_each (top - 1) c (later_quarters top A) (drop i L)) rest))

-- looks where the array falls to its first quarter, a changes being there of n
pub fallen_looks : (a b n v q own h P Q s0 s1 s2 s3 : ℕ) → a + b ≡ n → 1 ≤ n → q + own ≤ v → Q ≡ P → s1 ≡ s0 + own → LooksUpTo (b * ((v - own) + 0 * P)) s1 s2 → LooksUpTo (a * q + h + a * h * Q) s2 s3
    → LooksUpTo (n * v + h + n * h * P) s0 s3
fallen_looks a b n v q own h P Q s0 s1 s2 s3 sum some less same start later first =
    let r = v - own in
    let up : v ≡ r + own = omega (arith, less) in
    let reads : n * v ≡ a * r + b * r + n * own = ap (λ c. n * c) up ∙ (let s : n * (r + own) ≡ n * r + n * own = omega arith in s) ∙ ap (λ c. c * r + n * own) (sym sum) ∙ omega arith in
    let once : 1 * own ≤ n * own = mul-le-mul_right own some in
    let here : a * q ≤ a * r = mul-le-mul_left a (omega (arith, less)) in
    let fits : a * h ≤ n * h = mul-le-mul_right h (omega (arith, sum)) in
    let made : a * h * P ≤ n * h * P = mul-le-mul_right P fits in
    let cost = ap (λ c. a * h * c) same in
    let none : b * (r + 0 * P) ≡ b * r = omega arith in
    let ra = later.0 in
    let rb = first.0 in
    let la = later.1 in
    let lb = first.1 in
    (omega (arith, start, ra, rb), omega (arith, start, la, lb, reads, once, here, made, cost, none))

-- looks where it keeps its height
pub kept_looks : (a b n v q f own o h P Q R s0 s1 s2 s3 s4 : ℕ) → a + b ≡ n → 1 ≤ n → q + own ≤ v → f ≤ h - 1 → o ≤ 1 → 1 ≤ h → Q ≡ P → R ≡ P → s1 ≡ s0 + own → LooksUpTo (b * ((v - own) + (h - 1) * P)) s1 s2
    → LooksUpTo (a * (q + f * Q)) s2 s3 → LooksUpTo (o * R) s3 s4 → LooksUpTo (n * v + h + n * h * P) s0 s4
kept_looks a b n v q f own o h P Q R s0 s1 s2 s3 s4 sum some less low one tall same last start later first store =
    let r = v - own in
    let k = h - 1 in
    let up : v ≡ r + own = omega (arith, less) in
    let high : h ≡ k + 1 = omega (arith, tall) in
    let reads : n * v ≡ a * r + b * r + n * own = ap (λ c. n * c) up ∙ (let s : n * (r + own) ≡ n * r + n * own = omega arith in s) ∙ ap (λ c. c * r + n * own) (sym sum) ∙ omega arith in
    let once : 1 * own ≤ n * own = mul-le-mul_right own some in
    let all : n * h * P ≡ a * (k * P) + b * (k * P) + n * P = ap (λ c. n * c * P) high ∙ (let s : n * (k + 1) * P ≡ n * (k * P) + n * P = omega arith in s) ∙ ap (λ c. c * (k * P) + n * P) (sym sum) ∙ omega arith in
    let line : 1 * P ≤ n * P = mul-le-mul_right P some in
    let made : o * R ≤ 1 * R = mul-le-mul_right R one in
    let here : a * q ≤ a * r = mul-le-mul_left a (omega (arith, less)) in
    let there : a * (f * P) ≤ a * (k * P) = mul-le-mul_left a (mul-le-mul_right P low) in
    let cost : a * (q + f * Q) ≡ a * q + a * (f * P) = ap (λ c. a * (q + f * c)) same ∙ omega arith in
    let before : b * (r + k * P) ≡ b * r + b * (k * P) = omega arith in
    let ra = later.0 in
    let rb = first.0 in
    let rc = store.0 in
    let la = later.1 in
    let lb = first.1 in
    let lc = store.1 in
    (omega (arith, start, ra, rb, rc), omega (arith, start, la, lb, lc, reads, once, all, line, made, here, there, cost, before, last))

-- counts have room for each
pub top_room : (a b n t x M : ℕ) → a + b ≡ n → 1 ≤ n → 2 ≤ t → x + (4 * t * n + 1) ≤ M → x + (4 * (t - 1) * b + 3) + (4 * (t - 1) * a + 1) + 1 ≤ M
top_room a b n t x M sum some high room =
    let k = t - 1 in
    let up : t ≡ k + 1 = omega arith in
    let all : 4 * t * n ≡ 4 * k * a + 4 * k * b + 4 * n = ap (λ c. 4 * c * n) up ∙ (let s : 4 * (k + 1) * n ≡ 4 * k * n + 4 * n = omega arith in s) ∙ ap (λ c. 4 * k * c + 4 * n) (sym sum) ∙ omega arith in
    omega (arith, all, room, some)

-- looks at height 1, and for the root
pub lowest_looks : (n l e h P s0 s1 s2 : ℕ) → e ≤ h → LooksUpTo (n * (l + e * P)) s0 s1 → s1 ≤ s2 → s2 ≤ s1 + h → LooksUpTo (n * l + h + n * h * P) s0 s2
lowest_looks n l e h P s0 s1 s2 low put more last =
    let made : n * e * P ≤ n * h * P = mul-le-mul_right P (mul-le-mul_left n low) in
    let all : n * (l + e * P) ≡ n * l + n * e * P = omega arith in
    let rose = put.0 in
    let up = put.1 in
    (omega (arith, rose, more), omega (arith, up, all, made, last))

-- without changes it is the array
pub nothing_changes : {m : Lookup} {top : ℕ} {x : Word} {cs : List (ℕ × Word)} {A L : Array} → CanPut m top x 0 cs A L → length cs ≡ 0 → A ≡ put_at top 0 A L
nothing_changes {m} {top} {x} {cs} {A} {L} can e = sym (ap (put_at top 0 A) (no_changes m cs L e can.changes.changes))

-- looks in the later quarters alone
pub later_looks : (a b n v own h P s0 s1 s2 : ℕ) → a + b ≡ n → 1 ≤ n → own ≤ v → s1 ≡ s0 + own → LooksUpTo (b * ((v - own) + (h - 1) * P)) s1 s2 → LooksUpTo (n * v + h + n * h * P) s0 s2
later_looks a b n v own h P s0 s1 s2 sum some less start later =
    let r = v - own in
    let up : v ≡ r + own = omega (arith, less) in
    let reads : n * v ≡ a * r + b * r + n * own = ap (λ c. n * c) up ∙ (let s : n * (r + own) ≡ n * r + n * own = omega arith in s) ∙ ap (λ c. c * r + n * own) (sym sum) ∙ omega arith in
    let once : 1 * own ≤ n * own = mul-le-mul_right own some in
    let fewer : b * (h - 1) ≤ n * h = mul-le-mul (omega (arith, sum)) (omega arith) in
    let made : b * (h - 1) * P ≤ n * h * P = mul-le-mul_right P fewer in
    let before : b * (r + (h - 1) * P) ≡ b * r + b * (h - 1) * P = omega arith in
    let rose = later.0 in
    let last = later.1 in
    (omega (arith, start, rose), omega (arith, start, last, reads, once, made, before))
