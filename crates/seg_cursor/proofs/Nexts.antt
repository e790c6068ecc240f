-- The next word that is not 0: where it is, and how many looks lead to it.
use Rattle.std.proofs.Common.{◌≡◌, ◌≢◌, ℕ, suc, ◌+◌, ◌-◌, ◌*◌, ◌/◌, ◌^◌, ◌<◌, ◌≤◌, List, [], get_or, Option, Some, None, refl, sym, ◌∙◌, ap, subst, inl, inr, arith}
use Rattle.std.proofs.Math.Nat.{div-mul-le_self, lt-div-mul-add, mul-le-mul}
use Rattle.std.proofs.lemmas.Bool.{cases_lt}
use Rattle.std.proofs.lemmas.Nat.{le-div, pow-add}
use Rattle.hic_word.specs.declared.Word.{Word}
use Rattle.hic_word.specs.Values.{Array, IsArray, Number, at}
use Rattle.hic_word.specs.Memory.{Memory, line_at}
use Rattle.hic_word.specs.Stands.{Lookup, WordFor}
use Rattle.line_mem.specs.Looks.{LooksUpTo}
use Rattle.seg_read.specs.Founds.{FoundFor, NextFor, word_in}
use Rattle.seg_read.proofs.Seeking.{found_next}
use Rattle.seg_cursor.specs.Pieces.{IsBlank, IsJoined, PieceFor}
use Rattle.seg_cursor.specs.Trails.{AreKept, FirstFor, JoinLooks, KeptFor, LaterAt, NearLooks, OnWay, Past, PastFor, Walked, Walks, offset_of}
use Rattle.seg_cursor.proofs.Cutting.{blank_joined, empty_value, joined_from, number_digit, number_up, power_some, power_up}
use Rattle.seg_cursor.proofs.Firsts.{number_at}
use Rattle.seg_cursor.proofs.Walking.{kept_moved, word_reached}

-- ---- offsets and pieces

number_most : (a b h : ℕ) → a ≤ b → a / 4 ^ h ≤ b / 4 ^ h
number_most a b h less = let low : a / 4 ^ h * 4 ^ h ≤ a = div-mul-le_self a (4 ^ h) in le-div (a / 4 ^ h) b (4 ^ h) (power_some h) (omega (arith, low, less))

-- an offset at which another piece begins than that of the offset before
aligned : (p i h : ℕ) → p ≤ i → i ≤ p + 1 → (IsJoined h p i → ⊥) → i / 4 ^ h * 4 ^ h ≡ i
aligned p i h from next apart =
    let most = number_most p i h from in
    let less : p / 4 ^ h + 1 ≤ i / 4 ^ h = omega (arith, most, apart) in
    let start : (p / 4 ^ h + 1) * 4 ^ h ≤ i / 4 ^ h * 4 ^ h = mul-le-mul less (omega arith) in
    let end : p < p / 4 ^ h * 4 ^ h + 4 ^ h = lt-div-mul-add (power_some h) in
    let same : (p / 4 ^ h + 1) * 4 ^ h ≡ p / 4 ^ h * 4 ^ h + 4 ^ h = grind arith in
    let low : i / 4 ^ h * 4 ^ h ≤ i = div-mul-le_self i (4 ^ h) in
    omega (arith, start, end, same, low, next)

aligned_below : (i h k : ℕ) → i / 4 ^ h * 4 ^ h ≡ i → k ≤ h → i / 4 ^ k * 4 ^ k ≡ i
aligned_below i h k start less =
    let up : h - k + k ≡ h = omega (arith, less) in
    let size : 4 ^ h ≡ 4 ^ (h - k) * 4 ^ k = ap (λ n. 4 ^ n) (sym up) ∙ pow-add 4 (h - k) k in
    let q = i / 4 ^ h * 4 ^ (h - k) in
    let all : i ≡ q * 4 ^ k = sym start ∙ ap (λ s. i / 4 ^ h * s) size ∙ (let swap : i / 4 ^ h * (4 ^ (h - k) * 4 ^ k) ≡ i / 4 ^ h * 4 ^ (h - k) * 4 ^ k = grind arith in swap) in
    ap (λ n. n * 4 ^ k) (ap (λ n. n / 4 ^ k) all ∙ number_at q k) ∙ sym all

-- ---- the way to the offset

pub walks_looks : (A : Array) (top : ℕ) (last : Option ℕ) (i end old new : ℕ) → Walks A top last i end old new → LooksUpTo top old new
walks_looks A top last i end old new (inl same) = (omega (arith, same), omega (arith, same))
walks_looks A top last i end old new (inr w) = let more = w.more in let looks = w.looks in let high = w.high in (more, omega (arith, looks, high))

pub walks_near : (A : Array) (top : ℕ) (last : Option ℕ) (i end old new p : ℕ) → Walks A top last i end old new → last ≡ Some p → JoinLooks p i old new
walks_near A top last i end old new p (inl same) e k some joined = (omega (arith, same), omega (arith, same))
walks_near A top last i end old new p (inr w) e k some joined = let near = w.near p e k some joined in let more = w.more in let looks = w.looks in (more, omega (arith, looks, near))

-- where a line was opened on the way from the last offset, a word lies from the offset on
word_past : {A : Array} {top i end old new : ℕ} {last : Option ℕ} (p : ℕ) (w : Walked A top last i end old new) → last ≡ Some p → p ≤ i → i ≤ p + 1 → end < w.begin → (j : ℕ) × (i ≤ j) × (at A j ≢ Number 0) × IsJoined (suc end) i j
word_past {i = i} {end = end} p w e from next opened =
    let begin = w.begin in
    let start = aligned_below i begin (suc end) (aligned p i begin from next (λ joined. let near = w.near p e begin (omega (arith, opened)) joined in omega (arith, near))) (omega (arith, opened)) in
    let (j, number, some) = w.some opened in
    let low : j / 4 ^ suc end * 4 ^ suc end ≤ j = div-mul-le_self j (4 ^ suc end) in
    let same : j / 4 ^ suc end * 4 ^ suc end ≡ i = ap (λ n. n * 4 ^ suc end) number ∙ start in
    (j, omega (arith, low, same), some, sym number)

-- ---- looks from the last offset or the next one

pub none_near : (A : Array) (top : ℕ) (last : Option ℕ) (i end old new p : ℕ) → Walks A top last i end old new → ((j : ℕ) → i ≤ j → at A j ≡ Number 0) → last ≡ Some p → p ≤ i → i ≤ p + 1 → new ≡ old
none_near A top last i end old new p (inl same) none e from next = same
none_near A top last i end old new p (inr w) none e from next = elim (cases_lt end w.begin) [
  | inl opened ↦ let (j, past, some, joined) = word_past p w e from next opened in absurd (some (none j past))
  | inr whole ↦ let more = w.more in let looks = w.looks in omega (arith, more, looks, whole)
]

past_high : {m : Lookup} {root : Word} {A : Array} {lines : List (List Word)} {end top i old new : ℕ} {found : ℕ × Word} (f : Past m root A lines end top i old new found) → (p k : ℕ) → p ≤ i → IsJoined k p found.0 → f.height < k
past_high {i = i} {found = found} f p k from joined = elim (cases_lt f.height k) [
  | inl less ↦ less
  | inr high ↦
      let same = joined_from p found.0 k f.height joined high in
      let apart = f.apart in
      let most = number_most p i f.height from in
      absurd (omega (arith, same, apart, most))
]

past_first : {m : Lookup} {root : Word} {A : Array} {lines : List (List Word)} {end top i old new : ℕ} {found : ℕ × Word} (f : Past m root A lines end top i old new found) (j : ℕ) → i ≤ j → at A j ≢ Number 0 → IsJoined (suc end) i j → f.height ≡ end
past_first {A = A} {end = end} {i = i} {found = found} f j past some joined = elim (cases_lt end f.height) [
  | inr low ↦ let from = f.from in omega (arith, low, from)
  | inl high ↦ elim (cases_lt j found.0) [
    | inl before ↦ absurd (some (f.blank j past before))
    | inr after ↦
        let apart = f.apart in
        let most = number_most found.0 j f.height after in
        let same = joined_from i j (suc end) f.height joined high in
        absurd (omega (arith, apart, most, same))
  ]
]

pub past_near : {m : Lookup} {root : Word} {A : Array} {lines : List (List Word)} {end top i mid new : ℕ} {found : ℕ × Word} (last : Option ℕ) (old p : ℕ) → Walks A top last i end old mid → Past m root A lines end top i mid new found → last ≡ Some p → p ≤ i → i ≤ p + 1 → JoinLooks p found.0 old new
past_near {A = A} {end = end} {i = i} {mid = mid} {new = new} {found = found} last old p (inl same) f e from next k some joined =
    let high = past_high f p k from joined in
    let up = f.looks.0 in
    let most = f.looks.1 in
    (omega (arith, same, up), omega (arith, same, most, high))
past_near {A = A} {end = end} {i = i} {mid = mid} {new = new} {found = found} last old p (inr w) f e from next k some joined =
    let high = past_high f p k from joined in
    let up = f.looks.0 in
    let most = f.looks.1 in
    let more = w.more in
    let looks = w.looks in
    elim (cases_lt end w.begin) [
      | inr whole ↦ (omega (arith, more, up), omega (arith, looks, whole, most, high))
      | inl opened ↦
          let (j, past, there, near) = word_past p w e from next opened in
          let height = past_first f j past there near in
          let begin : w.begin < k = elim (cases_lt w.begin k) [
            | inl less ↦ less
            | inr low ↦
                let all = joined_from p found.0 k w.begin joined low in
                let here = joined_from i found.0 (suc f.height) w.begin f.joined (omega (arith, height, opened)) in
                let again = w.near p e w.begin (omega (arith, opened)) (all ∙ sym here) in
                absurd (omega (arith, again))
          ] in
          (omega (arith, more, up), omega (arith, looks, most, height, begin))
    ]

pub past_looks : {m : Lookup} {root : Word} {A : Array} {lines : List (List Word)} {end top i mid new : ℕ} {found : ℕ × Word} (last : Option ℕ) (old : ℕ) → Walks A top last i end old mid → Past m root A lines end top i mid new found → LooksUpTo (2 * top) old new
past_looks {A = A} {end = end} {top = top} {i = i} {mid = mid} last old walk f =
    let way = walks_looks A top last i end old mid walk in
    let first = way.0 in
    let all = way.1 in
    let high = f.high in
    let up = f.looks.0 in
    let most = f.looks.1 in
    (omega (arith, first, up), omega (arith, all, most, high))

-- ---- what is found

pub past_found : {m : Lookup} {root : Word} {A : Array} {lines : List (List Word)} {end top i old new : ℕ} {found : ℕ × Word} → Past m root A lines end top i old new found → FoundFor m A i (Some found)
past_found {A = A} {i = i} {found = found} f =
    let apart = f.apart in (
      record {
        from = elim (cases_lt i found.0) [
          | inl less ↦ omega (arith, less)
          | inr high ↦ let most = number_most found.0 i f.height high in absurd (omega (arith, apart, most))
        ];
        some = f.some;
        least = f.blank;
      },
      f.word,
    )

pub here_found : {m : Lookup} {A : Array} {i : ℕ} {x : Word} → WordFor 4 m x (at A i) → at A i ≢ Number 0 → FoundFor m A i (Some (i, x))
here_found {i = i} w some = (record { from = omega arith; some = some; least = λ j from less. absurd (omega (arith, from, less)) }, w)

-- a way to a word that is not 0 ends at the word
pub here_kept : (m : Lookup) (root : Word) (A : Array) (lines : List (List Word)) (end i : ℕ) → KeptFor m root A lines end (Some i) → at A i ≢ Number 0 → KeptFor m root A lines 0 (Some i)
here_kept m root A lines end i (inl none, kept) some = (inl refl, subst (λ h. AreKept m root A lines h i) none kept)
here_kept m root A lines end i (inr empty, kept) some = absurd (some (empty_value end i (i / 4 ^ end) A empty refl))

-- ---- past the way to an offset

pub later_way : {m : Lookup} {root : Word} {A : Array} {lines : List (List Word)} {end top i h place : ℕ} (n : ℕ) → AreKept m root A lines end i → root.height ≡ top → LaterAt A lines end top i h place → n ≡ i / 4 ^ suc h * 4 + place
    → (y : Word) → y ≡ word_in (get_or lines h []) place → OnWay m root A lines (n * 4 ^ h) h y
later_way {m} {root} {A} {lines} {end} {top} {i} {h} {place} n kept tall l e y is =
    let high = l.high in
    let this = kept h l.from (omega (arith, high, tall)) in
    let low = l.low in
    let above : i / 4 ^ suc h ≡ n / 4 = omega (arith, e, low) in
    let joined : IsJoined (suc h) i (n * 4 ^ h) = above ∙ sym (number_up (n * 4 ^ h) h ∙ ap (λ j. j / 4) (number_at n h)) in
    subst (OnWay m root A lines (n * 4 ^ h) h) (sym is) (record {
      stands = subst (PieceFor m h (word_in (get_or lines h []) place) A) (sym e ∙ sym (number_at n h)) (this.pieces place low);
      reached = word_reached m root (get_or lines h []) place this.reached;
      kept = kept_moved m root A lines i (n * 4 ^ h) end h kept l.from joined;
    })

pub later_fits : (i h place n : ℕ) → i < 2 ^ 32 → h < 16 → place < 4 → n ≡ i / 4 ^ suc h * 4 + place → n * 4 ^ h + 4 ^ h ≤ 2 ^ 32
later_fits i h place n room high low e =
    let s = 4 ^ h in
    let q = i / 4 ^ suc h in
    let up = power_up h in
    let least : q * 4 ^ suc h ≤ i = div-mul-le_self i (4 ^ suc h) in
    let all : 4 ^ 16 ≡ 4 ^ (16 - suc h) * 4 ^ suc h = ap (λ n. 4 ^ n) (let same : 16 ≡ 16 - suc h + suc h = omega (arith, high) in same) ∙ pow-add 4 (16 - suc h) (suc h) in
    let below : q + 1 ≤ 4 ^ (16 - suc h) = elim (cases_lt q (4 ^ (16 - suc h))) [
      | inl less ↦ omega (arith, less)
      | inr most ↦ let past : 4 ^ (16 - suc h) * 4 ^ suc h ≤ q * 4 ^ suc h = mul-le-mul most (omega arith) in absurd (omega (arith, past, least, all, room))
    ] in
    let fits : (q + 1) * 4 ^ suc h ≤ 4 ^ (16 - suc h) * 4 ^ suc h = mul-le-mul below (omega arith) in
    let size : (q + 1) * 4 ^ suc h ≡ (q * 4 + 4) * s = ap (λ t. (q + 1) * t) up ∙ grind arith in
    let most : (n + 1) * s ≤ (q * 4 + 4) * s = mul-le-mul (omega (arith, e, low)) (omega arith) in
    let left : (n + 1) * s ≡ n * s + s = grind arith in
    omega (arith, fits, size, most, left, all)

pub later_past : {m : Lookup} {root : Word} {A : Array} {lines after : List (List Word)} {end top i h place old new : ℕ} {found : ℕ × Word} (n : ℕ) → LaterAt A lines end top i h place → n ≡ i / 4 ^ suc h * 4 + place → FirstFor m root A after h n found → LooksUpTo h old new
    → Past m root A after end top i old new found
later_past {m} {root} {A} {lines} {after} {end} {top} {i} {h} {place} {old} {new} {found} n l e f looks =
    let first = f.1 in
    let past = l.past in
    let low = l.low in
    let within = first.within in
    let digit = number_digit i h in
    let above : i / 4 ^ suc h ≡ n / 4 = omega (arith, e, low) in
    record {
      height = h;
      from = l.from;
      high = l.high;
      apart = omega (arith, past, within, digit, e);
      joined = above ∙ ap (λ j. j / 4) (sym within) ∙ sym (number_up found.0 h);
      blank = blank_joined A i (n * 4 ^ h) found.0 (subst (λ j. IsBlank A i (j * 4 ^ h)) (sym e) l.blank) first.blank;
      some = first.some;
      word = f.0;
      kept = f.2;
      looks = looks;
    }

-- ---- both together

module _ (m : Memory) (root : Word) (A : Array) (lines : List (List Word)) (end top i mid new : ℕ) where
  pub next_past : (r : Option (ℕ × Word)) → IsArray A → PastFor (line_at m) root A lines end top i mid new r → NextFor m A i r
  next_past None valid past = found_next m A i None valid past.1
  next_past (Some found) valid past = found_next m A i (Some found) valid (past_found past)

  pub kept_past : (r : Option (ℕ × Word)) → PastFor (line_at m) root A lines end top i mid new r → KeptFor (line_at m) root A lines 0 (offset_of r)
  kept_past None past = tt
  kept_past (Some found) past = (inl refl, past.kept)

  pub looks_past : (last : Option ℕ) (old : ℕ) (r : Option (ℕ × Word)) → Walks A top last i end old mid → PastFor (line_at m) root A lines end top i mid new r → LooksUpTo (2 * top) old new
  looks_past last old None walk past = let way = walks_looks A top last i end old mid walk in let first = way.0 in let all = way.1 in let none = past.0 in (omega (arith, first, none), omega (arith, all, none))
  looks_past last old (Some found) walk past = past_looks last old walk past

  pub near_past : (last : Option ℕ) (old p : ℕ) (r : Option (ℕ × Word)) → Walks A top last i end old mid → PastFor (line_at m) root A lines end top i mid new r → last ≡ Some p → p ≤ i → i ≤ p + 1 → NearLooks p r old new
  near_past last old p None walk past e from next = past.0 ∙ none_near A top last i end old mid p walk past.1 e from next
  near_past last old p (Some found) walk past e from next = past_near last old p walk past e from next
