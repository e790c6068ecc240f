-- Ways down: what is known at an offset, and what is kept on the way.
use Rattle.std.proofs.Common.{◌≡◌, ◌⊎◌, ℕ, zero, suc, ◌+◌, ◌-◌, ◌*◌, ◌/◌, ◌%◌, ◌^◌, ◌<◌, ◌≤◌, Bool, true, false, List, [], ◌∷◌, get_or, length, set, Option, Some, None, refl, sym, ◌∙◌, ap, subst, inl, inr, arith}
use Rattle.std.proofs.Math.Nat.{div-one}
use Rattle.std.proofs.lemmas.Bool.{cases_eq}
use Rattle.std.proofs.lemmas.List.{get_or-set_other, get_or-set_same}
use Rattle.hic_word.specs.Width.{four_wide}
use Rattle.hic_word.specs.declared.Word.{Word}
use Rattle.hic_word.specs.Values.{Array, IsBelow, Number, at}
use Rattle.hic_word.specs.Names.{Names, named_id}
use Rattle.hic_word.specs.InMemory.{RootIn}
use Rattle.hic_word.specs.Memory.{Memory, line_at}
use Rattle.hic_word.specs.Stands.{Lookup, WordFor}
use Rattle.hic_word.proofs.callers.Forms.{heights_are_least}
use Rattle.seg_canon.specs.Parts.{PartFor, whole_part}
use Rattle.seg_read.specs.Founds.{word_in}
use Rattle.seg_read.proofs.Entering.{empty_quarter, part_top}
use Rattle.seg_read.proofs.Rooting.{empty_array, root_height, root_low}
use Rattle.seg_cursor.specs.Pieces.{AreReached, ArePieces, HasValue, IsJoined, Named, OpensTo, PieceFor, piece}
use Rattle.seg_cursor.specs.Trails.{AreKept, CursorFor, IsZeroAt, KeptFor, LineKept, OnWay, Starts, shown}
use Rattle.seg_cursor.proofs.Cutting.{empty_value, joined_from, no_word, has_value, number_digit, piece_past, piece_whole}

-- ---- words of lines

-- the word at the place of an offset stands for the piece of the offset
pub piece_below : (m : Lookup) (words : List Word) (A : Array) (h i q : ℕ) → ArePieces m h words A (i / 4 ^ suc h) → q ≡ i / 4 ^ h % 4 → PieceFor m h (word_in words q) A (i / 4 ^ h)
piece_below m words A h i q f e =
    let number : i / 4 ^ suc h * 4 + q ≡ i / 4 ^ h = ap (λ r. i / 4 ^ suc h * 4 + r) e ∙ number_digit i h in
    subst (PieceFor m h (word_in words q) A) number (f q (omega (arith, e)))

pub word_named : (words : List Word) (q id : ℕ) → named_id (word_in words q) ≡ Some id → Names id words
word_named [] q id e = absurd cc
word_named (x ∷ xs) zero id e = inl e
word_named (x ∷ xs) (suc q) id e = inr (word_named xs q id e)

pub word_reached : (m : Lookup) (root : Word) (words : List Word) (q : ℕ) → AreReached m root words → AreReached m root (word_in words q ∷ [])
word_reached m root words q r id (inl e) = r id (word_named words q id e)
word_reached m root words q r id (inr e) = absurd e

-- ---- lines that are kept

-- a line more, or another one below the height
pub kept_more : (m : Lookup) (root : Word) (A : Array) (lines : List (List Word)) (h i : ℕ) (words : List Word) → h < length lines → AreKept m root A lines (suc h) i → LineKept m root A h words (i / 4 ^ suc h) → AreKept m root A (set lines h words) h i
kept_more m root A lines h i words long above this k from low = elim (cases_eq k h) [
  | inl same ↦ subst (λ n. LineKept m root A n (get_or (set lines h words) n []) (i / 4 ^ suc n)) (sym same) (subst (λ ws. LineKept m root A h ws (i / 4 ^ suc h)) (sym (get_or-set_same lines h words [] long)) this)
  | inr other ↦ subst (λ ws. LineKept m root A k ws (i / 4 ^ suc k)) (sym (get_or-set_other lines h k words [] other)) (above k (omega (arith, from, other)) low)
]

pub kept_other : (m : Lookup) (root : Word) (A : Array) (lines : List (List Word)) (h i : ℕ) (words : List Word) → AreKept m root A lines (suc h) i → AreKept m root A (set lines h words) (suc h) i
kept_other m root A lines h i words above k from low = subst (λ ws. LineKept m root A k ws (i / 4 ^ suc k)) (sym (get_or-set_other lines h k words [] (λ e. omega (arith, e, from)))) (above k from low)

-- on the way to another offset too, from where one part has both
pub kept_moved : (m : Lookup) (root : Word) (A : Array) (lines : List (List Word)) (p i end k : ℕ) → AreKept m root A lines end p → end ≤ k → IsJoined (suc k) p i → AreKept m root A lines k i
kept_moved m root A lines p i end k kept from joined h above low = subst (LineKept m root A h (get_or lines h [])) (joined_from p i (suc k) (suc h) joined (omega (arith, above))) (kept h (omega (arith, from, above)) low)

-- ---- a turn on the way

pub record Turned (m : Lookup) (root : Word) (A : Array) (lines : List (List Word)) (i h : ℕ) (x : Word) : Type 0 where
  pub way : OnWay m root A lines i h x
  pub some : HasValue A (suc h) (i / 4 ^ suc h)

pub turned : {m : Lookup} {root x : Word} {A : Array} {lines : List (List Word)} {i : ℕ} (k q : ℕ) (words : List Word) → OnWay m root A lines i (suc k) x → OpensTo m true words k A (i / 4 ^ suc k) → AreReached m root words
    → k < length lines → q ≡ i / 4 ^ k % 4 → Turned m root A (set lines k words) i k (word_in words q)
turned {m} {root} {x} {A} {lines} {i} k q words w opened reached long e = record {
  way = record {
    stands = piece_below m words A k i q opened.1 e;
    reached = word_reached m root words q reached;
    kept = kept_more m root A lines k i words long w.kept (record { pieces = opened.1; reached = reached });
  };
  some = has_value (suc k) A (i / 4 ^ suc k) (part_top w.stands) opened.0;
}

-- at the height h above 0
pub turned_at : {m : Lookup} {root x : Word} {A : Array} {lines : List (List Word)} {i : ℕ} (h q : ℕ) (r : Bool) (words : List Word) → OnWay m root A lines i h x → 0 < h → r ≡ true
    → ((k : ℕ) (B : Array) (n : ℕ) → PieceFor m (suc k) x B n → OpensTo m r words k B n) → ((top : Word) → AreReached m top (x ∷ []) → r ≡ true → AreReached m top words)
    → h - 1 < length lines → q ≡ i / 4 ^ (h - 1) % 4 → (y : Word) → y ≡ word_in words q → Turned m root A (set lines (h - 1) words) i (h - 1) y
turned_at {m} {root} {x} {A} {lines} {i} h q r words w some e opens reaches long place y is =
    let up : h ≡ suc (h - 1) = omega (arith, some) in
    let v = subst (λ n. OnWay m root A lines i n x) up w in
    subst (Turned m root A (set lines (h - 1) words) i (h - 1)) (sym is) (turned (h - 1) q words v (subst (λ b. OpensTo m b words (h - 1) A (i / 4 ^ suc (h - 1))) e (opens (h - 1) A (i / 4 ^ suc (h - 1)) v.stands)) (reaches root w.reached e) long place)

-- a piece that is opened
pub opened_stands : {m : Lookup} {root x : Word} {A : Array} {lines : List (List Word)} {i : ℕ} (h : ℕ) → OnWay m root A lines i h x → 0 < h → PartFor 4 m (whole_part (suc (h - 1)) x) (piece (suc (h - 1)) A (i / 4 ^ suc (h - 1)))
opened_stands {m} {root} {x} {A} {lines} {i} h w some =
    let up : h ≡ suc (h - 1) = omega (arith, some) in
    (subst (λ n. OnWay m root A lines i n x) up w).stands

-- the way ends at an empty piece
pub record Ended (m : Lookup) (root : Word) (A : Array) (lines : List (List Word)) (i h : ℕ) : Type 0 where
  pub nothing : at A i ≡ Number 0
  pub kept : KeptFor m root A lines h (Some i)

pub ended_at : {m : Lookup} {root x : Word} {A : Array} {lines : List (List Word)} {i : ℕ} (h : ℕ) (r : Bool) (words : List Word) → OnWay m root A lines i h x → 0 < h → r ≡ false
    → ((k : ℕ) (B : Array) (n : ℕ) → PieceFor m (suc k) x B n → OpensTo m r words k B n) → Ended m root A (set lines (h - 1) words) i h
ended_at {m} {root} {x} {A} {lines} {i} h r words w some e opens =
    let up : h ≡ suc (h - 1) = omega (arith, some) in
    let v = subst (λ n. OnWay m root A lines i n x) up w in
    let empty = subst (λ b. OpensTo m b words (h - 1) A (i / 4 ^ suc (h - 1))) e (opens (h - 1) A (i / 4 ^ suc (h - 1)) v.stands) in
    subst (Ended m root A (set lines (h - 1) words) i) (sym up) (record {
      nothing = empty_value (suc (h - 1)) i (i / 4 ^ suc (h - 1)) A empty refl;
      kept = (inr empty, kept_other m root A lines (h - 1) i words v.kept);
    })

-- the way ends at the word
pub arrived : {m : Lookup} {root x : Word} {A : Array} {lines : List (List Word)} {i : ℕ} (h : ℕ) → OnWay m root A lines i h x → h ≡ 0 → WordFor 4 m x (at A i) × KeptFor m root A lines 0 (Some i)
arrived {m} {root} {x} {A} {lines} {i} h w e =
    let v = subst (λ n. OnWay m root A lines i n x) e w in
    (subst (λ n. WordFor 4 m x (at A n)) (div-one i) v.stands, (inl refl, v.kept))

-- ---- where a way begins

-- lines kept on the way to another offset are on this way too
pub start_ended : (m : Lookup) (root : Word) (A : Array) (lines : List (List Word)) (end p i k : ℕ) → KeptFor m root A lines end (Some p) → 1 ≤ k → k ≤ end → IsJoined k p i → Starts m root A lines end i None
start_ended m root A lines end p i k (inl none, kept) some low joined = absurd (omega (arith, none, some, low))
start_ended m root A lines end p i k (inr empty, kept) some low joined =
    let there = joined_from p i k end joined low in
    let here : piece end A (i / 4 ^ end) ≡ [] = ap (piece end A) (sym there) ∙ empty in
    (empty_value end i (i / 4 ^ end) A here refl, (inr here, kept_moved m root A lines p i end end kept (omega arith) (joined_from p i k (suc end) joined (omega (arith, low)))))

pub start_kept : (m : Lookup) (root : Word) (A : Array) (lines : List (List Word)) (end p i k q : ℕ) → KeptFor m root A lines end (Some p) → end < k → k ≤ root.height → IsJoined k p i → q ≡ i / 4 ^ (k - 1) % 4
    → (y : Word) → y ≡ word_in (get_or lines (k - 1) []) q → OnWay m root A lines i (k - 1) y
start_kept m root A lines end p i k q kept more low joined place y is =
    let up : k ≡ suc (k - 1) = omega (arith, more) in
    let all = kept_moved m root A lines p i end (k - 1) kept.1 (omega (arith, more)) (subst (λ n. IsJoined n p i) up joined) in
    let this = all (k - 1) (omega arith) (omega (arith, more, low)) in
    subst (OnWay m root A lines i (k - 1)) (sym is) (record {
      stands = piece_below m (get_or lines (k - 1) []) A (k - 1) i q this.pieces place;
      reached = word_reached m root (get_or lines (k - 1) []) q this.reached;
      kept = all;
    })

whole_piece : (m : Lookup) (x : Word) (A : Array) (h n : ℕ) → 1 ≤ h → PartFor 4 m (whole_part h x) (piece h A n) → PieceFor m h x A n
whole_piece m x A zero n some f = absurd (omega (arith, some))
whole_piece m x A (suc k) n some f = f

pub root_room : {m : Memory} {x : Word} {A : Array} → RootIn m x A → 1 ≤ x.height → IsBelow (4 ^ x.height) A
root_room {x = x} {A = A} r some = subst (λ h. IsBelow (4 ^ h) A) (sym (root_height r some)) (heights_are_least 4 A four_wide r.valid).room

pub start_root : {m : Memory} {root x : Word} {A : Array} (lines : List (List Word)) (i : ℕ) → RootIn m root A → 1 ≤ root.height → i < 4 ^ root.height → PartFor 4 (line_at m) (whole_part root.height x) A → named_id x ≡ named_id root
    → OnWay (line_at m) root A lines i root.height x
start_root {m} {root} {x} {A} lines i r some low f names = record {
  stands = whole_piece (line_at m) x A root.height (i / 4 ^ root.height) some (subst (PartFor 4 (line_at m) (whole_part root.height x)) (sym (piece_whole root.height i A (root_room r some) low)) f);
  reached = λ id e. elim e [
    | inl n ↦ Named (sym names ∙ n)
    | inr n ↦ absurd n
  ];
  kept = λ h from less. absurd (omega (arith, from, less));
}

pub start_past : {m : Memory} {root x : Word} {A : Array} (lines : List (List Word)) (i : ℕ) → RootIn m root A → x ≡ no_word → at A i ≡ Number 0 → ((root.height ≡ 0) ⊎ (4 ^ root.height ≤ i)) → WordFor 4 (line_at m) x (Number 0)
    → OnWay (line_at m) root A lines i root.height x
start_past {m} {root} {x} {A} lines i r is nothing past number = record {
  stands = go root.height refl past;
  reached = λ id e. elim e [
    | inl n ↦ absurd (let none = ap named_id is in cc)
    | inr n ↦ absurd n
  ];
  kept = λ h from less. absurd (omega (arith, from, less));
}
  where
    go : (h : ℕ) → root.height ≡ h → (h ≡ 0) ⊎ (4 ^ h ≤ i) → PieceFor (line_at m) h x A (i / 4 ^ h)
    go zero e p = subst (WordFor 4 (line_at m) x) (sym (ap (at A) (div-one i) ∙ nothing)) number
    go (suc k) e (inl none) = absurd (omega (arith, none))
    go (suc k) e (inr high) =
        let tall = root_low r in
        let some : 1 ≤ root.height = omega (arith, e) in
        empty_quarter (line_at m) (suc k) x (piece (suc k) A (i / 4 ^ suc k)) (omega arith) (omega (arith, tall, e)) is (piece_past (suc k) i A (subst (λ n. IsBelow (4 ^ n) A) e (root_room r some)) high)

-- ---- what a cursor keeps

pub cursor_kept : {m : Memory} {root : Word} {A : Array} {end : ℕ} (lines : List (List Word)) (last : Option ℕ) → CursorFor m (record { root = root; last = last; end = end; lines = shown last lines }) A → KeptFor (line_at m) root A lines end last
cursor_kept lines None f = tt
cursor_kept lines (Some i) f = f.kept

pub kept_cursor : {m : Memory} {root : Word} {A : Array} {end : ℕ} (lines : List (List Word)) (last : Option ℕ) → RootIn m root A → KeptFor (line_at m) root A lines end last → CursorFor m (record { root = root; last = last; end = end; lines = shown last lines }) A
kept_cursor lines None r kept = record { root_for = r; kept = tt }
kept_cursor lines (Some i) r kept = record { root_for = r; kept = kept }

pub zero_at_way : {m : Memory} {root : Word} {A : Array} {lines : List (List Word)} {i : ℕ} (end : ℕ) → RootIn m root A → KeptFor (line_at m) root A lines end (Some i) → at A i ≡ Number 0 → IsZeroAt (line_at m) root A lines end root.height i
zero_at_way {root = root} {A = A} end r kept none = record { below = go root.height refl; height = refl; kept = kept; zero = none }
  where
    go : (h : ℕ) → root.height ≡ h → IsBelow (4 ^ root.height) A
    go zero e = subst (IsBelow (4 ^ root.height)) (sym (empty_array r e)) tt
    go (suc k) e = root_room r (omega (arith, e))
