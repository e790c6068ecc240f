-- The words of a piece's quarters, by what its entry is.
use Rattle.std.proofs.Common.{◌≡◌, ℕ, zero, suc, ◌+◌, ◌-◌, ◌*◌, ◌/◌, ◌%◌, ◌^◌, ◌≤◌, Bool, true, false, IsTrue, ◌↔◌, List, [], ◌∷◌, map, length, Some, set, refl, sym, ◌∙◌, ap, subst, inl, inr, arith}
use Rattle.std.proofs.lemmas.Bool.{cases_eq, cases_lt}
use Rattle.std.proofs.lemmas.List.{get_or-set_other, get_or-set_same}
use Rattle.hic_word.specs.Width.{four_wide}
use Rattle.hic_word.specs.declared.Kind.TheVariants.{Node, Num}
use Rattle.hic_word.specs.declared.Kind.TheVariants as kinds
use Rattle.hic_word.specs.declared.Word.{Word}
use Rattle.hic_word.specs.Lists.{AllBelow}
use Rattle.hic_word.specs.Values.{Array, Number, at}
use Rattle.hic_word.specs.Parts.{part, values}
use Rattle.hic_word.proofs.callers.Forms.{packs_are_small}
use Rattle.hic_word.specs.Names.{Names, named_id}
use Rattle.hic_word.specs.Stands.{AWord, IsNumber, Lookup, WordFor, WordsFor, pack_bits}
use Rattle.seg_canon.specs.Opens.{IsLine, IsOne}
use Rattle.seg_canon.specs.Parts.{PartFor, whole_part}
use Rattle.seg_canon.proofs.Opening.{entry_packed, some_entry}
use Rattle.seg_read.specs.Founds.{word_in}
use Rattle.seg_read.proofs.Entering.{line_words, one_high, other_quarter, this_quarter}
use Rattle.seg_read.proofs.Places.{line_quarter, packed_words, path_one, shorter_word, word_at}
use Rattle.seg_cursor.specs.Pieces.{ArePieces, AreReached, Further, IsPath, OpensTo, PieceFor, piece}
use Rattle.seg_cursor.proofs.Cutting.{no_word, piece_at, piece_in}
use Rattle.seg_cursor.proofs.Words.{zero_at}

-- words of a lowest piece
words_pieces : {m : Lookup} (words : List Word) (A : Array) (n : ℕ) → WordsFor 4 m words (values 4 0 (piece 1 A n)) → ArePieces m 0 words A n
words_pieces {m} words A n f q low =
    let here : at (piece 1 A n) q ≡ at A (n * 4 + q) = piece_at 1 A n q low in
    subst (WordFor 4 m (word_in words q)) here (word_at q (piece 1 A n) words no_word f low)

-- a line is read
line_pieces : {m : Lookup} {x : Word} {id : ℕ} (k : ℕ) (A : Array) (n : ℕ) (line : List Word) → PieceFor m (suc k) x A n → IsLine 4 m (whole_part (suc k) x) id (piece (suc k) A n) → m id ≡ Some line → length line ≡ 4 → ArePieces m k line A n
line_pieces zero A n line f l is long = words_pieces line A n (line_words line l is refl)
line_pieces {m} (suc j) A n line f l is long = λ q low.
    subst (PartFor 4 m (whole_part (suc j) (word_in line q))) (piece_in (suc j) A n q low) (line_quarter q (suc j) line l f is (omega arith) (omega (arith, low, long)))

pub line_opens : {m : Lookup} {x : Word} {id : ℕ} (k : ℕ) (A : Array) (n : ℕ) (line : List Word) → PieceFor m (suc k) x A n → IsLine 4 m (whole_part (suc k) x) id (piece (suc k) A n) → m id ≡ Some line → length line ≡ 4 → OpensTo m true line k A n
line_opens k A n line f l is long = (some_entry 4 (suc k) (piece (suc k) A n) _ l.made (λ z. cc), line_pieces k A n line f l is long)

-- packed numbers
pub pack_opens : {m : Lookup} {x : Word} (k : ℕ) (A : Array) (n : ℕ) (words : List Word) → PieceFor m (suc k) x A n → x.kind ≡ kinds.Pack
    → ((ns : List ℕ) → AllBelow 65536 ns → length ns ≡ 4 → x.bits ≡ pack_bits 4 ns → WordsFor 4 m words (map Number ns)) → OpensTo m true words k A n
pack_opens {m} {x} k A n words f is unpacked =
    let (ns, made, bits) = entry_packed f.entry is in
    (some_entry 4 (suc k) (piece (suc k) A n) _ made (λ z. cc), go k f)
  where
    go : (j : ℕ) → PieceFor m (suc j) x A n → ArePieces m j words A n
    go zero g = words_pieces words A n (packed_words 1 words g is unpacked).1
    go (suc j) g = let high = (packed_words (suc (suc j)) words g is unpacked).0 in absurd (omega (arith, high))

-- an entry of a line with no path
pub no_path : (x : Word) (r : Bool) → IsTrue r ↔ IsPath x → r ≡ false → x.kind ≡ Node → x.bits / 2 ^ 59 ≡ 0
no_path x r is not node = elim (cases_lt 0 (x.bits / 2 ^ 59)) [
  | inl some ↦ let yes = is.1 (node, omega (arith, some)) in absurd cc
  | inr none ↦ omega (arith, none)
]

-- the first number of a path
pub path_opens : {m : Lookup} {x : Word} (k : ℕ) (A : Array) (n : ℕ) (path len : ℕ) (y : Word) → PieceFor m (suc k) x A n → x.kind ≡ Node → path ≡ x.bits / 2 ^ 24 % 2 ^ 35 → len ≡ x.bits / 2 ^ 59 → 1 ≤ len
    → y ≡ shorter_word x → OpensTo m true (set (no_word ∷ no_word ∷ no_word ∷ no_word ∷ []) (path % 4) y) k A n
path_opens {m} {x} k A n path len y f node p l some word = (o.some, go k f o)
  where
    o : IsOne 4 m (whole_part (suc k) x) (path % 4) (whole_part (suc k - 1) y) (piece (suc k) A n)
    o = path_one (suc k) path len y f node p l some word

    words : List Word
    words = set (no_word ∷ no_word ∷ no_word ∷ no_word ∷ []) (path % 4) y

    go : (j : ℕ) → PieceFor m (suc j) x A n → IsOne 4 m (whole_part (suc j) x) (path % 4) (whole_part (suc j - 1) y) (piece (suc j) A n) → ArePieces m j words A n
    go zero g one = let high = one_high one in absurd (omega (arith, high))
    go (suc j) g one = λ q low.
        let down : suc (suc j) - 1 ≡ suc j = omega arith in
        let zeros : List Word = no_word ∷ no_word ∷ no_word ∷ no_word ∷ [] in
        let B = piece (suc (suc j)) A n in
        let place = one.place in
        let there : (z : Word) → PartFor 4 m (whole_part (suc j) z) (part 4 B (suc (suc j)) q) → PartFor 4 m (whole_part (suc j) z) (piece (suc j) A (n * 4 + q)) = λ z f. subst (PartFor 4 m (whole_part (suc j) z)) (piece_in (suc j) A n q low) f in
        let this : (z : Word) → z ≡ word_in words q → PartFor 4 m (whole_part (suc j) z) (part 4 B (suc (suc j)) q) → PartFor 4 m (whole_part (suc j) (word_in words q)) (piece (suc j) A (n * 4 + q)) = λ z e f. subst (λ x. PartFor 4 m (whole_part (suc j) x) (piece (suc j) A (n * 4 + q))) e (there z f) in
        elim (cases_eq q (path % 4)) [
          | inl same ↦ this y (sym (ap (word_in words) same ∙ get_or-set_same zeros (path % 4) y no_word place)) (subst (λ h. PartFor 4 m (whole_part h y) (part 4 B (suc (suc j)) q)) down (this_quarter q one same))
          | inr other ↦ this no_word (sym (get_or-set_other zeros (path % 4) q y no_word other ∙ zero_at q low)) (subst (λ h. PartFor 4 m (whole_part h no_word) (part 4 B (suc (suc j)) q)) down (other_quarter no_word q one refl low other))
        ]

-- ---- what they name is reached

number_named : {m : Lookup} {x : Word} {n id : ℕ} → WordFor 4 m x (Number n) → named_id x ≡ Some id → ⊥
number_named (IsNumber is) e = let none = ap named_id is in cc

numbers_named : {m : Lookup} (ns : List ℕ) (xs : List Word) (id : ℕ) → WordsFor 4 m xs (map Number ns) → Names id xs → ⊥
numbers_named ns [] id f n = n
numbers_named [] (x ∷ xs) id f n = elim f [ ]
numbers_named (k ∷ ns) (x ∷ xs) id (AWord w ws) (inl e) = number_named w e
numbers_named (k ∷ ns) (x ∷ xs) id (AWord w ws) (inr later) = numbers_named ns xs id ws later

pub pack_reached : {m : Lookup} {x : Word} (root : Word) (k : ℕ) (A : Array) (n : ℕ) (words : List Word) → PieceFor m (suc k) x A n → x.kind ≡ kinds.Pack
    → ((ns : List ℕ) → AllBelow 65536 ns → length ns ≡ 4 → x.bits ≡ pack_bits 4 ns → WordsFor 4 m words (map Number ns)) → AreReached m root words
pack_reached {m} {x} root k A n words f is unpacked id names =
    let (ns, made, bits) = entry_packed f.entry is in
    let (long, small) = packs_are_small 4 (suc k) (piece (suc k) A n) ns four_wide f.is_part made in
    absurd (numbers_named ns words id (unpacked ns small long bits) names)

pub line_reached : {m : Lookup} {x root : Word} {id : ℕ} {B : Array} (k : ℕ) (line : List Word) → IsLine 4 m (whole_part (suc k) x) id B → m id ≡ Some line → AreReached m root (x ∷ []) → AreReached m root line
line_reached k line l is r next names = Further (r _ (inl l.names)) is names

zeros_named : (n : ℕ) (y : Word) (id : ℕ) → Names id (set (no_word ∷ no_word ∷ no_word ∷ no_word ∷ []) n y) → named_id y ≡ Some id
zeros_named zero y id names = grind arith
zeros_named (suc zero) y id names = grind arith
zeros_named (suc (suc zero)) y id names = grind arith
zeros_named (suc (suc (suc zero))) y id names = grind arith
zeros_named (suc (suc (suc (suc n)))) y id names = grind arith

pub path_reached : {m : Lookup} {x root : Word} (k : ℕ) (A : Array) (n : ℕ) (path len : ℕ) (y : Word) → PieceFor m (suc k) x A n → x.kind ≡ Node → path ≡ x.bits / 2 ^ 24 % 2 ^ 35 → len ≡ x.bits / 2 ^ 59 → 1 ≤ len
    → y ≡ shorter_word x → AreReached m root (x ∷ []) → AreReached m root (set (no_word ∷ no_word ∷ no_word ∷ no_word ∷ []) (path % 4) y)
path_reached k A n path len y f node p l some word r id names =
    let o = path_one (suc k) path len y f node p l some word in
    r id (inl (sym o.names ∙ zeros_named (path % 4) y id names))
