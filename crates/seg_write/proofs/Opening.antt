-- The pieces of a part, by its entry: whether it is packed, empty, a line or the path to one.
use Rattle.std.proofs.Common.{◌≡◌, ℕ, zero, suc, ◌+◌, ◌-◌, ◌<◌, ◌≤◌, List, [], ◌∷◌, map, length, set, Some, refl, sym, ◌∙◌, ap, subst, arith}
use Rattle.std.specs.List.{range_with_len}
use Rattle.hic_word.specs.Width.{four_wide}
use Rattle.hic_word.specs.declared.Kind.TheVariants.{Node, Num}
use Rattle.hic_word.specs.declared.Kind.TheVariants as kinds
use Rattle.hic_word.specs.declared.Word.{Word}
use Rattle.hic_word.specs.Lists.{AllBelow}
use Rattle.hic_word.specs.Values.{Array, Number}
use Rattle.hic_word.specs.Entries.{Zero, inner}
use Rattle.hic_word.specs.Parts.{part}
use Rattle.hic_word.specs.Canon.{IsPart, enc}
use Rattle.hic_word.specs.Stands.{AWord, AnEntry, EntriesFor, IsNumber, Lookup, NoEntries, NoWord, WordsFor, ZeroEntry, pack_bits, word_of}
use Rattle.seg_canon.specs.Folds.{PiecesFor}
use Rattle.seg_canon.specs.Opens.{IsLine, IsOne}
use Rattle.seg_canon.specs.Parts.{PartFor, QuartersFor, whole_part}
use Rattle.seg_canon.proofs.Opening.{entry_packed, pack_opened, zero_opened}
use Rattle.seg_canon.proofs.Pieces.{empty_entries, enc-empty, pack_height}
use Rattle.seg_canon.proofs.Quarters.{lines_are_stored, quarters_of_line}
use Rattle.seg_read.specs.Levels.{own_line}
use Rattle.seg_read.proofs.Entering.{line_words, one_high, other_quarter, this_quarter}
use Rattle.seg_read.proofs.Raising.{raises_whole}
use Rattle.seg_read.proofs.Ways.{one_own}
use Rattle.seg_write.proofs.Raising.{entries_pieces}

-- the pieces that words are, and the line that is read for them
pub record IsOpened (m : Lookup) (h : ℕ) (words : List Word) (n : ℕ) (A : Array) : Type 0 where
  pub pieces : PiecesFor 4 m h words A
  pub own : own_line (enc 4 h A) ≡ n

-- the quarters' parts tell the pieces
pieces_of : (m : Lookup) (h : ℕ) (A : Array) (n q : ℕ) (xs : List Word) → length xs ≡ n → QuartersFor 4 m h A q (map (whole_part (h - 1)) xs) → EntriesFor 4 m xs (inner (map (λ i. enc 4 (h - 1) (part 4 A h i)) (range_with_len q n)))
pieces_of m h A zero q [] l f = NoEntries
pieces_of m h A (suc n) q [] l f = absurd (omega (arith, l))
pieces_of m h A zero q (x ∷ xs) l f = absurd (omega (arith, l))
pieces_of m h A (suc n) q (x ∷ xs) l f = AnEntry f.0.entry (pieces_of m h A n (q + 1) xs (omega (arith, l)) f.1)

pub opened_pack : {m : Lookup} {h : ℕ} {x : Word} {A : Array} (words : List Word) → PartFor 4 m (whole_part h x) A → x.kind ≡ kinds.Pack
    → ((ns : List ℕ) → AllBelow 65536 ns → length ns ≡ 4 → x.bits ≡ pack_bits 4 ns → WordsFor 4 m words (map Number ns)) → IsOpened m h words 0 A
opened_pack {m} {h} {x} {A} words f k unpacked =
    let (ns, is, bits) = entry_packed f.entry k in
    let (ms, made, stand) = pack_opened four_wide words f k unpacked in
    record { pieces = subst (λ j. PiecesFor 4 m j words A) (sym (pack_height 4 h A ns is)) stand; own = ap own_line is }

empty_pieces : (m : Lookup) (h : ℕ) (z : Word) → 1 ≤ h → z ≡ word_of Num 0 0 → PiecesFor 4 m h (z ∷ z ∷ z ∷ z ∷ []) []
empty_pieces m zero z some is = absurd (omega (arith, some))
empty_pieces m (suc zero) z some is = AWord (IsNumber is) (AWord (IsNumber is) (AWord (IsNumber is) (AWord (IsNumber is) NoWord)))
empty_pieces m (suc (suc k)) z some is =
    let zeros : EntriesFor 4 m (z ∷ z ∷ z ∷ z ∷ []) (inner (Zero ∷ Zero ∷ Zero ∷ Zero ∷ [])) = AnEntry (ZeroEntry is) (AnEntry (ZeroEntry is) (AnEntry (ZeroEntry is) (AnEntry (ZeroEntry is) NoEntries))) in
    subst (λ es. EntriesFor 4 m (z ∷ z ∷ z ∷ z ∷ []) (inner es)) (sym (empty_entries 4 (suc (suc k)))) zeros

pub opened_zero : {m : Lookup} {h : ℕ} {x : Word} {A : Array} (z : Word) → PartFor 4 m (whole_part h x) A → (x.kind ≡ Node → ⊥) → (x.kind ≡ kinds.Pack → ⊥) → z ≡ word_of Num 0 0 → IsOpened m h (z ∷ z ∷ z ∷ z ∷ []) 0 A
opened_zero {m} {h} {x} {A} z f n k is =
    let none : A ≡ [] = zero_opened f n k in
    record { pieces = subst (PiecesFor 4 m h (z ∷ z ∷ z ∷ z ∷ [])) (sym none) (empty_pieces m h z f.is_part.positive is); own = ap (λ B. own_line (enc 4 h B)) none ∙ ap own_line (enc-empty 4 h) }

line_pieces : (m : Lookup) (h : ℕ) (x : Word) (id : ℕ) (A : Array) (line : List Word) → IsPart 4 h A → IsLine 4 m (whole_part h x) id A → m id ≡ Some line → length line ≡ 4 → PiecesFor 4 m h line A
line_pieces m zero x id A line a i is long = let some = a.positive in absurd (omega (arith, some))
line_pieces m (suc zero) x id A line a i is long = line_words line i is refl
line_pieces m (suc (suc k)) x id A line a i is long =
    let h = suc (suc k) in
    entries_pieces m h line A (omega arith) (pieces_of m h A 4 0 line long (quarters_of_line four_wide m h A i.value line (omega arith) a i.made (lines_are_stored 4 m id i.value line i.line is)))

pub opened_line : {m : Lookup} {h : ℕ} {x : Word} {id : ℕ} {A : Array} (line : List Word) → PartFor 4 m (whole_part h x) A → IsLine 4 m (whole_part h x) id A → m id ≡ Some line → length line ≡ 4 → IsOpened m h line 1 A
opened_line {m} {h} {x} {id} {A} line f i is long = record { pieces = line_pieces m h x id A line f.is_part i is long; own = ap own_line i.made }

-- one quarter alone has an entry
lone_quarters : {m : Lookup} {h : ℕ} {x r : Word} {A : Array} (q : ℕ) (z : Word) → IsOne 4 m (whole_part h x) q (whole_part (h - 1) r) A → z ≡ word_of Num 0 0 → QuartersFor 4 m h A 0 (map (whole_part (h - 1)) (set (z ∷ z ∷ z ∷ z ∷ []) q r))
lone_quarters zero z o is = (this_quarter 0 o refl, (other_quarter z 1 o is (omega arith) (omega arith), (other_quarter z 2 o is (omega arith) (omega arith), (other_quarter z 3 o is (omega arith) (omega arith), tt))))
lone_quarters (suc zero) z o is = (other_quarter z 0 o is (omega arith) (omega arith), (this_quarter 1 o refl, (other_quarter z 2 o is (omega arith) (omega arith), (other_quarter z 3 o is (omega arith) (omega arith), tt))))
lone_quarters (suc (suc zero)) z o is = (other_quarter z 0 o is (omega arith) (omega arith), (other_quarter z 1 o is (omega arith) (omega arith), (this_quarter 2 o refl, (other_quarter z 3 o is (omega arith) (omega arith), tt))))
lone_quarters (suc (suc (suc zero))) z o is = (other_quarter z 0 o is (omega arith) (omega arith), (other_quarter z 1 o is (omega arith) (omega arith), (other_quarter z 2 o is (omega arith) (omega arith), (this_quarter 3 o refl, tt))))
lone_quarters (suc (suc (suc (suc q)))) z o is = let low = o.place in absurd (omega (arith, low))

four_long : (z r : Word) (q : ℕ) → q < 4 → length (set (z ∷ z ∷ z ∷ z ∷ []) q r) ≡ 4
four_long z r zero low = refl
four_long z r (suc zero) low = refl
four_long z r (suc (suc zero)) low = refl
four_long z r (suc (suc (suc zero))) low = refl
four_long z r (suc (suc (suc (suc q)))) low = absurd (omega (arith, low))

pub opened_path : {m : Lookup} {h q : ℕ} {x r : Word} {A : Array} (z : Word) → PartFor 4 m (whole_part h x) A → IsOne 4 m (whole_part h x) q (whole_part (h - 1) r) A → z ≡ word_of Num 0 0 → IsOpened m h (set (z ∷ z ∷ z ∷ z ∷ []) q r) 0 A
opened_path {m} {h} {q} {x} {r} {A} z f o is =
    let words = set (z ∷ z ∷ z ∷ z ∷ []) q r in
    record { pieces = entries_pieces m h words A (one_high o) (pieces_of m h A 4 0 words (four_long z r q o.place) (lone_quarters q z o is)); own = one_own o f (raises_whole (whole_part h x) refl) }
