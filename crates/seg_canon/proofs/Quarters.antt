-- The parts and values that are read in a line.
use Rattle.std.proofs.Common.{◌≡◌, ℕ, zero, suc, ◌+◌, ◌-◌, ◌<◌, ◌≤◌, List, [], ◌∷◌, ◌++◌, map, length, get_or, take, set, Option, Some, None, sym, ◌∙◌, ap, subst, arith}
use Rattle.std.specs.List.{range_with_len}
use Rattle.std.proofs.lemmas.List.{map-append, take_all, take_more, take_more_set}
use Rattle.hic_word.specs.declared.Word.{Word}
use Rattle.hic_word.specs.Width.{IsWidth, pack_limit}
use Rattle.hic_word.specs.Values.{Array, Value}
use Rattle.hic_word.specs.Entries.{Entries, Entry, Inner, Leaf, LineValue, Named, Pack, Zero, inner}
use Rattle.hic_word.specs.Parts.{part, values}
use Rattle.hic_word.specs.Canon.{AllZero, Alone, IsPart, Several, Sole, enc, joined, lowest, small, sole}
use Rattle.hic_word.specs.FormLaws.{part_entries}
use Rattle.hic_word.specs.Needed.{height_of}
use Rattle.hic_word.specs.Stands.{AnEntry, EntriesFor, InnerAt, LeafAt, LineFor, Lookup, NoEntries, WordsFor}
use Rattle.hic_word.proofs.callers.Forms.{lines_tell_heights, parts_are_parts}
use Rattle.seg_canon.specs.Parts.{QuartersFor, whole_part}
use Rattle.seg_canon.specs.Laws.{LeavesHaveValues, LinesAreStored}
use Rattle.seg_canon.proofs.Pieces.{enc_joined}
use Rattle.seg_canon.proofs.Opening.{some_entry}

-- the parts of a line
joined_line : (s : Sole) (ds : List Entry) (es : Entries) → joined s ds ≡ Named (Inner es) [] → es ≡ inner ds
joined_line AllZero ds es e = cc
joined_line (Alone q Zero) ds es e = cc
joined_line (Alone q (Pack ns)) ds es e = cc
joined_line (Alone q (Named L p)) ds es e = cc
joined_line Several ds es e = cc

quarters_from : {w : ℕ} (m : Lookup) (h : ℕ) (A : Array) → 2 ≤ h → IsPart w h A → (n q : ℕ) (xs : List Word) → EntriesFor w m xs (inner (map (λ i. enc w (h - 1) (part w A h i)) (range_with_len q n))) → QuartersFor w m h A q (map (whole_part (h - 1)) xs)
quarters_from m h A high a zero q [] NoEntries = tt
quarters_from m h A high a zero q (x ∷ xs) f = elim f [ ]
quarters_from m h A high a (suc n) q [] f = elim f [ ]
quarters_from {w} m h A high a (suc n) q (x ∷ xs) (AnEntry e es) =
    let low = a.low in
    (record { is_part = (parts_are_parts w h q A high a).is_part; high = omega arith; low = omega (arith, low); entry = e }, quarters_from m h A high a n (q + 1) xs es)

leaf_height : (h : ℕ) (vs : List Value) → h ≡ 0 + height_of (Leaf vs) → h ≡ 1
unfolding height_of
leaf_height h vs e = e

pub quarters_of_line : {w : ℕ} → IsWidth w → (m : Lookup) (h : ℕ) (A : Array) (L : LineValue) (xs : List Word) → 2 ≤ h → IsPart w h A → enc w h A ≡ Named L [] → LineFor w m xs L → QuartersFor w m h A 0 (map (whole_part (h - 1)) xs)
quarters_of_line {w} wide m h A (Leaf vs) xs high a made f = let one = leaf_height h vs (lines_tell_heights w h A (Leaf vs) [] wide a made) in absurd (omega arith)
quarters_of_line {w} wide m h A (Inner es) xs high a made f =
    let ds = part_entries w h A in
    let same : es ≡ inner ds = joined_line (sole ds) ds es (sym (enc_joined w h A high (some_entry w h A (Named (Inner es) []) made (λ z. cc))) ∙ made) in
    quarters_from m h A high a w 0 xs (subst (EntriesFor w m xs) same f)

-- what each of the first i words of a list is made of those of another
pub one_made : {X Y : Type 0} (f : X → Y) (xs : List X) (ys : List Y) (i : ℕ) (d : X) (y : Y) → i < length xs → i < length ys → take i ys ≡ map f (take i xs) → y ≡ f (get_or xs i d) → take (i + 1) (set ys i y) ≡ map f (take (i + 1) xs)
one_made f xs ys i d y low less was e =
    take_more_set ys i y less ∙ ap (λ zs. zs ++ y ∷ []) was ∙ ap (λ z. map f (take i xs) ++ z ∷ []) e
    ∙ sym (ap (map f) (take_more xs i d low) ∙ map-append f (take i xs) (get_or xs i d ∷ []))

pub all_made : {X Y : Type 0} (f : X → Y) (xs : List X) (ys : List Y) (i : ℕ) → length xs ≤ i → length ys ≤ i → take i ys ≡ map f (take i xs) → ys ≡ map f xs
all_made f xs ys i high more was = sym (take_all i ys more) ∙ was ∙ ap (map f) (take_all i xs high)

-- what is read in a line
pub lines_are_stored : LinesAreStored
lines_are_stored w m id (Leaf vs) line (LeafAt {line = other} l e f) is = subst (λ xs. WordsFor w m xs vs) (let same : other ≡ line = cc in same) f
lines_are_stored w m id (Inner es) line (InnerAt {line = other} l e f) is = subst (λ xs. EntriesFor w m xs es) (let same : other ≡ line = cc in same) f

lowest_leaf : (o : Option (List ℕ)) (vs : List Value) (L : LineValue) → lowest o vs ≡ Named L [] → L ≡ Leaf vs
lowest_leaf None vs L e = cc
lowest_leaf (Some ns) vs L e = cc

pub leaves_have_values : LeavesHaveValues
leaves_have_values w m [] L line made f = cc
leaves_have_values w m (p ∷ A) L line made f = subst (LineFor w m line) (lowest_leaf (small (pack_limit w) (values w 0 (p ∷ A))) (values w 0 (p ∷ A)) L made) f
