-- A part of which two quarters' entries name lines: it has a line of its own.
use Rattle.std.proofs.Common.{◌≡◌, ◌≢◌, ℕ, ◌≤◌, List, [], ◌∷◌, length, get_or, sym, ◌∙◌, ap, refl, arith}
use Rattle.hic_word.specs.declared.Kind.TheVariants.{Node}
use Rattle.hic_word.specs.declared.Word.{Word}
use Rattle.hic_word.specs.Values.{Array}
use Rattle.hic_word.specs.Entries.{Entries, Inner, LineValue, Named, Zero, entries, entries-inner, inner}
use Rattle.hic_word.specs.Canon.{IsPart, Several, enc, joined, sole}
use Rattle.hic_word.specs.FormLaws.{part_entries}
use Rattle.hic_word.specs.Stands.{AnEntry, EntriesFor, LineFor, Lookup, NamedEntry, NoEntries, PackEntry, ZeroEntry}
use Rattle.hic_word.proofs.callers.Bits.{kind_is}
use Rattle.seg_canon.specs.Folds.{PiecesFor}
use Rattle.seg_canon.proofs.Pieces.{empty_entries, enc_joined, pieces_entries}

several_from : {m : Lookup} (xs : List Word) {es : Entries} (d : Word) → EntriesFor 4 m xs es → 2 ≤ length xs → (get_or xs 0 d).kind ≡ Node → (get_or xs 1 d).kind ≡ Node → sole (entries es) ≡ Several
several_from [] d NoEntries two first second = absurd (omega (arith, two))
several_from (x ∷ []) d (AnEntry e NoEntries) two first second = absurd (omega (arith, two))
several_from (x ∷ y ∷ xs) d (AnEntry (ZeroEntry e) es) two first second = let a = kind_is e in cc
several_from (x ∷ y ∷ xs) d (AnEntry (PackEntry e) es) two first second = let a = kind_is e in cc
several_from (x ∷ y ∷ xs) d (AnEntry (NamedEntry i e) (AnEntry (ZeroEntry f) es)) two first second = let a = kind_is f in cc
several_from (x ∷ y ∷ xs) d (AnEntry (NamedEntry i e) (AnEntry (PackEntry f) es)) two first second = let a = kind_is f in cc
several_from (x ∷ y ∷ xs) d (AnEntry (NamedEntry i e) (AnEntry (NamedEntry j f) es)) two first second = refl

pub forked_form : (m : Lookup) (h : ℕ) (xs : List Word) (A : Array) (d : Word) → 2 ≤ h → IsPart 4 h A → PiecesFor 4 m h xs A → 2 ≤ length xs → (get_or xs 0 d).kind ≡ Node → (get_or xs 1 d).kind ≡ Node
    → (L : LineValue) × (enc 4 h A ≡ Named L []) × LineFor 4 m xs L
forked_form m h xs A d high a pieces two first second =
    let es = part_entries 4 h A in
    let these : EntriesFor 4 m xs (inner es) = pieces_entries m h xs A high pieces in
    let only : sole es ≡ Several = ap sole (sym (entries-inner es)) ∙ several_from xs d these two first second in
    let some : A ≢ [] = λ none. (let bare : sole es ≡ sole (Zero ∷ Zero ∷ Zero ∷ Zero ∷ []) = ap (λ B. sole (part_entries 4 h B)) none ∙ ap sole (empty_entries 4 h) in cc) in
    (Inner (inner es), enc_joined 4 h A high some ∙ ap (λ s. joined s es) only, these)
