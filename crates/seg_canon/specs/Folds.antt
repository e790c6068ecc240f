-- What words are folded from, and what the folded form stands for.
use Rattle.std.specs.Prelude.{◌≡◌, ℕ, zero, suc, List, [], ◌∷◌}
use Rattle.hic_word.specs.declared.Word.{Word}
use Rattle.hic_word.specs.Values.{Array}
use Rattle.hic_word.specs.Entries.{Entry, LineValue, Named, inner}
use Rattle.hic_word.specs.Entries as entry
use Rattle.hic_word.specs.Parts.{values}
use Rattle.hic_word.specs.FormLaws.{part_entries}
use Rattle.hic_word.specs.Names.{names_in}
use Rattle.hic_word.specs.Stands.{EntriesFor, EntryFor, LineFor, Lookup, WordsFor}
use Rattle.seg_canon.specs.declared.folded.Folded.{Folded}
use Rattle.seg_canon.specs.declared.folded.Folded.TheVariants.{Zero, Pack, Path, NeedLine}

-- words of a line of w words stand for what a part of a height is made of: its values at height 1, above it the entries
-- of its parts
abbrev pub PiecesFor : ℕ → Lookup → ℕ → List Word → Array → Type 0
PiecesFor w m zero words A = ⊥
PiecesFor w m (suc zero) words A = WordsFor w m words (values w 0 A)
PiecesFor w m (suc (suc k)) words A = EntriesFor w m words (inner (part_entries w (suc (suc k)) A))

-- a folded form stands for an entry, each form for its own kind: a line is made exactly where the path is empty
abbrev pub FoldedFor : (w : ℕ) → Lookup → Folded w → Entry → Type 0
FoldedFor w m Zero e = e ≡ entry.Zero
FoldedFor w m (Pack word) e = (ns : List ℕ) × (e ≡ entry.Pack ns) × EntryFor w m word e
FoldedFor w m (Path word) e = (L : LineValue) × (q : ℕ) × (p : List ℕ) × (e ≡ Named L (q ∷ p)) × EntryFor w m word e
FoldedFor w m (NeedLine line) e = (L : LineValue) × (e ≡ Named L []) × LineFor w m line.w L

-- a folded form names what the words name, in their order: holds pass from the words to it
abbrev pub FoldedNames : (w : ℕ) → Folded w → List Word → Type 0
FoldedNames w Zero words = names_in words ≡ []
FoldedNames w (Pack word) words = names_in words ≡ names_in (word ∷ [])
FoldedNames w (Path word) words = names_in words ≡ names_in (word ∷ [])
FoldedNames w (NeedLine line) words = line.w ≡ words
