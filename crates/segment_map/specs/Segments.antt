-- The segments of a machine, as a list: a segment's number is its place.
use Rattle.std.specs.Prelude.{ℕ, zero, suc, List, [], ◌∷◌, map}
use Rattle.hic_isa.specs.declared.instr.SegKind.{SegKind}
use Rattle.hic_word.specs.declared.Kind.TheVariants.{RefPack}
use Rattle.hic_word.specs.declared.Word.{Word}
use Rattle.hic_word.specs.Stands.{word_of}
use Rattle.segment_map.specs.declared.Segment.{Segment}

-- a segment of this kind with the empty array
abbrev pub empty_of : SegKind → Segment
empty_of kind = record { kind = kind; root = word_of RefPack 0 0 }

-- the roots, in the order of the segments' numbers
abbrev pub roots : List Segment → List Word
roots segments = map (λ s. s.root) segments

-- the segments with another root in that of a number
abbrev pub with_root : List Segment → ℕ → Word → List Segment
with_root [] vsid root = []
with_root (s ∷ ss) zero root = record s { root = root } ∷ ss
with_root (s ∷ ss) (suc vsid) root = s ∷ with_root ss vsid root
