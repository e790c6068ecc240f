-- Data put into segments, one segment after another.
use Rattle.std.specs.Prelude.{◌≡◌, ℕ, zero, suc, ◌+◌, ◌<◌, ◌≤◌, List, [], ◌∷◌, drop, filter, length, map, ◌==◌, if◌then◌else◌}
use Rattle.hic_isa.specs.declared.instr.SegKind.{SegKind}
use Rattle.hic_object.specs.declared.object.DataRec.{DataRec}
use Rattle.hic_object.specs.Parts.{IsObject, Parts}
use Rattle.hic_word.specs.declared.Kind.TheVariants.{Num}
use Rattle.hic_word.specs.declared.Word.{Word}
use Rattle.hic_word.specs.Holds.{Holds}
use Rattle.hic_word.specs.Lines.{lines}
use Rattle.hic_word.specs.Memory.{Memory, width}
use Rattle.hic_word.specs.Stands.{word_of}
use Rattle.segment_map.specs.declared.Segment.{Segment as Stored}
use Rattle.segment_map.specs.Segments.{empty_of, roots}
use Rattle.hic_plain.specs.Machine.{Segment, array_of, segments_from}
use Rattle.hic_task.specs.Kept.{SegmentsFor}

-- the write that a record is
abbrev pub write_of : DataRec → ℕ × Word
write_of d = (d.offset, word_of Num 0 d.value)

-- how many records at the front are of this segment
abbrev pub run_of : ℕ → List DataRec → ℕ
run_of segment [] = 0
run_of segment (d ∷ ds) = if d.segment == segment then suc (run_of segment ds) else 0

-- the records of a segment
abbrev pub of_segment : ℕ → List DataRec → List DataRec
of_segment segment ds = filter (λ d. d.segment == segment) ds

-- the segments do not fall, from one on
abbrev pub AscendFrom : ℕ → List DataRec → Type 0
AscendFrom segment [] = Unit {0}
AscendFrom segment (d ∷ ds) = (segment ≤ d.segment) × AscendFrom d.segment ds

-- segments of these kinds, numbered from i on, of which so many at the front have their data, and the others nothing yet
abbrev pub filled_from : ℕ → ℕ → List SegKind → List DataRec → List Segment
filled_from filled i [] records = []
filled_from zero i (k ∷ ks) records = record { kind = k; array = [] } ∷ filled_from zero (i + 1) ks records
filled_from (suc filled) i (k ∷ ks) records = record { kind = k; array = array_of i records } ∷ filled_from filled (i + 1) ks records

-- the writes of each segment, of segments of these kinds that are numbered from i on
abbrev pub writes_from : ℕ → List SegKind → List DataRec → List (List (ℕ × Word))
writes_from i [] records = []
writes_from i (k ∷ ks) records = map write_of (of_segment i records) ∷ writes_from (i + 1) ks records

-- the records from a place on are of the segments from a number on
pub record AreLeft (records : List DataRec) (number place : ℕ) : Type 0 where
  pub within : place ≤ length records
  pub ascend : AscendFrom number (drop place records)
  pub same : (r : ℕ) → number ≤ r → of_segment r (drop place records) ≡ of_segment r records

-- the memory holds the segments alone, of which those below a number have their data
pub record Filled (m : Memory) (segments : List Stored) (o : Parts) (number : ℕ) : Type 0 where
  pub holds : Holds (width m) m (roots segments)
  pub segments_for : SegmentsFor m segments (filled_from number 0 o.kinds o.words)

-- the writes are those of the segment of this number, which has no data yet
pub record CanFill (m : Memory) (segments : List Stored) (o : Parts) (number : ℕ) (writes : List (ℕ × Word)) : Type 0 where
  pub object : IsObject o
  pub there : number < length segments
  pub filled : Filled m segments o number
  pub writes_are : writes ≡ map write_of (of_segment number o.words)

-- nothing is held, the segments are empty, and the writes of each are at hand
pub record CanLoad (m : Memory) (segments : List Stored) (o : Parts) (writes : List (List (ℕ × Word))) : Type 0 where
  pub held : Holds (width m) m []
  pub empty : segments ≡ map empty_of o.kinds
  pub object : IsObject o
  pub writes_are : writes ≡ writes_from 0 o.kinds o.words

-- the lines of the data are more than the capacity
abbrev pub Overflows : Memory → Parts → Type 0
Overflows m o = m.layout.cap < length (lines (width m) (map (λ s. s.array) (segments_from 0 o.kinds o.words)))
