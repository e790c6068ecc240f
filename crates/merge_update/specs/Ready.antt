-- What tests keep of a memory and of segments, so that changes can be made to segment 0.
use Rattle.std.specs.Prelude.{◌≤◌, List, ◌++◌, length}
use Rattle.hic_isa.specs.declared.instr.SegKind.{SegKind}
use Rattle.hic_word.specs.declared.Word.{Word}
use Rattle.hic_word.specs.Values.{Array}
use Rattle.hic_word.specs.Holds.{Holds}
use Rattle.hic_word.specs.Memory.{Memory, width}
use Rattle.segment_map.specs.declared.Segment.{Segment}
use Rattle.segment_map.specs.Segments.{roots}
use Rattle.merge_update.specs.Updates.{SegmentFor}

-- the memory holds the segments' roots and these words, which are few, and no others; segment 0 has an array
pub record IsReady (m : Memory) (segments : List Segment) (others : List Word) : Type 0 where
  pub held : Holds (width m) m (roots segments ++ others)
  pub few : length (roots segments ++ others) ≤ 4
  pub kind : SegKind
  pub array : Array
  pub segment_for : SegmentFor m segments 0 kind array
