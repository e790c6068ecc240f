use Rattle.std.proofs.Common.{◌≡◌, ◌++◌, map, take}
use Rattle.hic_word.specs.Lines.{lines}
use Rattle.hic_plain.specs.Machine.{Segment, held, width_of}
use Rattle.hic_list.specs.Listing.{segment_line}
use Rattle.hic_list.specs.Texts.{numbered}
use Rattle.hic_list.proofs.listing.put_segments.Given as goal

abbrev pub invariant-loop-segment : goal.invariant-loop-segment
invariant-loop-segment g l =
    l.text.items ≡ l.fn.text.items ++ numbered (segment_line (width_of l.machine.plain) (lines (width_of l.machine.plain) (held l.machine.plain))) 0 (take l.segment (map (λ (s : Segment). s.array) l.machine.plain.segments))
