use Rattle.std.specs.String.{string_bytes}
use Rattle.hic_asm.specs.ObjectText.{segment_line}
use Rattle.hic_asm.proofs.Appending.{flat_map-place}
use Rattle.hic_asm.proofs.disassembler.put_segments.Goals as goal

pub loop-segment-preserved : goal.loop-segment-preserved
loop-segment-preserved c =
    flat_map-place segment_line c.args.object.now.kinds c.loop-segment.segment c.kind.result (string_bytes c.args.text.now) (string_bytes c.loop-segment.text) (string_bytes c.put_segment.new.text) c.kind.ensures c.loop-segment.invariant c.in_ok-put_segment.ensures
