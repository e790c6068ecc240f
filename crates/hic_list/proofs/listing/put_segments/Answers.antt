use Rattle.std.proofs.Common.{◌<◌, ◌≤◌, ◌++◌, length, map, sym, ◌∙◌, ap, subst, arith}
use Rattle.std.proofs.lemmas.List.{length-map, take_all}
use Rattle.hic_word.specs.Lines.{lines}
use Rattle.hic_plain.specs.Machine.{Segment, held, width_of}
use Rattle.hic_machine.specs.HeldAt.{HeldAt}
use Rattle.hic_list.specs.Listing.{segment_line}
use Rattle.hic_list.specs.Texts.{numbered}
use Rattle.hic_list.specs.UnderWay.{segments_text}
use Rattle.hic_list.proofs.Appending.{numbered-place}
use Rattle.hic_list.proofs.HeldLines.{segment_held}
use Rattle.hic_list.proofs.WordTexts.{segment_is}
use Rattle.hic_list.proofs.listing.put_segments.Goals as goal

pub loop-segment-preserved : goal.loop-segment-preserved
loop-segment-preserved g c =
    let m = c.args.machine.now.memory in
    let P = c.args.machine.now.plain in
    let k = c.loop-segment.segment in
    let told = subst (λ o. HeldAt m P k o) c.unwrap-root.ensures (subst (λ n. HeldAt m P n c.held_at.result) c.from.ensures c.held_at.ensures) in
    let low : k < length P.segments = omega (arith, c.loop-segment-test.true, c.segments-segment-end.ensures) in
    numbered-place (segment_line (width_of P) (lines (width_of P) (held P))) (map (λ (s : Segment). s.array) P.segments) k told.array c.args.text.now.items c.loop-segment.text.items c.extend_from_slice.new.self.items
    (sym (segment_held P k low) ∙ told.there)
    c.loop-segment.invariant
    (c.in_ok-extend_from_slice.ensures.items ∙ ap (λ t. c.loop-segment.text.items ++ t) (c.as_slice.ensures.value ∙ c.segment_line.ensures ∙ segment_is m (held P) c.args.numbers.now c.requires k k c.unwrap-root.result told.array told.there told.stands))

pub returns : goal.returns
unfolding segments_text
returns g c =
    let P = c.args.machine.now.plain in
    let arrays = map (λ (s : Segment). s.array) P.segments in
    let count = length-map P.segments (λ (s : Segment). s.array) in
    let end : length arrays ≤ c.loop-segment.segment = omega (arith, count, c.loop-segment-test.false, c.segments-segment-end.ensures) in
    c.loop-segment.invariant ∙ ap (λ xs. c.args.text.now.items ++ numbered (segment_line (width_of P) (lines (width_of P) (held P))) 0 xs) (take_all c.loop-segment.segment arrays end)
