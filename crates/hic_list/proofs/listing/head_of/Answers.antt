use Rattle.std.proofs.Common.{◌≡◌, ℕ, List, ◌++◌, length, sym, ◌∙◌, ap, append_assoc}
use Rattle.std.specs.FinMap as finite
use Rattle.hic_word.specs.Lines.{lines}
use Rattle.hic_word.specs.Memory.{Memory}
use Rattle.hic_plain.specs.Machine.{held, width_of}
use Rattle.hic_list.specs.Listing.{end_line, room_line}
use Rattle.hic_list.specs.UnderWay.{segments_text}
use Rattle.hic_list.proofs.listing.head_of.Goals as goal

pub returns : goal.returns
returns g c =
    let P = c.args.machine.now.plain in
    let m = c.args.machine.now.memory in
    let room = room_line (length (lines (width_of P) (held P))) P.capacity in
    let first : c.extend_from_slice.new.self.items ≡ end_line c.args.end =
    c.in_ok-extend_from_slice.ensures.items ∙ ap (λ (xs : List ℕ). xs ++ c.as_slice.result.now) c.new-head.ensures.items ∙ c.as_slice.ensures.value ∙ c.end_line.ensures in
    let room_is : room_line (finite.len (g.S.HoldCounts.memory c.lines.result.now).lines) (g.S.HoldCounts.memory c.lines.result.now).layout.cap ≡ room =
    ap (λ (n : Memory). room_line (finite.len n.lines) n.layout.cap) c.lines.ensures.memory ∙ (λ t. room_line (c.lines.ensures.exact.number t) (sym c.lines.ensures.capacity t)) in
    let second : c.extend_from_slice-2.new.self.items ≡ end_line c.args.end ++ room =
    c.in_ok-extend_from_slice-2.ensures.items ∙ ap (λ (xs : List ℕ). xs ++ c.as_slice-2.result.now) first ∙ ap (λ (t : List ℕ). end_line c.args.end ++ t) (c.as_slice-2.ensures.value ∙ c.room_line.ensures ∙ room_is) in
    c.in_ok-put_segments.ensures ∙ ap (λ (xs : List ℕ). xs ++ segments_text P) second ∙ append_assoc (end_line c.args.end) room (segments_text P)
