use Rattle.std.proofs.Common.{◌∙◌, ap, sym, arith}
use Rattle.std.specs.Prelude.{flat_map}
use Rattle.std.specs.ControlFlow.{break_value}
use Rattle.std.proofs.lemmas.List.{length-map}
use Rattle.std.proofs.lemmas.Option.{slice_get-map}
use Rattle.segment_map.specs.declared.Segment.{Segment as Stored}
use Rattle.segment_map.specs.Segments.{roots}
use Rattle.hic_machine.specs.Held.{ordered_words}
use Rattle.hic_machine.proofs.HeldArrays.{behind, in_front}
use Rattle.hic_machine.proofs.arrays.held_at.Goals as goal

pub returns-then-k-count : goal.returns-then-k-count
returns-then-k-count c =
    let ss = c.args.segments.now in
    let many = length-map ss (λ (s : Stored). s.root) in
    let low = c.if-k-count.true in
    let a = c.from-count.ensures in
    let b = c.len.ensures in
    c.root.ensures ∙ sym (slice_get-map (λ (s : Stored). s.root) ss c.args.k) ∙ in_front (roots ss) (flat_map ordered_words c.args.tasks.now) c.requires.roots c.args.k (omega (arith, many, low, a, b))

pub returns : goal.returns
returns c =
    let ss = c.args.segments.now in
    let many = length-map ss (λ (s : Stored). s.root) in
    let low = c.if-k-count.false in
    let a = c.from-count.ensures in
    let b = c.len.ensures in
    c.break_value.ensures.value ∙ ap break_value c.past_tasks.ensures ∙ behind (roots ss) (flat_map ordered_words c.args.tasks.now) c.requires.roots c.args.k _ (omega (arith, many, low, a, b))
