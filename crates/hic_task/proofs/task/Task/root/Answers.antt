use Rattle.std.proofs.Common.{sym, ◌∙◌, ap}
use Rattle.hic_word.specs.Values.{Number, Ref, pairs}
use Rattle.hic_word.proofs.callers.Holds.{exchanges_reshapes}
use Rattle.segment_map.specs.Segments.{roots}
use Rattle.hic_plain.specs.Turns.{next, reg, with_reg}
use Rattle.hic_plain.proofs.RowLaws.{root_nowhere, root_of, root_type}
use Rattle.hic_task.specs.Kept.{task_words}
use Rattle.hic_task.proofs.Rows.{number_told, reference_told}
use Rattle.hic_task.proofs.ArrayRows.{few_rest, segment_nowhere, segment_there, trapped_with, went_beside}
use Rattle.hic_task.proofs.task.Task.root.Goals as goal

pub returns-in_default-clause-row : goal.returns-in_default-clause-row
returns-in_default-clause-row g c = λ task. trapped_with (λ P T can for.
    let m = g.M.HoldCounts.memory c.args.mem.now in
    let (H, e) = reference_told (reg T c.args.b) (sym (c.number.ensures m (reg T c.args.b) (c.word.ensures m P task T can)) ∙ c.in_default.is) in
    root_type P task T c.args.a c.args.b H e)

pub returns-in_default-segment_at-clause-row : goal.returns-in_default-segment_at-clause-row
returns-in_default-segment_at-clause-row g c = λ task. trapped_with (λ P T can for.
    let m = g.M.HoldCounts.memory c.args.mem.now in
    let e = number_told (reg T c.args.b) c.in-Some.number (sym (c.number.ensures m (reg T c.args.b) (c.word.ensures m P task T can)) ∙ c.in-Some.is) in
    root_nowhere P task T c.args.a c.args.b c.in-Some.number e (segment_nowhere m c.args.shared.now.segments P.segments c.in-Some.number for.segments_for c.in_default-segment_at.ensures))

pub set-requires-clause-held : goal.set-requires-clause-held
set-requires-clause-held g c = few_rest (roots c.args.shared.now.segments) (task_words c.args.self.now) c.requires.held

pub set-requires-clause-word : goal.set-requires-clause-word
set-requires-clause-word g c =
    let (S, there, stands) = segment_there (g.M.HoldCounts.memory c.args.mem.now) c.args.shared.now.segments c.requires.machine.segments c.in-Some-segment_at.vsid c.segment-segment.result c.requires.shared_for.segments_for c.segment-segment.ensures in
    (Ref (pairs S.array), stands.root)

pub returns-clause-row : goal.returns-clause-row
returns-clause-row g c = λ task. went_beside c.requires.held (exchanges_reshapes c.set.ensures.exchanges) (λ P T can for.
    let m = g.M.HoldCounts.memory c.args.mem.now in
    let n = c.in-Some-segment_at.vsid in
    let e = number_told (reg T c.args.b) c.in-Some.number (sym (c.number.ensures m (reg T c.args.b) (c.word.ensures m P task T can)) ∙ c.in-Some.is) ∙ ap Number (sym c.in-Some-segment_at.ensures.0) in
    let (S, there, stands) = segment_there m c.args.shared.now.segments P.segments n c.segment-segment.result for.segments_for c.segment-segment.ensures in
    (next (with_reg T c.args.a (Ref (pairs S.array))), c.set.ensures.task T (Ref (pairs S.array)) can.task_for stands.root, root_of P task T c.args.a c.args.b n S e there))
