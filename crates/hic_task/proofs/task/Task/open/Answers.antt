use Rattle.std.proofs.Common.{Some, sym, ◌∙◌, ap}
use Rattle.hic_word.specs.Values.{Number, Ref, pairs}
use Rattle.hic_word.proofs.callers.Holds.{exchanges_reshapes}
use Rattle.segment_map.specs.Segments.{roots}
use Rattle.hic_plain.specs.Iters.{attached}
use Rattle.hic_plain.specs.Turns.{next, reg, with_open}
use Rattle.hic_plain.proofs.RowLaws.{open_nowhere, open_of, open_type}
use Rattle.hic_task.specs.Kept.{task_words}
use Rattle.hic_task.proofs.IterRows.{attached_for}
use Rattle.hic_task.proofs.Ready.{standing_live, standing_room}
use Rattle.hic_task.proofs.Rows.{number_told, reference_told}
use Rattle.hic_task.proofs.StandsOn.{task_after}
use Rattle.hic_task.proofs.ArrayRows.{among_iter, few_rest, goes_on, iter_exchanged, iter_put, iter_there, segment_nowhere, segment_root, segment_there, trapped_with, went_beside}
use Rattle.hic_task.proofs.task.Task.open.Goals as goal

pub returns-in_default-clause-row : goal.returns-in_default-clause-row
returns-in_default-clause-row g c = λ task. trapped_with (λ P T can for.
    let m = g.M.HoldCounts.memory c.args.mem.now in
    let (H, e) = reference_told (reg T c.args.b) (sym (c.number.ensures m (reg T c.args.b) (c.word.ensures m P task T can)) ∙ c.in_default.is) in
    open_type P task T c.args.a c.args.b H e)

pub returns-in_default-segment_at-clause-row : goal.returns-in_default-segment_at-clause-row
returns-in_default-segment_at-clause-row g c = λ task. trapped_with (λ P T can for.
    let m = g.M.HoldCounts.memory c.args.mem.now in
    let e = number_told (reg T c.args.b) c.in-Some.number (sym (c.number.ensures m (reg T c.args.b) (c.word.ensures m P task T can)) ∙ c.in-Some.is) in
    open_nowhere P task T c.args.a c.args.b c.in-Some.number e (segment_nowhere m c.args.shared.now.segments P.segments c.in-Some.number for.segments_for c.in_default-segment_at.ensures))

pub attach-requires-clause-held : goal.attach-requires-clause-held
attach-requires-clause-held g c = among_iter c.args.self.now c.get.result _ (iter_there c.requires.can_act c.get.ensures.number c.get.ensures.bound c.index-self-get.result) (few_rest (roots c.args.shared.now.segments) (task_words c.args.self.now) c.requires.held)

pub attach-requires-clause-live : goal.attach-requires-clause-live
attach-requires-clause-live g c =
    let m = g.M.HoldCounts.memory c.args.mem.now in
    let (S, there, stands) = segment_there m c.args.shared.now.segments c.requires.machine.segments c.in-Some-segment_at.vsid c.segment-segment.result c.requires.shared_for.segments_for c.segment-segment.ensures in
    standing_live m c.segment-segment.result.root (Ref (pairs S.array)) stands.root

pub attach-requires-clause-room : goal.attach-requires-clause-room
attach-requires-clause-room g c =
    let m = g.M.HoldCounts.memory c.args.mem.now in
    let (S, there, stands) = segment_there m c.args.shared.now.segments c.requires.machine.segments c.in-Some-segment_at.vsid c.segment-segment.result c.requires.shared_for.segments_for c.segment-segment.ensures in
    standing_room m c.segment-segment.result.root (Ref (pairs S.array)) (g.met.M.LineMem.sound c.args.mem.now) c.requires.held stands.root

pub returns-clause-row : goal.returns-clause-row
returns-clause-row g c =
    let exchange = exchanges_reshapes (iter_exchanged c.args.self.now c.get.result _ (iter_there c.requires.can_act c.get.ensures.number c.get.ensures.bound c.index-self-get.result) c.attach.new.self c.attach.ensures.exchanges) in
    λ task. went_beside c.requires.held exchange (λ P T can for.
    let m = g.M.HoldCounts.memory c.args.mem.now in
    let n = c.in-Some-segment_at.vsid in
    let e = number_told (reg T c.args.b) c.in-Some.number (sym (c.number.ensures m (reg T c.args.b) (c.word.ensures m P task T can)) ∙ c.in-Some.is) ∙ ap Number (sym c.in-Some-segment_at.ensures.0) in
    let (S, there, stands) = segment_there m c.args.shared.now.segments P.segments n c.segment-segment.result for.segments_for c.segment-segment.ensures in
    let is = attached_for (Some n) c.attach.ensures.open (segment_root n can.valid there stands) in
    let put = goes_on (iter_put c.args.a c.get.result c.get.ensures.number c.attach.new.self (Some (attached (Some n) S.array)) can.task_for is) in
    (next (with_open T c.args.a (attached (Some n) S.array)), task_after (few_rest (roots c.args.shared.now.segments) (task_words c.args.self.now) c.requires.held) _ _ exchange put, open_of P task T c.args.a c.args.b n S e there))
