use Rattle.std.proofs.Common.{Err, refl, sym, ◌∙◌, ap, subst}
use Rattle.hic_isa.specs.declared.instr.Instr.TheVariants.{Mcas}
use Rattle.hic_word.specs.Values.{Number, array}
use Rattle.hic_word.proofs.callers.Holds.{exchanges_behind, exchanges_reshapes, reshapes_before, reshapes_then}
use Rattle.segment_map.specs.Merging.{number_of}
use Rattle.segment_map.specs.Segments.{roots}
use Rattle.hic_plain.specs.declared.turn.Trap.TheVariants as trap
use Rattle.hic_plain.specs.Turns.{next, put_new, reg, with_reg}
use Rattle.hic_plain.proofs.RowLaws.{mcas_base_type, mcas_mine_type, mcas_nowhere, mcas_of, mcas_type}
use Rattle.hic_task.specs.Acting.{Acts}
use Rattle.hic_task.specs.Kept.{task_words}
use Rattle.hic_task.proofs.ArrayRows.{few_rest, segment_nowhere, segments_after, trapped_beside, trapped_with, went_with}
use Rattle.hic_task.proofs.CommitRow.{after_update, answers_with, new_full, room_refused}
use Rattle.hic_task.proofs.McasRow.{differing_room, row_of, row_valid, swapped_looks, swaps_at}
use Rattle.hic_task.proofs.Ready.{among_front}
use Rattle.hic_task.proofs.Rows.{number_set, number_told, reference_told}
use Rattle.hic_task.proofs.SealRow.{is_full, not_full}
use Rattle.hic_task.proofs.task.Task.mcas.Goals as goal

pub returns-in_default-clause-row : goal.returns-in_default-clause-row
returns-in_default-clause-row g c = λ task. trapped_with (λ P T can for.
    let m = g.M.HoldCounts.memory c.args.mem.now in
    let (H, e) = reference_told (reg T c.args.a) (sym (c.number.ensures m (reg T c.args.a) (c.word.ensures m P task T can)) ∙ c.in_default.is) in
    mcas_type P task T c.args.a c.args.b c.args.c H e)

pub returns-in_default-referenced-clause-row : goal.returns-in_default-referenced-clause-row
returns-in_default-referenced-clause-row g c = λ task. trapped_with (λ P T can for.
    let m = g.M.HoldCounts.memory c.args.mem.now in
    let (k, first) = c.in_default-referenced.ensures m (reg T c.args.b) (c.word-2.ensures m P task T can) in
    mcas_base_type P task T c.args.a c.args.b c.args.c c.in-Some.number k (number_told (reg T c.args.a) c.in-Some.number (sym (c.number.ensures m (reg T c.args.a) (c.word.ensures m P task T can)) ∙ c.in-Some.is)) first)

pub returns-in_default-referenced-2-clause-row : goal.returns-in_default-referenced-2-clause-row
returns-in_default-referenced-2-clause-row g c = λ task. trapped_with (λ P T can for.
    let m = g.M.HoldCounts.memory c.args.mem.now in
    let (same, base, first) = c.in-Some-referenced.ensures m (reg T c.args.b) (c.word-2.ensures m P task T can) in
    let (k, second) = c.in_default-referenced-2.ensures m (reg T c.args.c) (c.word-3.ensures m P task T can) in
    mcas_mine_type P task T c.args.a c.args.b c.args.c c.in-Some.number base k (number_told (reg T c.args.a) c.in-Some.number (sym (c.number.ensures m (reg T c.args.a) (c.word.ensures m P task T can)) ∙ c.in-Some.is)) first second)

pub returns-in_default-segment_at-clause-row : goal.returns-in_default-segment_at-clause-row
returns-in_default-segment_at-clause-row g c = λ task. trapped_with (λ P T can for.
    let m = g.M.HoldCounts.memory c.args.mem.now in
    let (same, base, first) = c.in-Some-referenced.ensures m (reg T c.args.b) (c.word-2.ensures m P task T can) in
    let (alike, mine, second) = c.in-Some-referenced-2.ensures m (reg T c.args.c) (c.word-3.ensures m P task T can) in
    mcas_nowhere P task T c.args.a c.args.b c.args.c c.in-Some.number base mine (number_told (reg T c.args.a) c.in-Some.number (sym (c.number.ensures m (reg T c.args.a) (c.word.ensures m P task T can)) ∙ c.in-Some.is)) first second (segment_nowhere m c.args.shared.now.segments P.segments c.in-Some.number for.segments_for c.in_default-segment_at.ensures))

pub mcas-requires-clause-held : goal.mcas-requires-clause-held
mcas-requires-clause-held g c = among_front (roots c.args.shared.now.segments) (task_words c.args.self.now) c.requires.held

pub mcas-requires-clause-mcas : goal.mcas-requires-clause-mcas
mcas-requires-clause-mcas g c =
    let m = g.M.HoldCounts.memory c.args.mem.now in
    let w = swaps_at c.requires.can_act c.requires.shared_for.segments_for (number_told (reg c.requires.task c.args.a) c.in-Some.number (sym (c.number.ensures m (reg c.requires.task c.args.a) (c.word.ensures m c.requires.machine c.requires.number c.requires.task c.requires.can_act)) ∙ c.in-Some.is) ∙ ap Number (sym c.in-Some-segment_at.ensures.0)) c.in-Some-segment_at.ensures.1 (c.in-Some-referenced.ensures m (reg c.requires.task c.args.b) (c.word-2.ensures m c.requires.machine c.requires.number c.requires.task c.requires.can_act)) (c.word-2.ensures m c.requires.machine c.requires.number c.requires.task c.requires.can_act) (c.in-Some-referenced-2.ensures m (reg c.requires.task c.args.c) (c.word-3.ensures m c.requires.machine c.requires.number c.requires.task c.requires.can_act)) (c.word-3.ensures m c.requires.machine c.requires.number c.requires.task c.requires.can_act) in
    (w.plain.kind, array w.base, array w.mine, w.plain.array, w.for)

pub mcas-requires-clause-room : goal.mcas-requires-clause-room
mcas-requires-clause-room g c = differing_room (g.met.M.LineMem.sound c.args.mem.now) c.requires.held

pub returns-in_default-mcas-clause-row : goal.returns-in_default-mcas-clause-row
returns-in_default-mcas-clause-row g c = λ task.
    let m = g.M.HoldCounts.memory c.args.mem.now in
    let same = c.in_default-mcas.ensures.unchanged in
    subst (λ n. Acts m n c.args.shared.now (record c.args.shared.now { segments = c.mcas.new.segments; changes = c.mcas.new.changes }) c.args.self.now c.args.self.now task (Mcas c.args.a c.args.b c.args.c) (Err trap.Full)) (sym same.1) (trapped_beside same.0 refl (λ P T can for.
    let w = swaps_at can for.segments_for (number_told (reg T c.args.a) c.in-Some.number (sym (c.number.ensures m (reg T c.args.a) (c.word.ensures m P task T can)) ∙ c.in-Some.is) ∙ ap Number (sym c.in-Some-segment_at.ensures.0)) c.in-Some-segment_at.ensures.1 (c.in-Some-referenced.ensures m (reg T c.args.b) (c.word-2.ensures m P task T can)) (c.word-2.ensures m P task T can) (c.in-Some-referenced-2.ensures m (reg T c.args.c) (c.word-3.ensures m P task T can)) (c.word-3.ensures m P task T can) in
    let row = row_of w in
    let none = is_full refl (c.in_default-mcas.ensures.full _ _ _ _ w.for) (new_full m P row.array (row_valid w) can.room) in
    mcas_of P task T c.args.a c.args.b c.args.c c.in-Some-segment_at.vsid w.base w.mine w.plain w.number w.first w.second w.here ∙ room_refused P task T c.args.a c.in-Some-segment_at.vsid row none))

pub returns-in_default-mcas-clause-looks : goal.returns-in_default-mcas-clause-looks
returns-in_default-mcas-clause-looks g c = λ P t T can for.
    let m = g.M.HoldCounts.memory c.args.mem.now in
    let w = swaps_at can for.segments_for (number_told (reg T c.args.a) c.in-Some.number (sym (c.number.ensures m (reg T c.args.a) (c.word.ensures m P t T can)) ∙ c.in-Some.is) ∙ ap Number (sym c.in-Some-segment_at.ensures.0)) c.in-Some-segment_at.ensures.1 (c.in-Some-referenced.ensures m (reg T c.args.b) (c.word-2.ensures m P t T can)) (c.word-2.ensures m P t T can) (c.in-Some-referenced-2.ensures m (reg T c.args.c) (c.word-3.ensures m P t T can)) (c.word-3.ensures m P t T can) in
    swapped_looks m.layout.probe w (c.mcas.ensures.looks _ _ _ _ w.for)

pub set_number-requires-clause-held : goal.set_number-requires-clause-held
set_number-requires-clause-held g c =
    let m = g.M.HoldCounts.memory c.args.mem.now in
    let w = swaps_at c.requires.can_act c.requires.shared_for.segments_for (number_told (reg c.requires.task c.args.a) c.in-Some.number (sym (c.number.ensures m (reg c.requires.task c.args.a) (c.word.ensures m c.requires.machine c.requires.number c.requires.task c.requires.can_act)) ∙ c.in-Some.is) ∙ ap Number (sym c.in-Some-segment_at.ensures.0)) c.in-Some-segment_at.ensures.1 (c.in-Some-referenced.ensures m (reg c.requires.task c.args.b) (c.word-2.ensures m c.requires.machine c.requires.number c.requires.task c.requires.can_act)) (c.word-2.ensures m c.requires.machine c.requires.number c.requires.task c.requires.can_act) (c.in-Some-referenced-2.ensures m (reg c.requires.task c.args.c) (c.word-3.ensures m c.requires.machine c.requires.number c.requires.task c.requires.can_act)) (c.word-3.ensures m c.requires.machine c.requires.number c.requires.task c.requires.can_act) in
    let u = after_update c.args.shared.now.segments c.mcas.new.segments c.requires.machine c.requires.task c.in-Some-segment_at.vsid c.requires.can_act.task_for c.requires.shared_for.segments_for c.requires.held w.for.segment_for.there (row_of w).array (c.in-Ok.ensures.updates _ _ _ _ w.for).has c.mcas.ensures.reshapes in
    few_rest (roots c.mcas.new.segments) (task_words c.args.self.now) u.few

pub returns-clause-row : goal.returns-clause-row
returns-clause-row g c =
    let behind = exchanges_behind c.set_number.ensures.exchanges (roots c.mcas.new.segments) in
    λ task. went_with (reshapes_then (reshapes_before c.mcas.ensures.reshapes (task_words c.args.self.now)) behind) (λ P T can for.
    let m = g.M.HoldCounts.memory c.args.mem.now in
    let w = swaps_at can for.segments_for (number_told (reg T c.args.a) c.in-Some.number (sym (c.number.ensures m (reg T c.args.a) (c.word.ensures m P task T can)) ∙ c.in-Some.is) ∙ ap Number (sym c.in-Some-segment_at.ensures.0)) c.in-Some-segment_at.ensures.1 (c.in-Some-referenced.ensures m (reg T c.args.b) (c.word-2.ensures m P task T can)) (c.word-2.ensures m P task T can) (c.in-Some-referenced-2.ensures m (reg T c.args.c) (c.word-3.ensures m P task T can)) (c.word-3.ensures m P task T can) in
    let u = after_update c.args.shared.now.segments c.mcas.new.segments P T c.in-Some-segment_at.vsid can.task_for for.segments_for c.requires.held w.for.segment_for.there (row_of w).array (c.in-Ok.ensures.updates _ _ _ _ w.for).has c.mcas.ensures.reshapes in
    let row = row_of w in
    let updates = c.in-Ok.ensures.updates _ _ _ _ w.for in
    let room = not_full (λ e. cc) (c.in-Ok.ensures.full _ _ _ _ w.for) (new_full m P row.array (row_valid w) can.room) in (
      next (with_reg T c.args.a (Number (number_of row.answer))),
      put_new P.segments c.in-Some-segment_at.vsid row.array,
      number_set T c.args.a (c.number-2.ensures ∙ ap number_of updates.tells) (c.set_number.ensures.task T u.task_for),
      segments_after u.few c.mcas.new.segments (put_new P.segments c.in-Some-segment_at.vsid row.array) (task_words c.set_number.new.self) (exchanges_reshapes behind) u.segments_for,
      mcas_of P task T c.args.a c.args.b c.args.c c.in-Some-segment_at.vsid w.base w.mine w.plain w.number w.first w.second w.here ∙ answers_with task T T c.args.a c.in-Some-segment_at.vsid row for room,
    ))

pub returns-clause-looks : goal.returns-clause-looks
returns-clause-looks g c = λ P t T can for.
    let m = g.M.HoldCounts.memory c.args.mem.now in
    let w = swaps_at can for.segments_for (number_told (reg T c.args.a) c.in-Some.number (sym (c.number.ensures m (reg T c.args.a) (c.word.ensures m P t T can)) ∙ c.in-Some.is) ∙ ap Number (sym c.in-Some-segment_at.ensures.0)) c.in-Some-segment_at.ensures.1 (c.in-Some-referenced.ensures m (reg T c.args.b) (c.word-2.ensures m P t T can)) (c.word-2.ensures m P t T can) (c.in-Some-referenced-2.ensures m (reg T c.args.c) (c.word-3.ensures m P t T can)) (c.word-3.ensures m P t T can) in
    rw c.set_number.ensures.looks (swapped_looks m.layout.probe w (c.mcas.ensures.looks _ _ _ _ w.for))
