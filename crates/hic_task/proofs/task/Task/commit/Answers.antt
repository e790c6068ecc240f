use Rattle.std.proofs.Common.{◌++◌, Err, refl, sym, ◌∙◌, ap, subst, arith}
use Rattle.std.specs.Prelude.{flat_map, slice_set}
use Rattle.hic_isa.specs.declared.instr.Instr.TheVariants.{Commit}
use Rattle.hic_word.specs.Values.{Number, Ref, pairs}
use Rattle.hic_word.proofs.callers.Holds.{exchanges_behind, exchanges_reshapes, exchanges_then, reshapes_before, reshapes_then}
use Rattle.segment_map.specs.Merging.{number_of}
use Rattle.segment_map.specs.Segments.{roots}
use Rattle.iter_regs.specs.Iters.{iter_words}
use Rattle.hic_plain.specs.declared.turn.Trap.TheVariants as trap
use Rattle.hic_plain.specs.Iters.{committed}
use Rattle.hic_plain.specs.Turns.{next, put_new, with_open, with_reg}
use Rattle.hic_plain.proofs.RowLaws.{commit_closed, commit_detached, commit_of}
use Rattle.hic_task.specs.Acting.{Acts}
use Rattle.hic_task.specs.Kept.{task_words}
use Rattle.hic_task.proofs.ArrayRows.{among_iter, few_rest, iter_exchanged, iter_there, segment_there, segments_after, trapped_beside, trapped_with, went_with}
use Rattle.hic_task.proofs.CommitRow.{after_update, answers_with, commits_at, committed_looks, new_full, new_there, own_is, renewed_less, renewed_task, room_refused, row_of, row_told, row_valid}
use Rattle.hic_task.proofs.Opened.{closed_at, opened_at, refused, writes_room}
use Rattle.hic_task.proofs.Ready.{among_front, few_after, standing_live, standing_room}
use Rattle.hic_task.proofs.Rows.{number_set}
use Rattle.hic_task.proofs.SealRow.{is_full, not_full}
use Rattle.hic_task.proofs.StandsOn.{task_after}
use Rattle.hic_task.proofs.task.Task.commit.Goals as goal

pub returns-in_default-3-clause-row : goal.returns-in_default-3-clause-row
returns-in_default-3-clause-row g c = λ task. trapped_with (λ P T can for. commit_closed P task T c.args.a c.args.b (closed_at can c.args.b c.iter-iter.ensures (refused (λ q. q.segment) c.iter-iter.result.now (sym c.in_default.is-0 ∙ c.vsid.ensures))))

pub returns-in_default-own-clause-row : goal.returns-in_default-own-clause-row
returns-in_default-own-clause-row g c = λ task. trapped_with (λ P T can for.
    let o = opened_at can c.args.b c.iter-iter.ensures (sym c.in-Ok-Ok-Ok.is-1 ∙ c.snapshot.ensures) c.pending.ensures c.in-Ok-Ok-Ok.is-2 in
    commit_detached P task T c.args.a c.args.b o.plain o.there (sym o.segment ∙ sym (own_is c.iter-iter.result.now o.kept c.in-Ok-Ok-Ok.own o.is (sym c.in-Ok-Ok-Ok.is-0 ∙ c.vsid.ensures)) ∙ c.in_default-own.is))

pub commit-requires-clause-held : goal.commit-requires-clause-held
commit-requires-clause-held g c = among_front (roots c.args.shared.now.segments) (task_words c.args.self.now) c.requires.held

pub commit-requires-clause-commit : goal.commit-requires-clause-commit
commit-requires-clause-commit g c =
    let w = commits_at c.requires.can_act.valid c.requires.shared_for.segments_for (opened_at c.requires.can_act c.args.b c.iter-iter.ensures (sym c.in-Ok-Ok-Ok.is-1 ∙ c.snapshot.ensures) c.pending.ensures c.in-Ok-Ok-Ok.is-2) (sym c.in-Ok-Ok-Ok.is-0 ∙ c.vsid.ensures) c.in-Some.is in
    (w.plain.kind, w.opened.plain.snapshot, w.opened.plain.buffered, w.plain.array, w.for)

pub commit-requires-clause-few : goal.commit-requires-clause-few
commit-requires-clause-few g c =
    let o = opened_at c.requires.can_act c.args.b c.iter-iter.ensures (sym c.in-Ok-Ok-Ok.is-1 ∙ c.snapshot.ensures) c.pending.ensures c.in-Ok-Ok-Ok.is-2 in
    let count = o.count in
    let most = o.valid.count in
    omega (arith, count, most)

pub commit-requires-clause-room : goal.commit-requires-clause-room
commit-requires-clause-room g c =
    let o = opened_at c.requires.can_act c.args.b c.iter-iter.ensures (sym c.in-Ok-Ok-Ok.is-1 ∙ c.snapshot.ensures) c.pending.ensures c.in-Ok-Ok-Ok.is-2 in
    writes_room o (g.met.M.LineMem.sound c.args.mem.now) c.requires.held

pub returns-in_default-commit-clause-row : goal.returns-in_default-commit-clause-row
returns-in_default-commit-clause-row g c = λ task.
    let same = c.in_default-commit.ensures.unchanged in
    subst (λ n. Acts (g.M.HoldCounts.memory c.args.mem.now) n c.args.shared.now (record c.args.shared.now { segments = c.commit.new.segments }) c.args.self.now c.args.self.now task (Commit c.args.a c.args.b) (Err trap.Full)) (sym same.1)
    (trapped_beside same.0 refl (λ P T can for.
    let w = commits_at can.valid for.segments_for (opened_at can c.args.b c.iter-iter.ensures (sym c.in-Ok-Ok-Ok.is-1 ∙ c.snapshot.ensures) c.pending.ensures c.in-Ok-Ok-Ok.is-2) (sym c.in-Ok-Ok-Ok.is-0 ∙ c.vsid.ensures) c.in-Some.is in
    let u = row_of w in
    let none = is_full refl (c.in_default-commit.ensures.full _ _ _ _ w.for) (new_full (g.M.HoldCounts.memory c.args.mem.now) P u.array (row_valid w) can.room) in
    commit_of P task T c.args.a c.args.b w.opened.plain c.in-Some.vsid w.plain w.opened.there w.own w.here ∙ room_refused P task (with_open T c.args.b (committed w.opened.plain u.array)) c.args.a c.in-Some.vsid u none))

pub returns-in_default-commit-clause-looks : goal.returns-in_default-commit-clause-looks
returns-in_default-commit-clause-looks g c = λ P t T can for.
    let w = commits_at can.valid for.segments_for (opened_at can c.args.b c.iter-iter.ensures (sym c.in-Ok-Ok-Ok.is-1 ∙ c.snapshot.ensures) c.pending.ensures c.in-Ok-Ok-Ok.is-2) (sym c.in-Ok-Ok-Ok.is-0 ∙ c.vsid.ensures) c.in-Some.is in
    committed_looks (g.M.HoldCounts.memory c.args.mem.now).layout.probe w (c.commit.ensures.looks _ _ _ _ w.for)

pub segment-present-requires : goal.segment-present-requires
segment-present-requires g c =
    let w = commits_at c.requires.can_act.valid c.requires.shared_for.segments_for (opened_at c.requires.can_act c.args.b c.iter-iter.ensures (sym c.in-Ok-Ok-Ok.is-1 ∙ c.snapshot.ensures) c.pending.ensures c.in-Ok-Ok-Ok.is-2) (sym c.in-Ok-Ok-Ok.is-0 ∙ c.vsid.ensures) c.in-Some.is in
    (after_update c.args.shared.now.segments c.commit.new.segments c.requires.machine c.requires.task c.in-Some.vsid c.requires.can_act.task_for c.requires.shared_for.segments_for c.requires.held w.for.segment_for.there (row_of w).array (c.in-Ok.ensures.updates _ _ _ _ w.for).has c.commit.ensures.reshapes).there

pub renew-requires-clause-held : goal.renew-requires-clause-held
renew-requires-clause-held g c =
    let w = commits_at c.requires.can_act.valid c.requires.shared_for.segments_for (opened_at c.requires.can_act c.args.b c.iter-iter.ensures (sym c.in-Ok-Ok-Ok.is-1 ∙ c.snapshot.ensures) c.pending.ensures c.in-Ok-Ok-Ok.is-2) (sym c.in-Ok-Ok-Ok.is-0 ∙ c.vsid.ensures) c.in-Some.is in
    let u = after_update c.args.shared.now.segments c.commit.new.segments c.requires.machine c.requires.task c.in-Some.vsid c.requires.can_act.task_for c.requires.shared_for.segments_for c.requires.held w.for.segment_for.there (row_of w).array (c.in-Ok.ensures.updates _ _ _ _ w.for).has c.commit.ensures.reshapes in
    among_iter c.args.self.now c.get.result _ (iter_there c.requires.can_act c.get.ensures.number c.get.ensures.bound c.index-self-get.result) (few_rest (roots c.commit.new.segments) (task_words c.args.self.now) u.few)

pub renew-requires-clause-live : goal.renew-requires-clause-live
renew-requires-clause-live g c =
    let w = commits_at c.requires.can_act.valid c.requires.shared_for.segments_for (opened_at c.requires.can_act c.args.b c.iter-iter.ensures (sym c.in-Ok-Ok-Ok.is-1 ∙ c.snapshot.ensures) c.pending.ensures c.in-Ok-Ok-Ok.is-2) (sym c.in-Ok-Ok-Ok.is-0 ∙ c.vsid.ensures) c.in-Some.is in
    let u = after_update c.args.shared.now.segments c.commit.new.segments c.requires.machine c.requires.task c.in-Some.vsid c.requires.can_act.task_for c.requires.shared_for.segments_for c.requires.held w.for.segment_for.there (row_of w).array (c.in-Ok.ensures.updates _ _ _ _ w.for).has c.commit.ensures.reshapes in
    let (S, there, stands) = segment_there (g.M.HoldCounts.memory c.commit.new.mem) c.commit.new.segments (put_new c.requires.machine.segments c.in-Some.vsid (row_of w).array) c.in-Some.vsid c.segment-present.result u.segments_for c.segment-present.ensures in
    standing_live (g.M.HoldCounts.memory c.commit.new.mem) c.segment-present.result.root (Ref (pairs S.array)) stands.root

pub renew-requires-clause-room : goal.renew-requires-clause-room
renew-requires-clause-room g c =
    let w = commits_at c.requires.can_act.valid c.requires.shared_for.segments_for (opened_at c.requires.can_act c.args.b c.iter-iter.ensures (sym c.in-Ok-Ok-Ok.is-1 ∙ c.snapshot.ensures) c.pending.ensures c.in-Ok-Ok-Ok.is-2) (sym c.in-Ok-Ok-Ok.is-0 ∙ c.vsid.ensures) c.in-Some.is in
    let u = after_update c.args.shared.now.segments c.commit.new.segments c.requires.machine c.requires.task c.in-Some.vsid c.requires.can_act.task_for c.requires.shared_for.segments_for c.requires.held w.for.segment_for.there (row_of w).array (c.in-Ok.ensures.updates _ _ _ _ w.for).has c.commit.ensures.reshapes in
    let (S, there, stands) = segment_there (g.M.HoldCounts.memory c.commit.new.mem) c.commit.new.segments (put_new c.requires.machine.segments c.in-Some.vsid (row_of w).array) c.in-Some.vsid c.segment-present.result u.segments_for c.segment-present.ensures in
    standing_room (g.M.HoldCounts.memory c.commit.new.mem) c.segment-present.result.root (Ref (pairs S.array)) (g.met.M.LineMem.sound c.commit.new.mem) u.few stands.root

pub set_number-requires-clause-held : goal.set_number-requires-clause-held
set_number-requires-clause-held g c =
    let w = commits_at c.requires.can_act.valid c.requires.shared_for.segments_for (opened_at c.requires.can_act c.args.b c.iter-iter.ensures (sym c.in-Ok-Ok-Ok.is-1 ∙ c.snapshot.ensures) c.pending.ensures c.in-Ok-Ok-Ok.is-2) (sym c.in-Ok-Ok-Ok.is-0 ∙ c.vsid.ensures) c.in-Some.is in
    let u = after_update c.args.shared.now.segments c.commit.new.segments c.requires.machine c.requires.task c.in-Some.vsid c.requires.can_act.task_for c.requires.shared_for.segments_for c.requires.held w.for.segment_for.there (row_of w).array (c.in-Ok.ensures.updates _ _ _ _ w.for).has c.commit.ensures.reshapes in
    let k = c.args.self.now in
    let there = iter_there c.requires.can_act c.get.ensures.number c.get.ensures.bound c.index-self-get.result in
    few_after (k.regs ++ flat_map iter_words (slice_set k.iters c.get.result c.renew.new.iter)) (few_rest (roots c.commit.new.segments) (task_words k) u.few) (exchanges_reshapes (iter_exchanged k c.get.result _ there c.renew.new.iter c.renew.ensures.exchanges)) (renewed_less k c.get.result _ c.renew.new.iter c.in-Ok.answer c.segment-present.result.root there c.renew.ensures.iter)

pub returns-clause-row : goal.returns-clause-row
returns-clause-row g c =
    let k = c.args.self.now in
    let there = iter_there c.requires.can_act c.get.ensures.number c.get.ensures.bound c.index-self-get.result in
    let renewal = iter_exchanged k c.get.result _ there c.renew.new.iter c.renew.ensures.exchanges in
    let behind = exchanges_behind (exchanges_then renewal c.set_number.ensures.exchanges) (roots c.commit.new.segments) in
    λ task. went_with (reshapes_then (reshapes_before c.commit.ensures.reshapes (task_words k)) behind) (λ P T can for.
    let w = commits_at can.valid for.segments_for (opened_at can c.args.b c.iter-iter.ensures (sym c.in-Ok-Ok-Ok.is-1 ∙ c.snapshot.ensures) c.pending.ensures c.in-Ok-Ok-Ok.is-2) (sym c.in-Ok-Ok-Ok.is-0 ∙ c.vsid.ensures) c.in-Some.is in
    let u = after_update c.args.shared.now.segments c.commit.new.segments P T c.in-Some.vsid can.task_for for.segments_for c.requires.held w.for.segment_for.there (row_of w).array (c.in-Ok.ensures.updates _ _ _ _ w.for).has c.commit.ensures.reshapes in
    let row = row_of w in
    let R = w.opened.plain in
    let updates = c.in-Ok.ensures.updates _ _ _ _ w.for in
    let room = not_full (λ e. cc) (c.in-Ok.ensures.full _ _ _ _ w.for) (new_full (g.M.HoldCounts.memory c.args.mem.now) P row.array (row_valid w) can.room) in
    let (S, found, stands) = segment_there (g.M.HoldCounts.memory c.commit.new.mem) c.commit.new.segments (put_new P.segments c.in-Some.vsid (row_of w).array) c.in-Some.vsid c.segment-present.result u.segments_for c.segment-present.ensures in
    let gives = row_told w S.array (new_there P.segments c.in-Some.vsid row.array S found) in
    let renewed = renewed_task u c.args.b c.get.result c.get.ensures.number _ there R w.opened.there c.in-Ok.answer row.answer updates.tells c.segment-present.result.root S.array gives (row_valid w) stands.root c.renew.new.iter c.renew.ensures.iter in
    let left = with_open T c.args.b (committed R row.array) in
    let task_for = c.set_number.ensures.task left (task_after (few_rest (roots c.commit.new.segments) (task_words k) u.few) _ left (exchanges_reshapes renewal) renewed) in (
      next (with_reg left c.args.a (Number (number_of row.answer))),
      put_new P.segments c.in-Some.vsid row.array,
      number_set left c.args.a (c.number.ensures ∙ ap number_of updates.tells) task_for,
      segments_after u.few c.commit.new.segments (put_new P.segments c.in-Some.vsid row.array) (task_words c.set_number.new.self) (exchanges_reshapes behind) u.segments_for,
      commit_of P task T c.args.a c.args.b R c.in-Some.vsid w.plain w.opened.there w.own w.here ∙ answers_with task T left c.args.a c.in-Some.vsid row for room,
    ))

pub returns-clause-looks : goal.returns-clause-looks
returns-clause-looks g c = λ P t T can for.
    let w = commits_at can.valid for.segments_for (opened_at can c.args.b c.iter-iter.ensures (sym c.in-Ok-Ok-Ok.is-1 ∙ c.snapshot.ensures) c.pending.ensures c.in-Ok-Ok-Ok.is-2) (sym c.in-Ok-Ok-Ok.is-0 ∙ c.vsid.ensures) c.in-Some.is in
    rw (c.set_number.ensures.looks, c.renew.ensures.looks) (committed_looks (g.M.HoldCounts.memory c.args.mem.now).layout.probe w (c.commit.ensures.looks _ _ _ _ w.for))
