use Rattle.std.proofs.Common.{[], ◌∷◌, ◌++◌, Err, refl, sym, ◌∙◌, subst, length, arith}
use Rattle.hic_isa.specs.declared.instr.Instr.TheVariants.{Seal}
use Rattle.hic_word.specs.Values.{Ref, pairs}
use Rattle.hic_word.proofs.callers.Holds.{reshapes_before, reshapes_then}
use Rattle.hic_plain.specs.declared.turn.Trap.TheVariants as trap
use Rattle.hic_plain.specs.Iters.{view}
use Rattle.hic_plain.specs.Turns.{next, with_reg}
use Rattle.hic_plain.proofs.IterLaws.{view_valid}
use Rattle.hic_plain.proofs.RowLaws.{seal_closed, seal_full, seal_of}
use Rattle.hic_task.specs.Acting.{ActsAlone}
use Rattle.hic_task.specs.Kept.{task_words}
use Rattle.hic_task.proofs.Opened.{closed_at, opened_at, refused, writes_room}
use Rattle.hic_task.proofs.Ready.{few_among, standing_live}
use Rattle.hic_task.proofs.Rows.{trapped, went}
use Rattle.hic_task.proofs.SealRow.{is_full, not_full, room_beside, sealed_looks, task_beside}
use Rattle.hic_task.proofs.task.Task.seal.Goals as goal

pub returns-in_default-2-clause-row : goal.returns-in_default-2-clause-row
returns-in_default-2-clause-row g c = trapped (λ P t T can. seal_closed P t T c.args.a c.args.b (closed_at can c.args.b c.iter-iter.ensures (refused (λ q. q.cursor.root) c.iter-iter.result.now (sym c.in_default.is-0 ∙ c.snapshot.ensures))))

pub apply-requires-clause-apply : goal.apply-requires-clause-apply
apply-requires-clause-apply g c =
    let o = opened_at c.requires.can_act c.args.b c.iter-iter.ensures (sym c.in-Ok-Ok.is-0 ∙ c.snapshot.ensures) c.pending.ensures c.in-Ok-Ok.is-1 in
    (o.plain.snapshot, o.plain.buffered, o.can_apply)

pub apply-requires-clause-room : goal.apply-requires-clause-room
apply-requires-clause-room g c =
    let o = opened_at c.requires.can_act c.args.b c.iter-iter.ensures (sym c.in-Ok-Ok.is-0 ∙ c.snapshot.ensures) c.pending.ensures c.in-Ok-Ok.is-1 in
    writes_room o (g.met.M.LineMem.sound c.args.mem.now) c.requires.held

pub apply-requires-clause-few : goal.apply-requires-clause-few
apply-requires-clause-few g c =
    let o = opened_at c.requires.can_act c.args.b c.iter-iter.ensures (sym c.in-Ok-Ok.is-0 ∙ c.snapshot.ensures) c.pending.ensures c.in-Ok-Ok.is-1 in
    let count = o.count in
    let most = o.valid.count in
    omega (arith, count, most)

pub returns-in_default-apply-clause-row : goal.returns-in_default-apply-clause-row
returns-in_default-apply-clause-row g c =
    subst (λ n. ActsAlone (g.M.HoldCounts.memory c.args.mem.now) n c.args.self.now c.args.self.now (Seal c.args.a c.args.b) (Err trap.Full)) (sym c.in_default-apply.ensures.unchanged) (trapped (λ P t T can.
    let o = opened_at can c.args.b c.iter-iter.ensures (sym c.in-Ok-Ok.is-0 ∙ c.snapshot.ensures) c.pending.ensures c.in-Ok-Ok.is-1 in
    seal_full P t T c.args.a c.args.b o.plain o.there (is_full refl (c.in_default-apply.ensures.full _ _ o.can_apply) (can.room (view o.plain) (view_valid (length P.segments) o.plain o.valid)))))

pub returns-in_default-apply-clause-looks : goal.returns-in_default-apply-clause-looks
returns-in_default-apply-clause-looks g c = λ P t T can.
    let o = opened_at can c.args.b c.iter-iter.ensures (sym c.in-Ok-Ok.is-0 ∙ c.snapshot.ensures) c.pending.ensures c.in-Ok-Ok.is-1 in
    sealed_looks (g.M.HoldCounts.memory c.args.mem.now).layout.probe o (c.apply.ensures.looks o.plain.snapshot o.plain.buffered o.can_apply)

pub give-requires-clause-held : goal.give-requires-clause-held
give-requires-clause-held g c =
    let held = c.requires.held in
    (held.others, c.in-Ok.ensures.reshapes.holds (task_words c.args.self.now ++ held.others) held.holds)

pub give-requires-clause-room : goal.give-requires-clause-room
give-requires-clause-room g c =
    let o = opened_at c.requires.can_act c.args.b c.iter-iter.ensures (sym c.in-Ok-Ok.is-0 ∙ c.snapshot.ensures) c.pending.ensures c.in-Ok-Ok.is-1 in
    let stands = c.in-Ok.ensures.stands _ _ o.can_apply in
    room_beside (g.M.HoldCounts.memory c.args.mem.now) c.in-Ok.root (g.met.M.LineMem.sound c.apply.new.mem) (standing_live (g.M.HoldCounts.memory c.apply.new.mem) c.in-Ok.root (Ref (pairs (view o.plain))) stands.word) c.requires.held c.in-Ok.ensures.reshapes

pub give-requires-clause-word : goal.give-requires-clause-word
give-requires-clause-word g c =
    let o = opened_at c.requires.can_act c.args.b c.iter-iter.ensures (sym c.in-Ok-Ok.is-0 ∙ c.snapshot.ensures) c.pending.ensures c.in-Ok-Ok.is-1 in
    (Ref (pairs (view o.plain)), (c.in-Ok.ensures.stands _ _ o.can_apply).word)

pub returns-clause-row : goal.returns-clause-row
returns-clause-row g c =
    let made = reshapes_before c.in-Ok.ensures.reshapes (task_words c.args.self.now) in
    went (reshapes_then made c.give.ensures.exchanges) (λ P t T can.
    let o = opened_at can c.args.b c.iter-iter.ensures (sym c.in-Ok-Ok.is-0 ∙ c.snapshot.ensures) c.pending.ensures c.in-Ok-Ok.is-1 in
    let v = Ref (pairs (view o.plain)) in
    let here = task_beside (c.in-Ok.root ∷ []) c.args.self.now T (few_among c.requires.held) made can.task_for in
    let room = not_full (λ e. cc) (c.in-Ok.ensures.full _ _ o.can_apply) (can.room (view o.plain) (view_valid (length P.segments) o.plain o.valid)) in
    (next (with_reg T c.args.a v), c.give.ensures.task T v here (c.in-Ok.ensures.stands _ _ o.can_apply).word, seal_of P t T c.args.a c.args.b o.plain o.there room))

pub returns-clause-looks : goal.returns-clause-looks
returns-clause-looks g c = λ P t T can.
    let o = opened_at can c.args.b c.iter-iter.ensures (sym c.in-Ok-Ok.is-0 ∙ c.snapshot.ensures) c.pending.ensures c.in-Ok-Ok.is-1 in
    rw c.give.ensures.looks (sealed_looks (g.M.HoldCounts.memory c.args.mem.now).layout.probe o (c.apply.ensures.looks o.plain.snapshot o.plain.buffered o.can_apply))
