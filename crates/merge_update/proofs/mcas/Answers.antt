use Rattle.std.proofs.Common.{◌*◌, length, refl, sym, ◌∙◌, arith}
use mathlib.Core.Bool.{false≢true}
use Rattle.std.proofs.lemmas.Result.{IfOk-weaker}
use Rattle.hic_word.specs.Changes.{with}
use Rattle.hic_word.proofs.callers.Holds.{exchanges_reshapes}
use Rattle.segment_map.specs.Merging.{differences, mcas, merged, swapped, wide}
use Rattle.merge_update.proofs.Joining.{not_so}
use Rattle.merge_update.proofs.Replacing.{is_there, new_held, new_installed, new_stands}
use Rattle.merge_update.proofs.Swapping.{has_room, is_live, room_for_one, stands_held}
use Rattle.merge_update.proofs.Cases.{full_by, never_full, nothing_new, updates_by}
use Rattle.merge_update.proofs.McasCases.{at_ok, can_change, is_merged, is_none, is_now, is_plain, is_wide, merged_looks, not_err, now_looks, pairs_few, plain_looks, present, stale_looks}
use Rattle.merge_update.proofs.mcas.Goals as goal

-- the present array is the base
pub hold-requires-clause-live : goal.hold-requires-clause-live
hold-requires-clause-live g c = let (kind, B, N, P, for) = c.requires.mcas in is_live for.mine_for

pub hold-requires-clause-room : goal.hold-requires-clause-room
hold-requires-clause-room g c = let (kind, B, N, P, for) = c.requires.mcas in room_for_one (64 * 4097) (g.M.HoldCounts.memory c.args.mem.now) c.args.mine (omega arith) c.requires.room (is_live for.mine_for)

pub replace-requires-clause-held : goal.replace-requires-clause-held
replace-requires-clause-held g c = new_held c.args.segments.now c.args.vsid c.args.mine (exchanges_reshapes c.hold.ensures.exchanges) c.requires.held

pub replace-requires-clause-there : goal.replace-requires-clause-there
replace-requires-clause-there g c = is_there c.args.segments.now c.args.vsid _ c.segment-segment.ensures

pub returns-then-same_word-clause-updates : goal.returns-then-same_word-clause-updates
returns-then-same_word-clause-updates g c = λ kind B N P for. updates_by (mcas kind B N P) (swapped N) (is_now c.requires.held.1.balanced.unique for c.segment-segment.ensures (c.same_word.ensures.0 c.if-same_word.true)) (record {
  tells = refl;
  has = (
    c.args.mine,
    c.replace.ensures.segments,
    new_stands c.args.segments.now c.args.vsid c.args.mine (exchanges_reshapes c.hold.ensures.exchanges) (g.M.HoldCounts.memory c.replace.new.mem) c.replace.new.segments (is_there c.args.segments.now c.args.vsid _ c.segment-segment.ensures) c.replace.ensures.segments c.replace.ensures.exchanges c.requires.held N
        (stands_held _ c.requires.held c.hold.ensures.exchanges for.mine_for),
  );
})

pub returns-then-same_word-clause-reshapes : goal.returns-then-same_word-clause-reshapes
returns-then-same_word-clause-reshapes g c = new_installed c.args.segments.now c.args.vsid c.args.mine (exchanges_reshapes c.hold.ensures.exchanges) _ c.replace.new.segments c.replace.ensures.exchanges

pub returns-then-same_word-clause-full : goal.returns-then-same_word-clause-full
returns-then-same_word-clause-full g c = λ kind B N P for. full_by (g.M.HoldCounts.memory c.args.mem.now) (mcas kind B N P) (swapped N) (is_now c.requires.held.1.balanced.unique for c.segment-segment.ensures (c.same_word.ensures.0 c.if-same_word.true)) (λ f. absurd (false≢true f), λ lacks. absurd (has_room for.mine_for _ c.requires.held (g.met.M.LineMem.sound c.args.mem.now) lacks))

pub returns-then-same_word-clause-looks : goal.returns-then-same_word-clause-looks
returns-then-same_word-clause-looks g c = λ kind B N P for. rw c.replace.ensures.looks (now_looks c.requires.held.1.balanced.unique for c.segment-segment.ensures _ _ _ _ (c.same_word.ensures.0 c.if-same_word.true))

-- the segment is plain
pub returns-then-not-merges-clause-updates : goal.returns-then-not-merges-clause-updates
returns-then-not-merges-clause-updates g c = λ kind B N P for. nothing_new (mcas kind B N P) (is_plain c.requires.held.1.balanced.unique for c.segment-segment.ensures (not_so c.same_word.ensures c.if-same_word.false) (sym c.merges.ensures ∙ c.if-not-merges.true))

pub returns-then-not-merges-clause-full : goal.returns-then-not-merges-clause-full
returns-then-not-merges-clause-full g c = λ kind B N P for. never_full (g.M.HoldCounts.memory c.args.mem.now) (mcas kind B N P) (is_plain c.requires.held.1.balanced.unique for c.segment-segment.ensures (not_so c.same_word.ensures c.if-same_word.false) (sym c.merges.ensures ∙ c.if-not-merges.true))

pub returns-then-not-merges-clause-looks : goal.returns-then-not-merges-clause-looks
returns-then-not-merges-clause-looks g c = λ kind B N P for. plain_looks c.requires.held.1.balanced.unique for c.segment-segment.ensures (not_so c.same_word.ensures c.if-same_word.false) _ _ _ _ (sym c.merges.ensures ∙ c.if-not-merges.true)

-- there are too many differences
pub returns-then-is_err-clause-updates : goal.returns-then-is_err-clause-updates
returns-then-is_err-clause-updates g c = λ kind B N P for. updates_by (mcas kind B N P) wide (is_wide c.requires.held.1.balanced.unique for c.segment-segment.ensures (not_so c.same_word.ensures c.if-same_word.false) (sym c.merges.ensures ∙ c.if-not-merges.false) ((c.changed.ensures.wide B N for.base_for for.mine_for).0 (sym c.if-is_err.ensures.value))) record { tells = refl; has = (refl, refl) }

pub returns-then-is_err-clause-full : goal.returns-then-is_err-clause-full
returns-then-is_err-clause-full g c = λ kind B N P for. full_by (g.M.HoldCounts.memory c.args.mem.now) (mcas kind B N P) wide (is_wide c.requires.held.1.balanced.unique for c.segment-segment.ensures (not_so c.same_word.ensures c.if-same_word.false) (sym c.merges.ensures ∙ c.if-not-merges.false) ((c.changed.ensures.wide B N for.base_for for.mine_for).0 (sym c.if-is_err.ensures.value))) (λ f. absurd (false≢true f), λ f. absurd f)

pub returns-then-is_err-clause-looks : goal.returns-then-is_err-clause-looks
returns-then-is_err-clause-looks g c = λ kind B N P for. stale_looks c.requires.held.1.balanced.unique for c.segment-segment.ensures (not_so c.same_word.ensures c.if-same_word.false) (sym c.merges.ensures ∙ c.if-not-merges.false) 0 _ (omega arith) (c.changed.ensures.looks B N for.base_for for.mine_for) (omega arith, omega arith)

-- the differences are joined to the present array
pub join_changes-requires-clause-changes : goal.join_changes-requires-clause-changes
join_changes-requires-clause-changes g c = let (kind, B, N, P, for) = c.requires.mcas in (B, differences B N, (can_change c.requires.held.1.balanced.unique for c.segment-segment.ensures (not_so c.same_word.ensures c.if-same_word.false) (sym c.merges.ensures ∙ c.if-not-merges.false) c.changed.new.out (at_ok c.changed.result c.if-is_err.ensures.value c.changed.ensures.differences B N for.base_for for.mine_for)))

pub join_changes-requires-clause-present : goal.join_changes-requires-clause-present
join_changes-requires-clause-present g c = let (kind, B, N, P, for) = c.requires.mcas in (P, present c.requires.held.1.balanced.unique for c.segment-segment.ensures)

pub returns-then-not-join_changes-clause-updates : goal.returns-then-not-join_changes-clause-updates
returns-then-not-join_changes-clause-updates g c = λ kind B N P for. nothing_new (mcas kind B N P) (is_none c.requires.held.1.balanced.unique for c.segment-segment.ensures (not_so c.same_word.ensures c.if-same_word.false) (sym c.merges.ensures ∙ c.if-not-merges.false) (not_err c.changed.result c.if-is_err.ensures.value (c.changed.ensures.wide B N for.base_for for.mine_for)) (c.if-not-join_changes.ensures.joined B (differences B N) P (can_change c.requires.held.1.balanced.unique for c.segment-segment.ensures (not_so c.same_word.ensures c.if-same_word.false) (sym c.merges.ensures ∙ c.if-not-merges.false) c.changed.new.out (at_ok c.changed.result c.if-is_err.ensures.value c.changed.ensures.differences B N for.base_for for.mine_for)) (present c.requires.held.1.balanced.unique for c.segment-segment.ensures)))

pub returns-then-not-join_changes-clause-full : goal.returns-then-not-join_changes-clause-full
returns-then-not-join_changes-clause-full g c = λ kind B N P for. never_full (g.M.HoldCounts.memory c.args.mem.now) (mcas kind B N P) (is_none c.requires.held.1.balanced.unique for c.segment-segment.ensures (not_so c.same_word.ensures c.if-same_word.false) (sym c.merges.ensures ∙ c.if-not-merges.false) (not_err c.changed.result c.if-is_err.ensures.value (c.changed.ensures.wide B N for.base_for for.mine_for)) (c.if-not-join_changes.ensures.joined B (differences B N) P (can_change c.requires.held.1.balanced.unique for c.segment-segment.ensures (not_so c.same_word.ensures c.if-same_word.false) (sym c.merges.ensures ∙ c.if-not-merges.false) c.changed.new.out (at_ok c.changed.result c.if-is_err.ensures.value c.changed.ensures.differences B N for.base_for for.mine_for)) (present c.requires.held.1.balanced.unique for c.segment-segment.ensures)))

pub returns-then-not-join_changes-clause-looks : goal.returns-then-not-join_changes-clause-looks
returns-then-not-join_changes-clause-looks g c = λ kind B N P for. stale_looks c.requires.held.1.balanced.unique for c.segment-segment.ensures (not_so c.same_word.ensures c.if-same_word.false) (sym c.merges.ensures ∙ c.if-not-merges.false) (length c.changed.new.out) _ (pairs_few c.requires.held.1.balanced.unique for c.segment-segment.ensures (not_so c.same_word.ensures c.if-same_word.false) (sym c.merges.ensures ∙ c.if-not-merges.false) c.changed.new.out (not_err c.changed.result c.if-is_err.ensures.value (c.changed.ensures.wide B N for.base_for for.mine_for)) (at_ok c.changed.result c.if-is_err.ensures.value c.changed.ensures.differences B N for.base_for for.mine_for)) (c.changed.ensures.looks B N for.base_for for.mine_for) c.join_changes.ensures.looks

pub install-requires-clause-there : goal.install-requires-clause-there
install-requires-clause-there g c = is_there c.args.segments.now c.args.vsid _ c.segment-segment.ensures

pub install-requires-clause-apply : goal.install-requires-clause-apply
install-requires-clause-apply g c = let (kind, B, N, P, for) = c.requires.mcas in let (changes, can, row) = is_merged c.requires.held.1.balanced.unique for c.segment-segment.ensures (not_so c.same_word.ensures c.if-same_word.false) (sym c.merges.ensures ∙ c.if-not-merges.false) (not_err c.changed.result c.if-is_err.ensures.value (c.changed.ensures.wide B N for.base_for for.mine_for)) c.join_changes.new.changes c.as_slice.result.now c.as_slice.ensures.pairs (c.if-not-join_changes.ensures.joined B (differences B N) P (can_change c.requires.held.1.balanced.unique for c.segment-segment.ensures (not_so c.same_word.ensures c.if-same_word.false) (sym c.merges.ensures ∙ c.if-not-merges.false) c.changed.new.out (at_ok c.changed.result c.if-is_err.ensures.value c.changed.ensures.differences B N for.base_for for.mine_for)) (present c.requires.held.1.balanced.unique for c.segment-segment.ensures)) in (P, changes, can)

pub returns-clause-updates : goal.returns-clause-updates
returns-clause-updates g c = IfOk-weaker c.install.result _ _ (λ answer updates kind B N P for.
    let (changes, can, row) = is_merged c.requires.held.1.balanced.unique for c.segment-segment.ensures (not_so c.same_word.ensures c.if-same_word.false) (sym c.merges.ensures ∙ c.if-not-merges.false) (not_err c.changed.result c.if-is_err.ensures.value (c.changed.ensures.wide B N for.base_for for.mine_for)) c.join_changes.new.changes c.as_slice.result.now c.as_slice.ensures.pairs (c.if-not-join_changes.ensures.joined B (differences B N) P (can_change c.requires.held.1.balanced.unique for c.segment-segment.ensures (not_so c.same_word.ensures c.if-same_word.false) (sym c.merges.ensures ∙ c.if-not-merges.false) c.changed.new.out (at_ok c.changed.result c.if-is_err.ensures.value c.changed.ensures.differences B N for.base_for for.mine_for)) (present c.requires.held.1.balanced.unique for c.segment-segment.ensures)) in
    updates_by (mcas kind B N P) (merged (with P changes)) row (updates P changes can)) c.install.ensures.updates

pub returns-clause-full : goal.returns-clause-full
returns-clause-full g c = λ kind B N P for.
    let (changes, can, row) = is_merged c.requires.held.1.balanced.unique for c.segment-segment.ensures (not_so c.same_word.ensures c.if-same_word.false) (sym c.merges.ensures ∙ c.if-not-merges.false) (not_err c.changed.result c.if-is_err.ensures.value (c.changed.ensures.wide B N for.base_for for.mine_for)) c.join_changes.new.changes c.as_slice.result.now c.as_slice.ensures.pairs (c.if-not-join_changes.ensures.joined B (differences B N) P (can_change c.requires.held.1.balanced.unique for c.segment-segment.ensures (not_so c.same_word.ensures c.if-same_word.false) (sym c.merges.ensures ∙ c.if-not-merges.false) c.changed.new.out (at_ok c.changed.result c.if-is_err.ensures.value c.changed.ensures.differences B N for.base_for for.mine_for)) (present c.requires.held.1.balanced.unique for c.segment-segment.ensures)) in
    full_by (g.M.HoldCounts.memory c.args.mem.now) (mcas kind B N P) (merged (with P changes)) row (c.install.ensures.full P changes can)

pub returns-clause-looks : goal.returns-clause-looks
returns-clause-looks g c = λ kind B N P for.
    let (changes, can, row) = is_merged c.requires.held.1.balanced.unique for c.segment-segment.ensures (not_so c.same_word.ensures c.if-same_word.false) (sym c.merges.ensures ∙ c.if-not-merges.false) (not_err c.changed.result c.if-is_err.ensures.value (c.changed.ensures.wide B N for.base_for for.mine_for)) c.join_changes.new.changes c.as_slice.result.now c.as_slice.ensures.pairs (c.if-not-join_changes.ensures.joined B (differences B N) P (can_change c.requires.held.1.balanced.unique for c.segment-segment.ensures (not_so c.same_word.ensures c.if-same_word.false) (sym c.merges.ensures ∙ c.if-not-merges.false) c.changed.new.out (at_ok c.changed.result c.if-is_err.ensures.value c.changed.ensures.differences B N for.base_for for.mine_for)) (present c.requires.held.1.balanced.unique for c.segment-segment.ensures)) in
    merged_looks c.requires.held.1.balanced.unique for c.segment-segment.ensures (not_so c.same_word.ensures c.if-same_word.false) (sym c.merges.ensures ∙ c.if-not-merges.false) (length c.changed.new.out) _ _ changes (pairs_few c.requires.held.1.balanced.unique for c.segment-segment.ensures (not_so c.same_word.ensures c.if-same_word.false) (sym c.merges.ensures ∙ c.if-not-merges.false) c.changed.new.out (not_err c.changed.result c.if-is_err.ensures.value (c.changed.ensures.wide B N for.base_for for.mine_for)) (at_ok c.changed.result c.if-is_err.ensures.value c.changed.ensures.differences B N for.base_for for.mine_for)) (rw (c.as_slice.ensures.pairs, c.join_changes.ensures.few) (pairs_few c.requires.held.1.balanced.unique for c.segment-segment.ensures (not_so c.same_word.ensures c.if-same_word.false) (sym c.merges.ensures ∙ c.if-not-merges.false) c.changed.new.out (not_err c.changed.result c.if-is_err.ensures.value (c.changed.ensures.wide B N for.base_for for.mine_for)) (at_ok c.changed.result c.if-is_err.ensures.value c.changed.ensures.differences B N for.base_for for.mine_for))) row (c.changed.ensures.looks B N for.base_for for.mine_for) c.join_changes.ensures.looks (c.install.ensures.looks P changes can)
