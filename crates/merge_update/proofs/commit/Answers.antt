use Rattle.std.proofs.Common.{length, ◌∙◌, sym, arith}
use Rattle.std.proofs.lemmas.Result.{IfOk-weaker}
use Rattle.hic_word.specs.Changes.{with}
use Rattle.segment_map.specs.Merging.{commit, merged, swapped}
use Rattle.merge_update.proofs.Joining.{not_so}
use Rattle.merge_update.proofs.Replacing.{is_there}
use Rattle.merge_update.proofs.Cases.{full_by, never_full, nothing_new, updates_by}
use Rattle.merge_update.proofs.CommitCases.{is_none, is_now, is_plain, merged_looks, now_looks, present, stale_looks, stale_row}
use Rattle.merge_update.proofs.commit.Goals.{then-not-merges-via-else-not-merges+then-not-join_writes, then-not-merges-via-then-not-merges}
use Rattle.merge_update.proofs.commit.Goals as goal

-- the present array is the snapshot
pub returns-then-same_word-clause-updates : goal.returns-then-same_word-clause-updates
returns-then-same_word-clause-updates g c = IfOk-weaker c.install.result _ _ (λ answer updates kind S W P for.
    updates_by (commit kind S W P) (swapped (with S W)) (is_now c.requires.held.1.balanced.unique for c.segment-segment.ensures (c.same_word.ensures.0 c.if-same_word.true)) (updates S W for.writes_for)) c.install.ensures.updates

pub returns-then-same_word-clause-full : goal.returns-then-same_word-clause-full
returns-then-same_word-clause-full g c = λ kind S W P for.
    full_by (g.M.HoldCounts.memory c.args.mem.now) (commit kind S W P) (swapped (with S W)) (is_now c.requires.held.1.balanced.unique for c.segment-segment.ensures (c.same_word.ensures.0 c.if-same_word.true)) (c.install.ensures.full S W for.writes_for)

pub returns-then-same_word-clause-looks : goal.returns-then-same_word-clause-looks
returns-then-same_word-clause-looks g c = λ kind S W P for. now_looks c.requires.held.1.balanced.unique for c.segment-segment.ensures _ _ (c.same_word.ensures.0 c.if-same_word.true) (c.install.ensures.looks S W for.writes_for)

-- the segment is plain, or a write conflicts
pub returns-then-not-merges-clause-updates : goal.returns-then-not-merges-clause-updates
returns-then-not-merges-clause-updates g c = λ kind S W P for. nothing_new (commit kind S W P) (elim c.then-not-merges.branch [
  | then-not-merges-via-then-not-merges w ↦ is_plain c.requires.held.1.balanced.unique for c.segment-segment.ensures (not_so c.same_word.ensures c.if-same_word.false) (sym c.merges.ensures ∙ w.if-not-merges.true)
  | then-not-merges-via-else-not-merges+then-not-join_writes w ↦ is_none c.requires.held.1.balanced.unique for c.segment-segment.ensures (not_so c.same_word.ensures c.if-same_word.false) (sym c.merges.ensures ∙ w.if-not-merges.false) (w.if-not-join_writes.ensures.joined S W P for.writes_for (present c.requires.held.1.balanced.unique for c.segment-segment.ensures))
])

pub returns-then-not-merges-clause-full : goal.returns-then-not-merges-clause-full
returns-then-not-merges-clause-full g c = λ kind S W P for. never_full (g.M.HoldCounts.memory c.args.mem.now) (commit kind S W P) (elim c.then-not-merges.branch [
  | then-not-merges-via-then-not-merges w ↦ is_plain c.requires.held.1.balanced.unique for c.segment-segment.ensures (not_so c.same_word.ensures c.if-same_word.false) (sym c.merges.ensures ∙ w.if-not-merges.true)
  | then-not-merges-via-else-not-merges+then-not-join_writes w ↦ is_none c.requires.held.1.balanced.unique for c.segment-segment.ensures (not_so c.same_word.ensures c.if-same_word.false) (sym c.merges.ensures ∙ w.if-not-merges.false) (w.if-not-join_writes.ensures.joined S W P for.writes_for (present c.requires.held.1.balanced.unique for c.segment-segment.ensures))
])

pub returns-then-not-merges-clause-looks : goal.returns-then-not-merges-clause-looks
returns-then-not-merges-clause-looks g c = λ kind S W P for. elim c.then-not-merges.branch [
  | then-not-merges-via-then-not-merges w ↦ rw w.steps-is (stale_looks c.requires.held.1.balanced.unique for c.segment-segment.ensures (not_so c.same_word.ensures c.if-same_word.false) (length c.args.writes.now) _ (omega arith, omega arith))
  | then-not-merges-via-else-not-merges+then-not-join_writes w ↦ rw w.steps-is (stale_looks c.requires.held.1.balanced.unique for c.segment-segment.ensures (not_so c.same_word.ensures c.if-same_word.false) (length c.args.writes.now) _ w.join_writes.ensures.looks)
]

-- the writes are joined to the present array
pub install-requires-2-clause-there : goal.install-requires-2-clause-there
install-requires-2-clause-there g c = is_there c.args.segments.now c.args.vsid _ c.segment-segment.ensures

pub install-requires-2-clause-apply : goal.install-requires-2-clause-apply
install-requires-2-clause-apply g c =
    let (kind, S, W, P, for) = c.requires.commit in
    let (changes, can, row) = stale_row c.requires.held.1.balanced.unique for c.segment-segment.ensures (not_so c.same_word.ensures c.if-same_word.false) c.join_writes.new.joined.items c.as_slice.result.now c.as_slice.ensures.value (sym c.merges.ensures ∙ c.if-not-merges.false) (c.if-not-join_writes.ensures.joined S W P for.writes_for (present c.requires.held.1.balanced.unique for c.segment-segment.ensures)) in
    (P, changes, can)

pub returns-clause-updates : goal.returns-clause-updates
returns-clause-updates g c = IfOk-weaker c.install-2.result _ _ (λ answer updates kind S W P for.
    let (changes, can, row) = stale_row c.requires.held.1.balanced.unique for c.segment-segment.ensures (not_so c.same_word.ensures c.if-same_word.false) c.join_writes.new.joined.items c.as_slice.result.now c.as_slice.ensures.value (sym c.merges.ensures ∙ c.if-not-merges.false) (c.if-not-join_writes.ensures.joined S W P for.writes_for (present c.requires.held.1.balanced.unique for c.segment-segment.ensures)) in
    updates_by (commit kind S W P) (merged (with P changes)) row (updates P changes can)) c.install-2.ensures.updates

pub returns-clause-full : goal.returns-clause-full
returns-clause-full g c = λ kind S W P for.
    let (changes, can, row) = stale_row c.requires.held.1.balanced.unique for c.segment-segment.ensures (not_so c.same_word.ensures c.if-same_word.false) c.join_writes.new.joined.items c.as_slice.result.now c.as_slice.ensures.value (sym c.merges.ensures ∙ c.if-not-merges.false) (c.if-not-join_writes.ensures.joined S W P for.writes_for (present c.requires.held.1.balanced.unique for c.segment-segment.ensures)) in
    full_by (g.M.HoldCounts.memory c.args.mem.now) (commit kind S W P) (merged (with P changes)) row (c.install-2.ensures.full P changes can)

pub returns-clause-looks : goal.returns-clause-looks
returns-clause-looks g c = λ kind S W P for.
    let (changes, can, row) = stale_row c.requires.held.1.balanced.unique for c.segment-segment.ensures (not_so c.same_word.ensures c.if-same_word.false) c.join_writes.new.joined.items c.as_slice.result.now c.as_slice.ensures.value (sym c.merges.ensures ∙ c.if-not-merges.false) (c.if-not-join_writes.ensures.joined S W P for.writes_for (present c.requires.held.1.balanced.unique for c.segment-segment.ensures)) in
    merged_looks c.requires.held.1.balanced.unique for c.segment-segment.ensures (not_so c.same_word.ensures c.if-same_word.false) (length c.args.writes.now) _ _ changes (rw c.as_slice.ensures.value c.join_writes.ensures.few) row c.join_writes.ensures.looks (c.install-2.ensures.looks P changes can)
