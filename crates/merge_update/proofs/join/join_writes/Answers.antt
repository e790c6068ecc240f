use Rattle.std.proofs.Common.{◌+◌, drop, get_or, refl, arith}
use Rattle.std.proofs.lemmas.List.{drop_all, drop_more}
use Rattle.segment_map.specs.Merging.{effective}
use Rattle.merge_update.proofs.Joining.{not_so}
use Rattle.merge_update.proofs.Rounds.{other_is_kept, same_is_skipped, joining_first, joining_last, one_longer, read_looks, round_looks, round_none, round_same, round_some}
use Rattle.merge_update.proofs.join.join_writes.Goals.{else-not-same_word, then-not-same_word+in-Some}
use Rattle.merge_update.proofs.join.join_writes.Goals as goal

pub loop-write-init : goal.loop-write-init
loop-write-init g c = record {
  joining = λ S W P can present. joining_first _ c.args.segment.kind (effective S) S W P c.args.snapshot c.args.writes.now _ can c.requires.empty;
  few = rw c.requires.empty (omega arith);
  looks = (omega arith, omega arith);
}

pub returns-in-None-clause-joined : goal.returns-in-None-clause-joined
returns-in-None-clause-joined g c = λ S W P can present.
    round_none (g.M.HoldCounts.memory c.args.mem.now) c.args.segment.kind (effective S) S W P can.root_for.valid present.valid (drop c.loop-write.write-index c.args.writes.now) (get_or c.args.writes.now c.loop-write.write-index _) (drop (c.loop-write.write-index + 1) c.args.writes.now) c.loop-write.joined.items (drop_more _ _ _ c.loop-write-test.true) (c.loop-write.invariant.joining S W P can present) c.read-old.result (c.read-old.ensures.value S can.root_for)
    (other_is_kept (g.M.HoldCounts.memory c.args.mem.now) c.requires.held.1.balanced.unique S (get_or c.args.writes.now c.loop-write.write-index _) c.read-old.result (not_so c.same_word.ensures c.if-not-same_word.true)) c.read-present.result (c.read-present.ensures.value P present) (λ v u t d e f. c.in-None.ensures (g.M.HoldCounts.memory c.args.mem.now) v u t c.requires.held.1.balanced.unique d e f)

pub loop-write-preserved : goal.loop-write-preserved
loop-write-preserved g c = elim c.if-not-same_word.branch [
  | then-not-same_word+in-Some w ↦ rw (w.joined-is, w.steps-is, w.push.ensures.items) (record {
    joining = λ S W P can present.
        round_some (g.M.HoldCounts.memory c.args.mem.now) c.args.segment.kind (effective S) S W P can.root_for.valid present.valid (drop c.loop-write.write-index c.args.writes.now) (get_or c.args.writes.now c.loop-write.write-index _) (drop (c.loop-write.write-index + 1) c.args.writes.now) c.loop-write.joined.items (drop_more _ _ _ c.loop-write-test.true) (c.loop-write.invariant.joining S W P can present) c.read-old.result (c.read-old.ensures.value S can.root_for)
        (other_is_kept (g.M.HoldCounts.memory c.args.mem.now) c.requires.held.1.balanced.unique S (get_or c.args.writes.now c.loop-write.write-index _) c.read-old.result (not_so c.same_word.ensures w.if-not-same_word.true)) w.read-present.result (w.read-present.ensures.value P present) w.in-Some.word (λ v u t d e f. w.in-Some.ensures (g.M.HoldCounts.memory c.args.mem.now) v u t c.requires.held.1.balanced.unique d e f);
    few = one_longer c.loop-write.joined.items _ c.loop-write.write-index c.loop-write.invariant.few;
    looks = round_looks c.loop-write.write-index c.args.snapshot.height c.args.segment.root.height c.loop-write.invariant.looks (read_looks _ _ (c.read-old.ensures.looks c.requires.writes.0 c.requires.writes.2.root_for) c.read-old.ensures.height) (read_looks _ _ (w.read-present.ensures.looks c.requires.present.0 c.requires.present.1) w.read-present.ensures.height);
  })
  | else-not-same_word w ↦ rw (w.joined-is, w.steps-is) (record {
    joining = λ S W P can present.
        round_same (g.M.HoldCounts.memory c.args.mem.now) c.args.segment.kind (effective S) S W P can.root_for.valid present.valid (drop c.loop-write.write-index c.args.writes.now) (get_or c.args.writes.now c.loop-write.write-index _) (drop (c.loop-write.write-index + 1) c.args.writes.now) c.loop-write.joined.items (drop_more _ _ _ c.loop-write-test.true) (c.loop-write.invariant.joining S W P can present) c.read-old.result (c.read-old.ensures.value S can.root_for) (same_is_skipped (g.M.HoldCounts.memory c.args.mem.now) c.requires.held.1.balanced.unique S (get_or c.args.writes.now c.loop-write.write-index _) c.read-old.result (c.same_word.ensures.0 w.if-not-same_word.false));
    few = (let few = c.loop-write.invariant.few in omega (arith, few));
    looks = round_looks c.loop-write.write-index c.args.snapshot.height c.args.segment.root.height c.loop-write.invariant.looks (read_looks _ _ (c.read-old.ensures.looks c.requires.writes.0 c.requires.writes.2.root_for) c.read-old.ensures.height) (omega arith, omega arith);
  })
]

pub returns-clause-joined : goal.returns-clause-joined
returns-clause-joined g c = λ S W P can present. joining_last _ c.args.segment.kind (effective S) S W P (drop c.loop-write.write-index c.args.writes.now) c.loop-write.joined.items refl (drop_all c.loop-write.write-index c.args.writes.now (omega arith)) (c.loop-write.invariant.joining S W P can present)
