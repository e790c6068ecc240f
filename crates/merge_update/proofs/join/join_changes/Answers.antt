use Rattle.std.proofs.Common.{◌+◌, ◌∙◌, drop, get_or, length, refl, sym, take, arith}
use Rattle.merge_update.proofs.Rounds.{joining_first, read_looks, round_looks, round_none, round_some}
use Rattle.merge_update.proofs.InPlace.{all_in_place, as_many, joined_in_place, left_first, looks_within, past_all, still_below}
use Rattle.merge_update.proofs.join.join_changes.Goals as goal

pub loop-k-init : goal.loop-k-init
loop-k-init g c = record {
  joining = λ B D P can present. joining_first (g.M.HoldCounts.memory c.args.mem.now) c.args.segment.kind (λ cs. cs) B D P c.args.base c.args.changes.now _ can refl;
  few = refl;
  looks = (omega arith, omega arith);
}

pub bounds-as_slice-k : goal.bounds-as_slice-k
bounds-as_slice-k g c = rw c.as_slice-in-loop-k.ensures.pairs (still_below c.loop-k.changes c.as_slice.ensures.pairs c.loop-k.invariant.few c.loop-k-test.true)

pub set_word-requires : goal.set_word-requires
set_word-requires g c = (still_below c.loop-k.changes c.as_slice.ensures.pairs c.loop-k.invariant.few c.loop-k-test.true)

pub returns-in-None-clause-joined : goal.returns-in-None-clause-joined
returns-in-None-clause-joined g c = λ B D P can present.
    round_none (g.M.HoldCounts.memory c.args.mem.now) c.args.segment.kind (λ cs. cs) B D P can.root_for.valid present.valid (drop c.loop-k.k c.loop-k.changes) (get_or c.as_slice-in-loop-k.result.now c.loop-k.k _) (drop (c.loop-k.k + 1) c.loop-k.changes) (take c.loop-k.k c.loop-k.changes) (left_first c.loop-k.changes c.as_slice-in-loop-k.result.now c.loop-k.k _ c.as_slice-in-loop-k.ensures.pairs (still_below c.loop-k.changes c.as_slice.ensures.pairs c.loop-k.invariant.few c.loop-k-test.true)) (c.loop-k.invariant.joining B D P can present) c.read-old.result (c.read-old.ensures.value B can.root_for)
    (λ p rest mine was. refl) c.read-present.result (c.read-present.ensures.value P present) (λ v u t d e f. c.in-None.ensures (g.M.HoldCounts.memory c.args.mem.now) v u t c.requires.held.1.balanced.unique d e f)

pub returns-in-None-clause-looks : goal.returns-in-None-clause-looks
returns-in-None-clause-looks g c = looks_within (length c.args.changes.now) (c.loop-k.k + 1) (c.args.base.height + c.args.segment.root.height) (rw (sym c.as_slice.ensures.pairs) (let low = c.loop-k-test.true in omega (arith, low)))
    (round_looks c.loop-k.k c.args.base.height c.args.segment.root.height c.loop-k.invariant.looks (read_looks _ _ (c.read-old.ensures.looks c.requires.changes.0 c.requires.changes.2.root_for) c.read-old.ensures.height) (read_looks _ _ (c.read-present.ensures.looks c.requires.present.0 c.requires.present.1) c.read-present.ensures.height))

pub loop-k-preserved : goal.loop-k-preserved
loop-k-preserved g c = rw c.set_word.ensures (record {
  joining = λ B D P can present. joined_in_place c.loop-k.changes c.as_slice-in-loop-k.result.now c.loop-k.k c.in-Some.word _ c.as_slice-in-loop-k.ensures.pairs (still_below c.loop-k.changes c.as_slice.ensures.pairs c.loop-k.invariant.few c.loop-k-test.true)
      (round_some (g.M.HoldCounts.memory c.args.mem.now) c.args.segment.kind (λ cs. cs) B D P can.root_for.valid present.valid (drop c.loop-k.k c.loop-k.changes) (get_or c.as_slice-in-loop-k.result.now c.loop-k.k _) (drop (c.loop-k.k + 1) c.loop-k.changes) (take c.loop-k.k c.loop-k.changes) (left_first c.loop-k.changes c.as_slice-in-loop-k.result.now c.loop-k.k _ c.as_slice-in-loop-k.ensures.pairs (still_below c.loop-k.changes c.as_slice.ensures.pairs c.loop-k.invariant.few c.loop-k-test.true)) (c.loop-k.invariant.joining B D P can present) c.read-old.result (c.read-old.ensures.value B can.root_for)
      (λ p rest mine was. refl) c.read-present.result (c.read-present.ensures.value P present) c.in-Some.word (λ v u t d e f. c.in-Some.ensures (g.M.HoldCounts.memory c.args.mem.now) v u t c.requires.held.1.balanced.unique d e f));
  few = as_many c.loop-k.changes c.loop-k.k c.in-Some.word ∙ c.loop-k.invariant.few;
  looks = round_looks c.loop-k.k c.args.base.height c.args.segment.root.height c.loop-k.invariant.looks (read_looks _ _ (c.read-old.ensures.looks c.requires.changes.0 c.requires.changes.2.root_for) c.read-old.ensures.height) (read_looks _ _ (c.read-present.ensures.looks c.requires.present.0 c.requires.present.1) c.read-present.ensures.height);
})

pub returns-clause-joined : goal.returns-clause-joined
returns-clause-joined g c = λ B D P can present. all_in_place c.loop-k.changes c.loop-k.k refl (past_all c.loop-k.changes c.as_slice.ensures.pairs c.loop-k.invariant.few c.loop-k-test.false) (c.loop-k.invariant.joining B D P can present)

pub returns-clause-looks : goal.returns-clause-looks
returns-clause-looks g c = looks_within (length c.args.changes.now) c.loop-k.k (c.args.base.height + c.args.segment.root.height) (rw (sym c.as_slice.ensures.pairs) c.loop-k.auto.k-end) c.loop-k.invariant.looks
