use Rattle.std.proofs.Common.{◌+◌, ◌*◌, drop, get_or, ◌∙◌, subst, arith}
use Rattle.std.proofs.lemmas.List.{drop_all, drop_more}
use Rattle.hic_word.specs.declared.Word.{Word}
use Rattle.line_mem.specs.Looks.{LooksUpTo}
use Rattle.iter_regs.proofs.NextInView.{no_pairs, none_below, not_so, other_than, round_again, round_below, round_here, round_on, state_first, state_last, state_looks}
use Rattle.iter_regs.proofs.searching.next_in_view.Goals.{then-eq, else-eq}
use Rattle.iter_regs.proofs.searching.next_in_view.Goals as goal

pub offset_from-found-requires : goal.offset_from-found-requires
offset_from-found-requires g c = let (A, L, can, for) = c.requires in (A, for)

pub loop-pair-init : goal.loop-pair-init
loop-pair-init g c = record {
  root = c.offset_from-found.ensures.root;
  cursor = c.offset_from-found.ensures.cursor;
  state = λ A L can for. state_first _ c.args.cursor.now.root c.args.writes.now A L can c.args.from _ _ _ _ c.from-pair-items.ensures.pairs (c.offset_from-found.ensures.next A for) c.offset_from-found.ensures.looks;
  last = λ none. c.offset_from-found.ensures.last;
  near = λ none. c.offset_from-found.ensures.near;
}

pub returns-then-is_below-clause-next : goal.returns-then-is_below-clause-next
returns-then-is_below-clause-next g c = λ A L can for.
    let below = c.is_below.ensures.0 c.if-is_below.true in
    round_below _ c.args.cursor.now.root c.args.writes.now A L can c.args.from (drop c.loop-pair.pair-index c.from-pair-items.result.now) (get_or c.from-pair-items.result.now c.loop-pair.pair-index _) (drop (c.loop-pair.pair-index + 1) c.from-pair-items.result.now) c.loop-pair.found c.args.steps.now c.loop-pair.steps (drop_more _ _ _ c.loop-pair-test.true) (c.loop-pair.invariant.state A L can for) below.0 below.1 below.2

pub returns-then-is_below-clause-looks : goal.returns-then-is_below-clause-looks
returns-then-is_below-clause-looks g c = λ A L can for. state_looks _ c.args.cursor.now.root c.args.writes.now A L can c.args.from _ _ _ _ (c.loop-pair.invariant.state A L can for)

pub returns-then-not-is_zero-clause-next : goal.returns-then-not-is_zero-clause-next
returns-then-not-is_zero-clause-next g c = λ A L can for. round_here _ c.args.cursor.now.root c.args.writes.now A L can c.args.from (drop c.loop-pair.pair-index c.from-pair-items.result.now) (get_or c.from-pair-items.result.now c.loop-pair.pair-index _) (drop (c.loop-pair.pair-index + 1) c.from-pair-items.result.now) c.loop-pair.found c.args.steps.now c.loop-pair.steps (drop_more _ _ _ c.loop-pair-test.true) (c.loop-pair.invariant.state A L can for) (none_below c.is_below.ensures c.if-is_below.false) (not_so c.is_zero.ensures.word c.if-not-is_zero.true)

pub returns-then-not-is_zero-clause-last : goal.returns-then-not-is_zero-clause-last
returns-then-not-is_zero-clause-last g c = λ none. absurd (no_pairs _ c.args.writes.now c.args.from c.loop-pair.pair-index c.from-pair-items.ensures.pairs c.loop-pair-test.true none)

pub returns-then-not-is_zero-clause-looks : goal.returns-then-not-is_zero-clause-looks
returns-then-not-is_zero-clause-looks g c = λ A L can for. state_looks _ c.args.cursor.now.root c.args.writes.now A L can c.args.from _ _ _ _ (c.loop-pair.invariant.state A L can for)

pub returns-then-not-is_zero-clause-near : goal.returns-then-not-is_zero-clause-near
returns-then-not-is_zero-clause-near g c = λ none. absurd (no_pairs _ c.args.writes.now c.args.from c.loop-pair.pair-index c.from-pair-items.ensures.pairs c.loop-pair-test.true none)

pub offset_after-found-requires : goal.offset_after-found-requires
offset_after-found-requires g c = let (A, L, can, for) = c.requires in (A, c.loop-pair.invariant.cursor A for)

pub loop-pair-preserved : goal.loop-pair-preserved
loop-pair-preserved g c =
    let inv = c.loop-pair.invariant in
    elim c.if-eq.branch [
      | then-eq w ↦ rw (w.found-is, w.cursor-is, w.steps-is) (record {
        root = w.offset_after-found.ensures.root ∙ inv.root;
        cursor = λ A for. w.offset_after-found.ensures.cursor A (inv.cursor A for);
        state = λ A L can for. round_again _ c.args.cursor.now.root c.args.writes.now A L can c.args.from (drop c.loop-pair.pair-index c.from-pair-items.result.now) (get_or c.from-pair-items.result.now c.loop-pair.pair-index _) (drop (c.loop-pair.pair-index + 1) c.from-pair-items.result.now) c.loop-pair.found c.args.steps.now c.loop-pair.steps (drop_more _ _ _ c.loop-pair-test.true) (inv.state A L can for) _ _ (none_below c.is_below.ensures c.if-is_below.false) (c.is_zero.ensures.word.0 c.if-not-is_zero.false) (w.offset_after-found.ensures.next A (inv.cursor A for)) (subst (λ (x : Word). LooksUpTo (2 * x.height) c.loop-pair.steps w.offset_after-found.new.steps) inv.root w.offset_after-found.ensures.looks);
        last = λ none. absurd (no_pairs _ c.args.writes.now c.args.from c.loop-pair.pair-index c.from-pair-items.ensures.pairs c.loop-pair-test.true none);
        near = λ none. absurd (no_pairs _ c.args.writes.now c.args.from c.loop-pair.pair-index c.from-pair-items.ensures.pairs c.loop-pair-test.true none);
      })
      | else-eq w ↦ rw (w.found-is, w.cursor-is, w.steps-is) (record {
        root = inv.root;
        cursor = inv.cursor;
        state = λ A L can for. round_on _ c.args.cursor.now.root c.args.writes.now A L can c.args.from (drop c.loop-pair.pair-index c.from-pair-items.result.now) (get_or c.from-pair-items.result.now c.loop-pair.pair-index _) (drop (c.loop-pair.pair-index + 1) c.from-pair-items.result.now) c.loop-pair.found c.args.steps.now c.loop-pair.steps (drop_more _ _ _ c.loop-pair-test.true) (inv.state A L can for) (none_below c.is_below.ensures c.if-is_below.false) (c.is_zero.ensures.word.0 c.if-not-is_zero.false) (other_than c.eq.ensures w.if-eq.false);
        last = inv.last;
        near = inv.near;
      })
    ]

pub returns-clause-next : goal.returns-clause-next
returns-clause-next g c = λ A L can for. state_last _ c.args.cursor.now.root c.args.writes.now A L can c.args.from _ _ _ _ (drop_all c.loop-pair.pair-index c.from-pair-items.result.now (omega arith)) (c.loop-pair.invariant.state A L can for)

pub returns-clause-looks : goal.returns-clause-looks
returns-clause-looks g c = λ A L can for. state_looks _ c.args.cursor.now.root c.args.writes.now A L can c.args.from _ _ _ _ (c.loop-pair.invariant.state A L can for)
