use Rattle.std.proofs.Common.{◌≡◌, ◌<◌, length, get_or, refl, sym, ◌∙◌, ap, subst, arith}
use Rattle.std.proofs.lemmas.Iterator.Adapters.{YieldsList-from_vec}
use Rattle.std.proofs.lemmas.Iterator.Consumers.{YieldsList-end, YieldsList-turn}
use Rattle.std.proofs.lemmas.List.{length_push}
use Rattle.hic_machine.proofs.Filling.{filled_first, filled_fits, filled_last, fills_next, lists_few, lists_long, overflows_alike}
use Rattle.hic_machine.proofs.loading.fill.Goals as goal

pub loop-list-init : goal.loop-list-init
loop-list-init g c = record {
  filled = λ o can. filled_first (g.M.HoldCounts.memory c.args.mem.now) c.args.segments.now o can.held can.empty;
  count = refl;
  layout = refl;
  looks = omega arith;
}

pub fill_one-requires : goal.fill_one-requires
fill_one-requires g c =
    let (o, can) = c.requires in
    let vec = c.into_iter-list-iterator.ensures.into_iter_gives in
    let turn = YieldsList-turn (YieldsList-from_vec {s = c.into_iter-list-iterator.result} c.args.writes.items vec.0 (vec.1 ∙ c.args.writes.ok.0)) c.loop-list.yielded c.loop-list.list-iterator c.loop-list.yielded_by c.next.result c.next.new.self c.in-Some.list c.in-Some.is c.next.ensures.steps in
    let number : length c.loop-list.yielded ≡ c.loop-list.vsid = sym c.loop-list.invariant.count in
    let low : c.loop-list.vsid < length c.args.writes.items = subst (λ n. n < length c.args.writes.items) number turn.0 in
    let is : c.in-Some.list ≡ get_or c.args.writes.items c.loop-list.vsid c.in-Some.list = turn.1 ∙ ap (λ n. get_or c.args.writes.items n c.in-Some.list) number in
    (o, fills_next (g.M.HoldCounts.memory c.args.mem.now) (g.M.HoldCounts.memory c.loop-list.mem) c.args.segments.now c.loop-list.segments o c.args.writes.items can c.loop-list.vsid (c.loop-list.invariant.filled o can) c.in-Some.list low is)

pub overflow_add-vsid : goal.overflow_add-vsid
overflow_add-vsid g c =
    let (o, can) = c.requires in
    let vec = c.into_iter-list-iterator.ensures.into_iter_gives in
    let turn = YieldsList-turn (YieldsList-from_vec {s = c.into_iter-list-iterator.result} c.args.writes.items vec.0 (vec.1 ∙ c.args.writes.ok.0)) c.loop-list.yielded c.loop-list.list-iterator c.loop-list.yielded_by c.next.result c.next.new.self c.in-Some.list c.in-Some.is c.next.ensures.steps in
    let number : length c.loop-list.yielded ≡ c.loop-list.vsid = sym c.loop-list.invariant.count in
    let low : c.loop-list.vsid < length c.args.writes.items = subst (λ n. n < length c.args.writes.items) number turn.0 in
    let is : c.in-Some.list ≡ get_or c.args.writes.items c.loop-list.vsid c.in-Some.list = turn.1 ∙ ap (λ n. get_or c.args.writes.items n c.in-Some.list) number in
    let few = lists_few (g.M.HoldCounts.memory c.args.mem.now) (g.M.HoldCounts.memory c.loop-list.mem) c.args.segments.now c.loop-list.segments o c.args.writes.items can c.loop-list.vsid (c.loop-list.invariant.filled o can) in
    omega (arith, low, few)

pub loop-list-preserved : goal.loop-list-preserved
loop-list-preserved g c =
    let vec = c.into_iter-list-iterator.ensures.into_iter_gives in
    let turn = YieldsList-turn (YieldsList-from_vec {s = c.into_iter-list-iterator.result} c.args.writes.items vec.0 (vec.1 ∙ c.args.writes.ok.0)) c.loop-list.yielded c.loop-list.list-iterator c.loop-list.yielded_by c.next.result c.next.new.self c.in-Some.list c.in-Some.is c.next.ensures.steps in
    let number : length c.loop-list.yielded ≡ c.loop-list.vsid = sym c.loop-list.invariant.count in
    let low : c.loop-list.vsid < length c.args.writes.items = subst (λ n. n < length c.args.writes.items) number turn.0 in
    let is : c.in-Some.list ≡ get_or c.args.writes.items c.loop-list.vsid c.in-Some.list = turn.1 ∙ ap (λ n. get_or c.args.writes.items n c.in-Some.list) number in
    let before = c.loop-list.invariant.looks in
    let looks = c.in_ok-fill_one.ensures.looks in
    let more = length_push c.loop-list.yielded c.in-Some.list in
    record {
      filled = λ o can. c.in_ok-fill_one.ensures.filled o (fills_next (g.M.HoldCounts.memory c.args.mem.now) (g.M.HoldCounts.memory c.loop-list.mem) c.args.segments.now c.loop-list.segments o c.args.writes.items can c.loop-list.vsid (c.loop-list.invariant.filled o can) c.in-Some.list low is);
      count = omega (arith, number, more);
      layout = c.in_ok-fill_one.ensures.layout ∙ c.loop-list.invariant.layout;
      looks = omega (arith, before, looks);
    }

pub returns-in_err-fill_one-clause-full : goal.returns-in_err-fill_one-clause-full
returns-in_err-fill_one-clause-full g c = λ o can.
    let vec = c.into_iter-list-iterator.ensures.into_iter_gives in
    let turn = YieldsList-turn (YieldsList-from_vec {s = c.into_iter-list-iterator.result} c.args.writes.items vec.0 (vec.1 ∙ c.args.writes.ok.0)) c.loop-list.yielded c.loop-list.list-iterator c.loop-list.yielded_by c.next.result c.next.new.self c.in-Some.list c.in-Some.is c.next.ensures.steps in
    let number : length c.loop-list.yielded ≡ c.loop-list.vsid = sym c.loop-list.invariant.count in
    let low : c.loop-list.vsid < length c.args.writes.items = subst (λ n. n < length c.args.writes.items) number turn.0 in
    let is : c.in-Some.list ≡ get_or c.args.writes.items c.loop-list.vsid c.in-Some.list = turn.1 ∙ ap (λ n. get_or c.args.writes.items n c.in-Some.list) number in
    let over = c.in_err-fill_one.ensures.full o (fills_next (g.M.HoldCounts.memory c.args.mem.now) (g.M.HoldCounts.memory c.loop-list.mem) c.args.segments.now c.loop-list.segments o c.args.writes.items can c.loop-list.vsid (c.loop-list.invariant.filled o can) c.in-Some.list low is) in
    (λ _. overflows_alike (g.M.HoldCounts.memory c.loop-list.mem) (g.M.HoldCounts.memory c.args.mem.now) o (sym c.loop-list.invariant.layout) over, λ _. c.from_residual.ensures.0)

pub returns-clause-held : goal.returns-clause-held
returns-clause-held g c = let (o, can) = c.requires in (c.loop-list.invariant.filled o can).holds

pub returns-clause-segments : goal.returns-clause-segments
returns-clause-segments g c = λ o can.
    let vec = c.into_iter-list-iterator.ensures.into_iter_gives in
    let end = YieldsList-end (YieldsList-from_vec {s = c.into_iter-list-iterator.result} c.args.writes.items vec.0 (vec.1 ∙ c.args.writes.ok.0)) c.loop-list.yielded c.loop-list.list-iterator c.loop-list.yielded_by c.next.result c.next.new.self c.in-None.is c.next.ensures.steps in
    let all = end.1 in
    let number = c.loop-list.invariant.count in
    let filled = c.loop-list.invariant.filled o can in
    let long = lists_long (g.M.HoldCounts.memory c.args.mem.now) (g.M.HoldCounts.memory c.loop-list.mem) c.args.segments.now c.loop-list.segments o c.args.writes.items can c.loop-list.vsid filled in
    filled_last (g.M.HoldCounts.memory c.loop-list.mem) c.loop-list.segments o c.loop-list.vsid (omega (arith, all, number, long)) filled

pub returns-clause-full : goal.returns-clause-full
returns-clause-full g c = λ o can.
    let vec = c.into_iter-list-iterator.ensures.into_iter_gives in
    let end = YieldsList-end (YieldsList-from_vec {s = c.into_iter-list-iterator.result} c.args.writes.items vec.0 (vec.1 ∙ c.args.writes.ok.0)) c.loop-list.yielded c.loop-list.list-iterator c.loop-list.yielded_by c.next.result c.next.new.self c.in-None.is c.next.ensures.steps in
    let all = end.1 in
    let number = c.loop-list.invariant.count in
    let filled = c.loop-list.invariant.filled o can in
    let long = lists_long (g.M.HoldCounts.memory c.args.mem.now) (g.M.HoldCounts.memory c.loop-list.mem) c.args.segments.now c.loop-list.segments o c.args.writes.items can c.loop-list.vsid filled in
    let whole = filled_last (g.M.HoldCounts.memory c.loop-list.mem) c.loop-list.segments o c.loop-list.vsid (omega (arith, all, number, long)) filled in (
      (λ e. absurd cc),
      (λ more. absurd (filled_fits (g.M.HoldCounts.memory c.loop-list.mem) c.loop-list.segments o can.object (g.met.M.LineMem.sound c.loop-list.mem) filled.holds whole (overflows_alike (g.M.HoldCounts.memory c.args.mem.now) (g.M.HoldCounts.memory c.loop-list.mem) o c.loop-list.invariant.layout more))),
    )
