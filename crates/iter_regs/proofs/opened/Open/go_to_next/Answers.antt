use Rattle.std.proofs.Common.{None, Some, refl}
use Rattle.iter_regs.proofs.Going.{searched_as}
use Rattle.iter_regs.proofs.opened.Open.go_to_next.Goals as goal

pub returns-in-None-clause-search : goal.returns-in-None-clause-search
returns-in-None-clause-search g c = λ A L for. searched_as _ c.args.self.now _ None _ (c.in-None.ensures.next A L for.can_apply for.cursor) (record {
  segment = refl;
  position = refl;
  pairs = refl;
  root = c.next_in_view.ensures.root;
  cursor = c.next_in_view.ensures.cursor;
})

pub returns-in-None-clause-looks : goal.returns-in-None-clause-looks
returns-in-None-clause-looks g c = λ A L for. c.next_in_view.ensures.looks A L for.can_apply for.cursor

pub returns-in-Some-clause-search : goal.returns-in-Some-clause-search
returns-in-Some-clause-search g c = λ A L for. searched_as _ c.args.self.now _ (Some c.in-Some.offset) _ (c.in-Some.ensures.next A L for.can_apply for.cursor) (record {
  segment = refl;
  position = refl;
  pairs = refl;
  root = c.next_in_view.ensures.root;
  cursor = c.next_in_view.ensures.cursor;
})

pub returns-in-Some-clause-looks : goal.returns-in-Some-clause-looks
returns-in-Some-clause-looks g c = λ A L for. c.next_in_view.ensures.looks A L for.can_apply for.cursor
