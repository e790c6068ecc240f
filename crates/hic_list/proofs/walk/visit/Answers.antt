use Rattle.std.proofs.Common.{◌≡◌, ℕ, ◌++◌, ◌∷◌, [], List, Option, None, Some, length, reverse, inl, inr, refl, sym, ◌∙◌, ap, subst, append-nil, arith, rules}
use Rattle.std.proofs.lemmas.Grind.{common_steps}
use Rattle.std.proofs.lemmas.List.{length-append, length-reverse}
use Rattle.hic_word.specs.Names.{names_in}
use Rattle.hic_word.specs.Values.{Array}
use Rattle.hic_list.specs.Walks.{IsUnderWay}
use Rattle.hic_list.specs.Words.{number_of}
use Rattle.hic_list.proofs.Numbered.{ends, gets_a_number, goes_on, has_room, line_length, next_is_live, starts}
use Rattle.hic_list.proofs.Turning.{names_few, none_of, some_of}
use Rattle.hic_list.proofs.walk.visit.Goals as goal

pub loop-id-init : goal.loop-id-init
loop-id-init g c = record {
  under_way = λ R k next.
      let m = g.S.HoldCounts.memory c.args.mem.now in
      let put = c.in_ok-wait_for.ensures ∙ ap (λ ws. ws ++ reverse (names_in (c.args.root ∷ []))) c.requires.none in
      subst (λ ws. IsUnderWay m R k c.args.numbers.now ws) (sym put) (starts m (inr (inl refl)) R k c.args.numbers.now c.args.root next);
  looks = refl;
}

pub add-requires-clause-few : goal.add-requires-clause-few
add-requires-clause-few g c =
    let m = g.S.HoldCounts.memory c.args.mem.now in
    let (R, k, next) = c.requires.next in
    let under = subst (λ ws. IsUnderWay m R k c.loop-id.numbers ws) c.in-Some.ensures.items (c.loop-id.invariant.under_way R k next) in
    let none = none_of c.number.result (number_of c.loop-id.numbers c.in-Some.id) c.number.ensures c.if-is_none.ensures in
    let room = has_room m (inr (inl refl)) R k next.lists c.loop-id.numbers c.pop.new.self.items c.in-Some.id under none in
    let sound = g.met.S.LineMem.sound c.args.mem.now in
    omega (arith, room, sound.room, sound.most)

pub line-requires : goal.line-requires
line-requires g c =
    let m = g.S.HoldCounts.memory c.args.mem.now in
    let (R, k, next) = c.requires.next in
    let under = subst (λ ws. IsUnderWay m R k c.loop-id.numbers ws) c.in-Some.ensures.items (c.loop-id.invariant.under_way R k next) in
    (omega arith, next_is_live m (inr (inl refl)) R k next.lists c.loop-id.numbers c.pop.new.self.items c.in-Some.id under)

pub loop-id-smaller-in-Continue-branch-3 : goal.loop-id-smaller-in-Continue-branch-3
loop-id-smaller-in-Continue-branch-3 g c =
    let m = g.S.HoldCounts.memory c.args.mem.now in
    let (R, k, next) = c.requires.next in
    let under = subst (λ ws. IsUnderWay m R k c.loop-id.numbers ws) c.in-Some.ensures.items (c.loop-id.invariant.under_way R k next) in
    let none = none_of c.number.result (number_of c.loop-id.numbers c.in-Some.id) c.number.ensures c.if-is_none.ensures in
    let room = has_room m (inr (inl refl)) R k next.lists c.loop-id.numbers c.pop.new.self.items c.in-Some.id under none in
    let words = line_length m (inr (inl refl)) R k next.lists c.line.result.w c.loop-id.numbers c.pop.new.self.items c.in-Some.id under c.line.ensures.line in
    let names = names_few c.line.result.w in
    let more = ap length c.in_ok-add.ensures ∙ length-append c.loop-id.numbers (c.in-Some.id ∷ []) in
    let waits = ap length c.in_ok-wait_for-2.ensures ∙ length-append c.pop.new.self.items (reverse (names_in c.line.result.w)) in
    let turned = length-reverse (names_in c.line.result.w) in
    let popped = ap length c.in-Some.ensures.items ∙ length-append c.pop.new.self.items (c.in-Some.id ∷ []) in
    omega (arith, room, words, names, more, waits, turned, popped)

pub loop-id-smaller : goal.loop-id-smaller
loop-id-smaller g c =
    let popped = ap length c.in-Some.ensures.items ∙ length-append c.pop.new.self.items (c.in-Some.id ∷ []) in
    omega (arith, popped)

pub loop-id-preserved-in-Continue-branch-3 : goal.loop-id-preserved-in-Continue-branch-3
loop-id-preserved-in-Continue-branch-3 g c = record {
  under_way = λ R k next.
      let m = g.S.HoldCounts.memory c.args.mem.now in
      let under = subst (λ ws. IsUnderWay m R k c.loop-id.numbers ws) c.in-Some.ensures.items (c.loop-id.invariant.under_way R k next) in
      let none = none_of c.number.result (number_of c.loop-id.numbers c.in-Some.id) c.number.ensures c.if-is_none.ensures in
      let new = gets_a_number m (inr (inl refl)) R k next.lists c.line.result.w c.loop-id.numbers c.pop.new.self.items c.in-Some.id under none c.line.ensures.line in
      subst (λ ids. IsUnderWay m R k ids c.wait_for-then-is_none.new.waiting.items) (sym c.in_ok-add.ensures) (subst (λ ws. IsUnderWay m R k (c.loop-id.numbers ++ c.in-Some.id ∷ []) ws) (sym c.in_ok-wait_for-2.ensures) new);
  looks =
      let more = ap length c.in_ok-add.ensures ∙ length-append c.loop-id.numbers (c.in-Some.id ∷ []) in
      let look = c.line.ensures.one_look in
      let before = c.loop-id.invariant.looks in
      omega (arith, more, look, before);
}

pub loop-id-preserved : goal.loop-id-preserved
loop-id-preserved g c = record {
  under_way = λ R k next.
      let m = g.S.HoldCounts.memory c.args.mem.now in
      let under = subst (λ ws. IsUnderWay m R k c.loop-id.numbers ws) c.in-Some.ensures.items (c.loop-id.invariant.under_way R k next) in
      let (n, some) = some_of c.number.result (number_of c.loop-id.numbers c.in-Some.id) c.number.ensures c.if-is_none.ensures in
      goes_on m (inr (inl refl)) R k next.lists n c.loop-id.numbers c.pop.new.self.items c.in-Some.id under some;
  looks = c.loop-id.invariant.looks;
}

pub returns-clause-numbered : goal.returns-clause-numbered
returns-clause-numbered g c = λ R k next.
    let m = g.S.HoldCounts.memory c.args.mem.now in
    let gone : c.pop.new.self.items ≡ [] = search rules in
    let none : c.loop-id.waiting.items ≡ [] = c.in_default.ensures.items ∙ append-nil c.pop.new.self.items ∙ gone in
    ends m (inr (inl refl)) R k c.loop-id.numbers (subst (λ ws. IsUnderWay m R k c.loop-id.numbers ws) none (c.loop-id.invariant.under_way R k next))
