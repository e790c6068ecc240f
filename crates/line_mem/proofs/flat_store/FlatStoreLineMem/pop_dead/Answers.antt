use Rattle.std.proofs.Common.{◌≡◌, ◌∷◌, [], sym, ◌∙◌, ap, subst, arith, rules, Some, length, reverse}
use Rattle.std.proofs.lemmas.List.{append-nil, reverse-append}
use Rattle.std.specs.Prelude.{count_by}
use Rattle.hic_word.specs.Lists.{times}
use Rattle.hic_word.specs.Stands.{Unique}
use Rattle.line_mem.specs.Places.{counts_of, dead_at, line_of, is_dead, is_taken}
use Rattle.line_mem.proofs.StoreSteps.{popped_count, popped_live, whole, take_each, take_memory}
use Rattle.std.specs.FinMap as map
use Rattle.line_mem.proofs.DeadIds.{dead_count}
use Rattle.line_mem.proofs.OneLine.{take_unique}
use Rattle.line_mem.proofs.flat_store.FlatStoreLineMem.pop_dead.Goals as goal

pub invariant_of-self-clause-dead_each : goal.invariant_of-self-clause-dead_each
invariant_of-self-clause-dead_each g c =
    let len : length c.take_line-line.new.slots ≡ length c.args.self.now.slots.items = omega (arith, ap length c.deref_mut.ensures.value) in
    let same = whole c.args.self.now.slots.len c.take_line-line.new.slots c.args.self.now.slots.items c.args.self.now.slots.ok.0 len in
    λ q. take_each c.args.self.now.slots.items c.deref_mut.result.now c.take_line-line.new.slots c.in-Some.at c.args.self.now.dead.items c.pop.new.self.items c.deref_mut.ensures.value c.take_line-line.ensures.counts c.in-Some.ensures.items c.args.self.now.dead_each q ∙ ap (λ ss. dead_at ss q) (sym same)

pub invariant_of-self-clause-unique : goal.invariant_of-self-clause-unique
invariant_of-self-clause-unique g c =
    let len : length c.take_line-line.new.slots ≡ length c.args.self.now.slots.items = omega (arith, ap length c.deref_mut.ensures.value) in
    let same = whole c.args.self.now.slots.len c.take_line-line.new.slots c.args.self.now.slots.items c.args.self.now.slots.ok.0 len in
    subst (λ ss. Unique (line_of ss)) (sym same) (take_unique c.args.self.now.slots.items c.deref_mut.result.now c.take_line-line.new.slots c.in-Some.at c.deref_mut.ensures.value c.take_line-line.ensures.lines c.args.self.now.unique)

pub returns-in-Some-clause-some : goal.returns-in-Some-clause-some
returns-in-Some-clause-some g c =
    let len : length c.take_line-line.new.slots ≡ length c.args.self.now.slots.items = omega (arith, ap length c.deref_mut.ensures.value) in
    let same = whole c.args.self.now.slots.len c.take_line-line.new.slots c.args.self.now.slots.items c.args.self.now.slots.ok.0 len in (
      c.in-Some.at,
      reverse c.pop.new.self.items,
      ap reverse c.in-Some.ensures.items ∙ reverse-append c.pop.new.self.items (c.in-Some.at ∷ []),
      ap (λ ss. line_of ss c.in-Some.at) (sym c.deref_mut.ensures.value) ∙ c.take_line-line.ensures.line,
      take_memory c.args.self.now.slots.items c.deref_mut.result.now c.take_line-line.new.slots _ c.in-Some.at _ c.pop.new.self.items c.args.self.now.dead.items c.deref_mut.ensures.value same c.take_line-line.ensures.lines c.take_line-line.ensures.counts,
    )

pub invariant_of-self-clause-dead_count : goal.invariant_of-self-clause-dead_count
invariant_of-self-clause-dead_count g c =
    let len : length c.take_line-line.new.slots ≡ length c.args.self.now.slots.items = omega (arith, ap length c.deref_mut.ensures.value) in
    let same = whole c.args.self.now.slots.len c.take_line-line.new.slots c.args.self.now.slots.items c.args.self.now.slots.ok.0 len in
    popped_count c.args.self.now.slots.items c.deref_mut.result.now c.take_line-line.new.slots _ _ c.deref_mut.ensures.value c.take_line-line.ensures.dead c.in-Some.ensures.cases c.args.self.now.dead_count ∙ ap (count_by is_dead) (sym same)

pub invariant_of-self-clause-live_count : goal.invariant_of-self-clause-live_count
invariant_of-self-clause-live_count g c =
    let len : length c.take_line-line.new.slots ≡ length c.args.self.now.slots.items = omega (arith, ap length c.deref_mut.ensures.value) in
    let same = whole c.args.self.now.slots.len c.take_line-line.new.slots c.args.self.now.slots.items c.args.self.now.slots.ok.0 len in
    popped_live c.args.self.now.slots.items c.deref_mut.result.now c.take_line-line.new.slots _ c.deref_mut.ensures.value c.take_line-line.ensures.taken c.args.self.now.live_count ∙ ap (count_by is_taken) (sym same)

pub take_line-line-requires : goal.take_line-line-requires
take_line-line-requires g c =
    let s = c.args.self.now in
    let wide = s.wide in
    let dead : map.get (counts_of c.deref_mut.result.now) c.in-Some.at ≡ Some 0 = ap (λ ss. map.get (counts_of ss) c.in-Some.at) c.deref_mut.ensures.value ∙ dead_count (counts_of s.slots.items) c.in-Some.at s.dead.items c.pop.new.self.items c.in-Some.ensures.items s.dead_each in
    (search rules, (search rules, (wide, dead)))

pub invariant_of-self-in-None : goal.invariant_of-self-in-None
invariant_of-self-in-None g c =
    let s = c.args.self.now in
    let items : s.dead.items ≡ c.pop.new.self.items = c.in-None.ensures.items ∙ append-nil c.pop.new.self.items in
    record {
      wide = s.wide;
      sized = s.sized;
      room = search rules;
      dead_count = c.pop.new.self.ok.0 ∙ sym (ap length items) ∙ sym s.dead.ok.0 ∙ s.dead_count;
      live_count = s.live_count;
      dead_each = λ q. ap (times q) (sym items) ∙ s.dead_each q;
      unique = s.unique;
    }
