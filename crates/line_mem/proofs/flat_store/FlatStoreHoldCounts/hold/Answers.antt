use Rattle.std.proofs.Common.{◌≡◌, sym, ◌∙◌, ap, subst, arith, length}
use Rattle.std.specs.Prelude.{count_by}
use Rattle.hic_word.specs.Stands.{Unique}
use Rattle.line_mem.specs.Places.{dead_at, line_of, is_dead, is_taken}
use Rattle.line_mem.proofs.StoreSteps.{whole, hold_dead, hold_count}
use Rattle.line_mem.proofs.OneLine.{unique_kept}
use Rattle.line_mem.proofs.flat_store.FlatStoreHoldCounts.hold.Goals as goal

pub invariant_of-self-clause-dead_each : goal.invariant_of-self-clause-dead_each
invariant_of-self-clause-dead_each g c =
    let len : length c.set_count.new.slots ≡ length c.args.self.now.slots.items = omega (arith, ap length c.deref_mut.ensures.value) in
    let same = whole c.args.self.now.slots.len c.set_count.new.slots c.args.self.now.slots.items c.args.self.now.slots.ok.0 len in
    λ q. c.args.self.now.dead_each q ∙ sym (hold_dead c.args.self.now.slots.items c.deref.result.now c.deref_mut.result.now c.set_count.new.slots c.args.id c.get-at.result c.count_here-count.result c.deref.ensures.value c.deref_mut.ensures.value c.get-at.ensures.value c.count_here-count.ensures c.requires.live c.set_count.ensures.counts q) ∙ ap (λ ss. dead_at ss q) (sym same)

pub invariant_of-self-clause-unique : goal.invariant_of-self-clause-unique
invariant_of-self-clause-unique g c =
    let len : length c.set_count.new.slots ≡ length c.args.self.now.slots.items = omega (arith, ap length c.deref_mut.ensures.value) in
    let same = whole c.args.self.now.slots.len c.set_count.new.slots c.args.self.now.slots.items c.args.self.now.slots.ok.0 len in
    subst (λ ss. Unique (line_of ss)) (sym same) (unique_kept c.args.self.now.slots.items c.deref_mut.result.now c.set_count.new.slots c.deref_mut.ensures.value c.set_count.ensures.lines c.args.self.now.unique)

pub invariant_of-self-clause-live_count : goal.invariant_of-self-clause-live_count
invariant_of-self-clause-live_count g c =
    let len : length c.set_count.new.slots ≡ length c.args.self.now.slots.items = omega (arith, ap length c.deref_mut.ensures.value) in
    let same = whole c.args.self.now.slots.len c.set_count.new.slots c.args.self.now.slots.items c.args.self.now.slots.ok.0 len in
    c.args.self.now.live_count ∙ sym (ap (count_by is_taken) same ∙ c.set_count.ensures.taken ∙ ap (count_by is_taken) c.deref_mut.ensures.value)

pub invariant_of-self-clause-dead_count : goal.invariant_of-self-clause-dead_count
invariant_of-self-clause-dead_count g c =
    let len : length c.set_count.new.slots ≡ length c.args.self.now.slots.items = omega (arith, ap length c.deref_mut.ensures.value) in
    let same = whole c.args.self.now.slots.len c.set_count.new.slots c.args.self.now.slots.items c.args.self.now.slots.ok.0 len in
    c.args.self.now.dead_count ∙ hold_count c.args.self.now.slots.items c.deref_mut.result.now c.set_count.new.slots c.args.id c.get-at.result c.count_here-count.result c.deref_mut.ensures.value c.get-at.ensures.value c.requires.live c.set_count.ensures.dead ∙ ap (count_by is_dead) (sym same)
