use Rattle.std.proofs.Common.{◌≡◌, refl, sym, ◌∙◌}
use Rattle.std.specs.Prelude.{replicate}
use Rattle.line_mem.specs.declared.slots.Slot.TheVariants.{Vacant}
use Rattle.line_mem.proofs.EmptyStore.{none_dead, none_unique, none_memory, none_count}
use Rattle.line_mem.specs.Places.{is_dead, is_taken}
use Rattle.line_mem.proofs.flat_store.FlatStore.make.Goals as goal

pub invariant_of-result-clause-dead_each : goal.invariant_of-result-clause-dead_each
invariant_of-result-clause-dead_each g c =
    let rep : c.in_ok-slots.slots.items ≡ replicate c.args.cap Vacant = c.in_ok-slots.ensures.items_if_clones_equal (λ y h. h) in
    none_dead c.in_ok-slots.slots.items c.args.cap c.in_ok-dead.dead.items rep c.in_ok-dead.ensures.items

pub invariant_of-result-clause-unique : goal.invariant_of-result-clause-unique
invariant_of-result-clause-unique g c =
    let rep : c.in_ok-slots.slots.items ≡ replicate c.args.cap Vacant = c.in_ok-slots.ensures.items_if_clones_equal (λ y h. h) in
    none_unique c.in_ok-slots.slots.items c.args.cap rep

pub returns : goal.returns
returns g c =
    let rep : c.in_ok-slots.slots.items ≡ replicate c.args.cap Vacant = c.in_ok-slots.ensures.items_if_clones_equal (λ y h. h) in
    none_memory c.in_ok-slots.slots.items c.args.cap _ c.in_ok-dead.dead.items rep c.in_ok-dead.ensures.items c.in_ok-slots.ensures.len

pub invariant_of-result-clause-dead_count : goal.invariant_of-result-clause-dead_count
invariant_of-result-clause-dead_count g c =
    let rep : c.in_ok-slots.slots.items ≡ replicate c.args.cap Vacant = c.in_ok-slots.ensures.items_if_clones_equal (λ y h. h) in
    c.in_ok-dead.ensures.len ∙ sym (none_count is_dead c.in_ok-slots.slots.items c.args.cap refl rep)

pub invariant_of-result-clause-live_count : goal.invariant_of-result-clause-live_count
invariant_of-result-clause-live_count g c =
    let rep : c.in_ok-slots.slots.items ≡ replicate c.args.cap Vacant = c.in_ok-slots.ensures.items_if_clones_equal (λ y h. h) in
    sym (none_count is_taken c.in_ok-slots.slots.items c.args.cap refl rep)
