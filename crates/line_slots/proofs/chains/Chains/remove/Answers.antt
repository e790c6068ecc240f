use Rattle.std.proofs.Common.{◌≡◌, ◌∷◌, ◌++◌, ◌∙◌, refl, sym, subst, arith}
use Rattle.std.proofs.lemmas.Option.{slice_get_read, slice_get_within}
use Rattle.hic_word.specs.Lists.{In}
use Rattle.line_slots.specs.ChainLinks.{members, Ends}
use Rattle.line_slots.proofs.ChainReads.{slot_low}
use Rattle.line_slots.proofs.HeldChains.{before_held, ends_held, first_held, head_held, later_held, next_held, there}
use Rattle.line_slots.proofs.chains.Chains.remove.Goals as goal

pub index-requires : goal.index-requires
index-requires c =
    let low = slot_low _ _ _ _ _ c.self.invariant.firsts.chained c.self.view_is c.args.number c.args.slot c.requires in
    let sized = c.self.inside.links.ok.0 in
    omega (arith, low, sized)

pub head_of-requires-clause-first : goal.head_of-requires-clause-first
head_of-requires-clause-first c =
    let at = head_held _ _ _ _ _ _ c.self.invariant c.self.view_is c.args.number c.index-head.result.now c.args.slot c.requires c.index-head.ensures in
    let low = slot_low _ _ _ _ _ c.self.invariant.firsts.chained c.self.view_is c.args.number c.args.slot c.requires in
    let read = slice_get_read c.self.inside.links.items _ c.args.slot c.index.result.now refl low c.index.ensures in
    next_held _ _ _ _ _ _ c.self.invariant c.self.view_is c.args.number c.index-head.result.now at c.args.slot c.index.result.now c.requires read

pub index_mut-requires : goal.index_mut-requires
index_mut-requires c =
    let at = head_held _ _ _ _ _ _ c.self.invariant c.self.view_is c.args.number c.index-head.result.now c.args.slot c.requires c.index-head.ensures in
    let bound = slice_get_within c.self.inside.heads.items c.args.number c.index-head.result.now at in
    let sized = c.self.inside.heads.ok.0 in
    omega (arith, bound, sized)

pub index_mut-requires-then-first-slot : goal.index_mut-requires-then-first-slot
index_mut-requires-then-first-slot c =
    let low = slot_low _ _ _ _ _ c.self.invariant.firsts.chained c.self.view_is c.args.number c.args.slot c.requires in
    let sized = c.self.inside.links.ok.0 in
    omega (arith, low, sized)

pub invariant_of-self : goal.invariant_of-self
invariant_of-self c =
    let at = head_held _ _ _ _ _ _ c.self.invariant c.self.view_is c.args.number c.index-head.result.now c.args.slot c.requires c.index-head.ensures in
    let low = slot_low _ _ _ _ _ c.self.invariant.firsts.chained c.self.view_is c.args.number c.args.slot c.requires in
    let read = slice_get_read c.self.inside.links.items _ c.args.slot c.index.result.now refl low c.index.ensures in
    (first_held _ _ _ _ _ _ c.self.invariant c.self.view_is c.args.number c.index-head.result.now at c.args.slot c.index.result.now c.requires read c.head_of.result (sym c.first_of-first.ensures ∙ c.if-first-slot.true) c.head_of.ensures.first (c.head_of.ensures.kinds ∙ c.kinds_of.ensures.kinds)).kept

pub returns-then-first-slot : goal.returns-then-first-slot
returns-then-first-slot c =
    let at = head_held _ _ _ _ _ _ c.self.invariant c.self.view_is c.args.number c.index-head.result.now c.args.slot c.requires c.index-head.ensures in
    let low = slot_low _ _ _ _ _ c.self.invariant.firsts.chained c.self.view_is c.args.number c.args.slot c.requires in
    let read = slice_get_read c.self.inside.links.items _ c.args.slot c.index.result.now refl low c.index.ensures in
    (first_held _ _ _ _ _ _ c.self.invariant c.self.view_is c.args.number c.index-head.result.now at c.args.slot c.index.result.now c.requires read c.head_of.result (sym c.first_of-first.ensures ∙ c.if-first-slot.true) c.head_of.ensures.first (c.head_of.ensures.kinds ∙ c.kinds_of.ensures.kinds)).seen

pub before_slot-before-requires-clause-ends : goal.before_slot-before-requires-clause-ends
before_slot-before-requires-clause-ends c =
    let at = head_held _ _ _ _ _ _ c.self.invariant c.self.view_is c.args.number c.index-head.result.now c.args.slot c.requires c.index-head.ensures in
    subst (λ ls. Ends ls c.first_of-first.result) (sym c.deref.ensures.value) (subst (λ f. Ends c.self.inside.links.items f) (sym c.first_of-first.ensures) (ends_held _ _ _ _ _ _ c.self.invariant c.self.view_is c.args.number c.index-head.result.now at))

pub before_slot-before-requires-clause-there : goal.before_slot-before-requires-clause-there
before_slot-before-requires-clause-there c =
    let at = head_held _ _ _ _ _ _ c.self.invariant c.self.view_is c.args.number c.index-head.result.now c.args.slot c.requires c.index-head.ensures in
    let low = slot_low _ _ _ _ _ c.self.invariant.firsts.chained c.self.view_is c.args.number c.args.slot c.requires in
    let read = slice_get_read c.self.inside.links.items _ c.args.slot c.index.result.now refl low c.index.ensures in
    subst (λ ls. In c.args.slot (members ls c.first_of-first.result)) (sym c.deref.ensures.value) (subst (λ f. In c.args.slot (members c.self.inside.links.items f)) (sym c.first_of-first.ensures)
    (there _ _ _ _ _ _ c.self.invariant c.self.view_is c.args.number c.index-head.result.now at c.args.slot c.index.result.now c.requires read))

pub index_mut-requires-else-first-slot : goal.index_mut-requires-else-first-slot
index_mut-requires-else-first-slot c =
    let at = head_held _ _ _ _ _ _ c.self.invariant c.self.view_is c.args.number c.index-head.result.now c.args.slot c.requires c.index-head.ensures in
    let low = slot_low _ _ _ _ _ c.self.invariant.firsts.chained c.self.view_is c.args.number c.args.slot c.requires in
    let read = slice_get_read c.self.inside.links.items _ c.args.slot c.index.result.now refl low c.index.ensures in
    let (xs, ys, found) = c.before_slot-before.ensures in
    let split = subst (λ f. members c.deref.result.now f ≡ xs ++ c.before_slot-before.result ∷ c.args.slot ∷ ys) c.first_of-first.ensures found in
    let bound = before_held _ _ _ _ _ _ c.self.invariant c.self.view_is c.args.number c.index-head.result.now at c.args.slot c.index.result.now c.requires read c.deref.result.now c.before_slot-before.result xs ys c.deref.ensures.value split in
    let sized = c.self.inside.links.ok.0 in
    omega (arith, bound, sized)

pub index_mut-requires-else-first-slot-2 : goal.index_mut-requires-else-first-slot-2
index_mut-requires-else-first-slot-2 c =
    let low = slot_low _ _ _ _ _ c.self.invariant.firsts.chained c.self.view_is c.args.number c.args.slot c.requires in
    let sized = c.self.inside.links.ok.0 in
    omega (arith, low, sized)

pub invariant_of-self-else-first-slot : goal.invariant_of-self-else-first-slot
invariant_of-self-else-first-slot c =
    let at = head_held _ _ _ _ _ _ c.self.invariant c.self.view_is c.args.number c.index-head.result.now c.args.slot c.requires c.index-head.ensures in
    let low = slot_low _ _ _ _ _ c.self.invariant.firsts.chained c.self.view_is c.args.number c.args.slot c.requires in
    let read = slice_get_read c.self.inside.links.items _ c.args.slot c.index.result.now refl low c.index.ensures in
    let (xs, ys, found) = c.before_slot-before.ensures in
    let split = subst (λ f. members c.deref.result.now f ≡ xs ++ c.before_slot-before.result ∷ c.args.slot ∷ ys) c.first_of-first.ensures found in
    let bound = before_held _ _ _ _ _ _ c.self.invariant c.self.view_is c.args.number c.index-head.result.now at c.args.slot c.index.result.now c.requires read c.deref.result.now c.before_slot-before.result xs ys c.deref.ensures.value split in
    let reads = slice_get_read c.self.inside.links.items _ c.before_slot-before.result c.index_mut-else-first-slot.result.now refl bound c.index_mut-else-first-slot.ensures.value in
    (later_held _ _ _ _ _ _ c.self.invariant c.self.view_is c.args.number c.index-head.result.now at c.args.slot c.index.result.now c.requires read
    c.deref.result.now c.before_slot-before.result c.index_mut-else-first-slot.result.now _ xs ys c.deref.ensures.value split reads refl refl).kept

pub returns-else-first-slot : goal.returns-else-first-slot
returns-else-first-slot c =
    let at = head_held _ _ _ _ _ _ c.self.invariant c.self.view_is c.args.number c.index-head.result.now c.args.slot c.requires c.index-head.ensures in
    let low = slot_low _ _ _ _ _ c.self.invariant.firsts.chained c.self.view_is c.args.number c.args.slot c.requires in
    let read = slice_get_read c.self.inside.links.items _ c.args.slot c.index.result.now refl low c.index.ensures in
    let (xs, ys, found) = c.before_slot-before.ensures in
    let split = subst (λ f. members c.deref.result.now f ≡ xs ++ c.before_slot-before.result ∷ c.args.slot ∷ ys) c.first_of-first.ensures found in
    let bound = before_held _ _ _ _ _ _ c.self.invariant c.self.view_is c.args.number c.index-head.result.now at c.args.slot c.index.result.now c.requires read c.deref.result.now c.before_slot-before.result xs ys c.deref.ensures.value split in
    let reads = slice_get_read c.self.inside.links.items _ c.before_slot-before.result c.index_mut-else-first-slot.result.now refl bound c.index_mut-else-first-slot.ensures.value in
    (later_held _ _ _ _ _ _ c.self.invariant c.self.view_is c.args.number c.index-head.result.now at c.args.slot c.index.result.now c.requires read
    c.deref.result.now c.before_slot-before.result c.index_mut-else-first-slot.result.now _ xs ys c.deref.ensures.value split reads refl refl).seen
