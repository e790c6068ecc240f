use Rattle.std.proofs.Common.{refl, ◌∙◌, inl, inr, ◌⊎◌, ◌≡◌, ◌++◌, ◌∷◌, ◌<◌, [], ℕ, List, IsSome, Bool, true, false, subst, arith}
use Rattle.std.specs.Prelude.{vec_capacity}
use Rattle.std.proofs.lemmas.Option.{slice_get_read}
use Rattle.line_mem.proofs.StoreSteps.{chosen}
use Rattle.line_slots.specs.declared.slots.Record.{Record}
use Rattle.line_slots.specs.declared.slots.State.{State}
use Rattle.line_slots.specs.declared.slots.State.TheVariants as state
use Rattle.line_slots.specs.Records.{vacant_link}
use Rattle.line_slots.proofs.Pops.{free_index, free_popped_at, free_state, fresh_popped_at}
use Rattle.line_slots.proofs.slots.Slots.pop_free.Goals as goal

pub invariant_of-self : goal.invariant_of-self
invariant_of-self g c =
    let sized = c.self.inside.records.ok.0 in
    let room = c.self.invariant.room in
    let few = c.self.invariant.some in
    let fits : c.self.inside.records.len < vec_capacity c.self.inside.records = omega (arith, sized, room, few, c.len-slot.ensures, c.if-slot-self.false) in
    let good = c.push.ensures.succeeds fits in
    let pushed : c.push.new.self.items ≡ c.self.inside.records.items ++ _ ∷ [] = chosen {X = List (Record _)} _ _ _ _ good c.push.ensures.items in
    (fresh_popped_at c.self.inside.records.items c.self.inside.free c.self.inside.dead c.self.inside.slots _ _ c.self.invariant c.self.view_is c.push.new.self.items _ c.len-slot.result _ c.untaken.ensures pushed (c.len-slot.ensures ∙ sized) c.if-slot-self.false c.if-slot.true c.push.ensures.capacity).0

pub returns-then-slot-clause-some : goal.returns-then-slot-clause-some
returns-then-slot-clause-some g c =
    let sized = c.self.inside.records.ok.0 in
    let room = c.self.invariant.room in
    let few = c.self.invariant.some in
    let fits : c.self.inside.records.len < vec_capacity c.self.inside.records = omega (arith, sized, room, few, c.len-slot.ensures, c.if-slot-self.false) in
    let good = c.push.ensures.succeeds fits in
    let pushed : c.push.new.self.items ≡ c.self.inside.records.items ++ _ ∷ [] = chosen {X = List (Record _)} _ _ _ _ good c.push.ensures.items in
    (fresh_popped_at c.self.inside.records.items c.self.inside.free c.self.inside.dead c.self.inside.slots _ _ c.self.invariant c.self.view_is c.push.new.self.items _ c.len-slot.result _ c.untaken.ensures pushed (c.len-slot.ensures ∙ sized) c.if-slot-self.false c.if-slot.true c.push.ensures.capacity).1

pub index-requires : goal.index-requires
index-requires g c =
    let low = free_index c.self.inside.records.items c.self.inside.free c.self.inside.dead c.self.inside.slots _ _ c.self.invariant c.self.view_is c.if-slot.false in
    let sized = c.self.inside.records.ok.0 in
    omega (arith, low, sized)

pub invariant_of-self-in-Vacant : goal.invariant_of-self-in-Vacant
invariant_of-self-in-Vacant g c =
    let low = free_index c.self.inside.records.items c.self.inside.free c.self.inside.dead c.self.inside.slots _ _ c.self.invariant c.self.view_is c.if-slot.false in
    let read = slice_get_read c.self.inside.records.items _ c.self.inside.free c.index.result.now refl low c.index.ensures in
    (free_popped_at c.self.inside.records.items c.self.inside.free c.self.inside.dead c.self.inside.slots _ _ c.self.invariant c.self.view_is c.in-Vacant.next c.index.result.now c.if-slot.false read c.in-Vacant.is).0

not_vacant : (s : State) → ((n : ℕ) × (s ≡ state.Counted n)) ⊎ ((n : ℕ) × (s ≡ state.Dead n)) → IsSome (vacant_link s) → ⊥
not_vacant s (inl e) h = let a = subst (λ t. IsSome (vacant_link t)) e.1 h in absurd (let b : ◌≡◌ {A = Bool} false true = a in cc)
not_vacant s (inr e) h = let a = subst (λ t. IsSome (vacant_link t)) e.1 h in absurd (let b : ◌≡◌ {A = Bool} false true = a in cc)

pub unreachable-requires : goal.unreachable-requires
unreachable-requires g c =
    let low = free_index c.self.inside.records.items c.self.inside.free c.self.inside.dead c.self.inside.slots _ _ c.self.invariant c.self.view_is c.if-slot.false in
    let read = slice_get_read c.self.inside.records.items _ c.self.inside.free c.index.result.now refl low c.index.ensures in
    not_vacant c.index.result.now.state c.in-Counted.is (free_state c.self.inside.records.items c.self.inside.free c.self.inside.dead c.self.inside.slots _ _ c.self.invariant c.self.view_is c.index.result.now c.if-slot.false read)

pub returns-clause-some : goal.returns-clause-some
returns-clause-some g c =
    let low = free_index c.self.inside.records.items c.self.inside.free c.self.inside.dead c.self.inside.slots _ _ c.self.invariant c.self.view_is c.if-slot.false in
    let read = slice_get_read c.self.inside.records.items _ c.self.inside.free c.index.result.now refl low c.index.ensures in
    (free_popped_at c.self.inside.records.items c.self.inside.free c.self.inside.dead c.self.inside.slots _ _ c.self.invariant c.self.view_is c.in-Vacant.next c.index.result.now c.if-slot.false read c.in-Vacant.is).1
