use Rattle.std.proofs.Common.{refl, sym, ap, ◌∙◌, inl, inr, ◌⊎◌, ◌≡◌, ℕ, IsSome, Some, Option, Bool, true, false, subst}
use Rattle.std.proofs.lemmas.Option.{slice_get_read}
use Rattle.line_slots.specs.declared.slots.Record.{Record}
use Rattle.line_slots.specs.declared.slots.State.{State}
use Rattle.line_slots.specs.declared.slots.State.TheVariants as state
use Rattle.line_slots.specs.Records.{dead_link}
use Rattle.line_slots.proofs.Pops.{dead_index, dead_popped, dead_state}
use Rattle.line_slots.proofs.slots.Slots.dead_pop.Goals as goal

same_record : {w : ℕ} (a b : Record w) → ◌≡◌ {A = Option (Record w)} (Some a) (Some b) → a ≡ b
same_record a b e = cc

not_dead : (s : State) → ((n : ℕ) × (s ≡ state.Vacant n)) ⊎ ((n : ℕ) × (s ≡ state.Counted n)) → IsSome (dead_link s) → ⊥
not_dead s (inl e) h = let a = subst (λ t. IsSome (dead_link t)) e.1 h in absurd (let b : ◌≡◌ {A = Bool} false true = a in cc)
not_dead s (inr e) h = let a = subst (λ t. IsSome (dead_link t)) e.1 h in absurd (let b : ◌≡◌ {A = Bool} false true = a in cc)

pub invariant_of-self : goal.invariant_of-self
invariant_of-self g c =
    let low = dead_index c.self.inside.records.items c.self.inside.free c.self.inside.dead c.self.inside.slots _ _ c.self.invariant c.self.view_is c.if-slot.false in
    let read = slice_get_read c.self.inside.records.items _ c.self.inside.dead c.index.result.now refl low c.index.ensures in
    let written = slice_get_read c.self.inside.records.items _ c.self.inside.dead c.index_mut.result.now refl low c.index_mut.ensures.value in
    (dead_popped c.self.inside.records.items c.self.inside.free c.self.inside.dead c.self.inside.slots _ _ c.self.invariant c.self.view_is c.in-Dead.next c.index.result.now _ c.if-slot.false read c.in-Dead.is
    (ap (λ (r : Record _). record { content = r.content; state = state.Counted 0 }) (same_record c.index_mut.result.now c.index.result.now (sym written ∙ read)))).0

pub unreachable-requires : goal.unreachable-requires
unreachable-requires g c =
    let low = dead_index c.self.inside.records.items c.self.inside.free c.self.inside.dead c.self.inside.slots _ _ c.self.invariant c.self.view_is c.if-slot.false in
    let read = slice_get_read c.self.inside.records.items _ c.self.inside.dead c.index.result.now refl low c.index.ensures in
    not_dead c.index.result.now.state c.in-Vacant.is (dead_state c.self.inside.records.items c.self.inside.free c.self.inside.dead c.self.inside.slots _ _ c.self.invariant c.self.view_is c.index.result.now c.if-slot.false read)

pub returns-clause-some : goal.returns-clause-some
returns-clause-some g c =
    let low = dead_index c.self.inside.records.items c.self.inside.free c.self.inside.dead c.self.inside.slots _ _ c.self.invariant c.self.view_is c.if-slot.false in
    let read = slice_get_read c.self.inside.records.items _ c.self.inside.dead c.index.result.now refl low c.index.ensures in
    let written = slice_get_read c.self.inside.records.items _ c.self.inside.dead c.index_mut.result.now refl low c.index_mut.ensures.value in
    (dead_popped c.self.inside.records.items c.self.inside.free c.self.inside.dead c.self.inside.slots _ _ c.self.invariant c.self.view_is c.in-Dead.next c.index.result.now _ c.if-slot.false read c.in-Dead.is
    (ap (λ (r : Record _). record { content = r.content; state = state.Counted 0 }) (same_record c.index_mut.result.now c.index.result.now (sym written ∙ read)))).1
