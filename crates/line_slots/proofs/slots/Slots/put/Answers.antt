use Rattle.std.proofs.Common.{ap, ◌∙◌, arith}
use Rattle.line_mem.specs.declared.slots.Slot.TheVariants.{Taken}
use Rattle.line_slots.specs.SlotLists.{with_slot}
use Rattle.line_slots.proofs.ListCalls.{vacant_becomes, vacant_index}
use Rattle.line_slots.proofs.slots.Slots.put.Goals as goal

pub index_mut-record-requires : goal.index_mut-record-requires
index_mut-record-requires g c =
    let low = vacant_index c.self.inside.records.items c.self.inside.free c.self.inside.dead c.self.inside.slots _ c.args.slot _ c.self.invariant c.self.view_is c.requires.vacant c.requires.taken in
    let sized = c.self.inside.records.ok.0 in
    omega (arith, low, sized)

pub invariant_of-self : goal.invariant_of-self
invariant_of-self g c = (vacant_becomes c.self.inside.records.items c.self.inside.free c.self.inside.dead c.self.inside.slots _ c.args.slot _ c.self.invariant c.self.view_is _ c.requires.vacant c.requires.taken).kept

pub returns : goal.returns
returns g c =
    (vacant_becomes c.self.inside.records.items c.self.inside.free c.self.inside.dead c.self.inside.slots _ c.args.slot _ c.self.invariant c.self.view_is _ c.requires.vacant c.requires.taken).seen
    ∙ ap (λ line. with_slot c.args.self.now c.args.slot (Taken line 0)) c.of.ensures
