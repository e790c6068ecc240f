use Rattle.std.proofs.Common.{refl, arith}
use Rattle.line_slots.proofs.ListCalls.{free_becomes, vacant_index}
use Rattle.line_slots.proofs.slots.Slots.push_free.Goals as goal

pub index_mut-requires : goal.index_mut-requires
index_mut-requires g c =
    let low = vacant_index c.self.inside.records.items c.self.inside.free c.self.inside.dead c.self.inside.slots _ c.args.slot _ c.self.invariant c.self.view_is c.requires.vacant c.requires.taken in
    let sized = c.self.inside.records.ok.0 in
    omega (arith, low, sized)

pub invariant_of-self : goal.invariant_of-self
invariant_of-self g c = (free_becomes c.self.inside.records.items c.self.inside.free c.self.inside.dead c.self.inside.slots _ c.args.slot _ c.self.invariant c.self.view_is _ refl c.requires.vacant c.requires.taken).kept

pub returns : goal.returns
returns g c = (free_becomes c.self.inside.records.items c.self.inside.free c.self.inside.dead c.self.inside.slots _ c.args.slot _ c.self.invariant c.self.view_is _ refl c.requires.vacant c.requires.taken).seen
