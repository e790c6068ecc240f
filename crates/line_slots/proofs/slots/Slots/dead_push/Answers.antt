use Rattle.std.proofs.Common.{refl}
use Rattle.line_slots.proofs.ListCalls.{dead_becomes, dead_record}
use Rattle.line_slots.proofs.slots.Slots.dead_push.Goals as goal

pub invariant_of-self : goal.invariant_of-self
invariant_of-self g c = (dead_becomes c.self.inside.records.items c.self.inside.free c.self.inside.dead c.self.inside.slots _ c.args.slot _ c.self.invariant c.self.view_is _ c.index_mut.result.now (dead_record c.self.inside.records.items c.self.inside.free c.self.inside.dead c.self.inside.slots _ c.args.slot _ c.self.invariant c.self.view_is c.index_mut.result.now c.index_mut.ensures.value c.requires.uncounted) refl refl c.requires.uncounted c.requires.alive).kept

pub returns : goal.returns
returns g c = (dead_becomes c.self.inside.records.items c.self.inside.free c.self.inside.dead c.self.inside.slots _ c.args.slot _ c.self.invariant c.self.view_is _ c.index_mut.result.now (dead_record c.self.inside.records.items c.self.inside.free c.self.inside.dead c.self.inside.slots _ c.args.slot _ c.self.invariant c.self.view_is c.index_mut.result.now c.index_mut.ensures.value c.requires.uncounted) refl refl c.requires.uncounted c.requires.alive).seen
