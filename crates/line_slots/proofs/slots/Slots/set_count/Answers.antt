use Rattle.std.proofs.Common.{refl}
use Rattle.std.proofs.lemmas.Option.{slice_get_read}
use Rattle.line_slots.specs.Contents.{line_of}
use Rattle.line_slots.proofs.ListCalls.{line_here, taken_becomes, taken_index}
use Rattle.line_slots.proofs.slots.Slots.set_count.Goals as goal

pub invariant_of-self : goal.invariant_of-self
invariant_of-self g c = (taken_becomes c.self.inside.records.items c.self.inside.free c.self.inside.dead c.self.inside.slots _ c.args.slot _ c.self.invariant c.self.view_is _ c.requires.line c.requires.alive).kept

pub returns : goal.returns
returns g c =
    let low = taken_index c.self.inside.records.items c.self.inside.free c.self.inside.dead c.self.inside.slots _ c.args.slot _ c.self.invariant c.self.view_is c.requires.line in (
      line_of c.index_mut.result.now.content,
      line_here c.self.inside.records.items c.self.inside.free c.self.inside.dead c.self.inside.slots _ c.args.slot _ c.self.invariant c.self.view_is c.index_mut.result.now (slice_get_read c.self.inside.records.items _ c.args.slot c.index_mut.result.now refl low c.index_mut.ensures.value) low c.requires.line,
      (taken_becomes c.self.inside.records.items c.self.inside.free c.self.inside.dead c.self.inside.slots _ c.args.slot _ c.self.invariant c.self.view_is _ c.requires.line c.requires.alive).seen,
    )
