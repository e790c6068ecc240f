use Rattle.std.proofs.Common.{refl, ap, ◌∙◌, sym, Some}
use Rattle.std.proofs.lemmas.Option.{slice_get_read}
use Rattle.hic_word.specs.declared.Line.{Line}
use Rattle.line_slots.proofs.ListCalls.{line_here, taken_becomes, taken_index}
use Rattle.line_slots.proofs.slots.Slots.wipe.Goals as goal

pub invariant_of-self : goal.invariant_of-self
invariant_of-self g c = (taken_becomes c.self.inside.records.items c.self.inside.free c.self.inside.dead c.self.inside.slots _ c.args.slot _ c.self.invariant c.self.view_is _ c.requires.line c.requires.alive).kept

pub returns-clause-line : goal.returns-clause-line
returns-clause-line g c =
    let low = taken_index c.self.inside.records.items c.self.inside.free c.self.inside.dead c.self.inside.slots _ c.args.slot _ c.self.invariant c.self.view_is c.requires.line in
    line_here c.self.inside.records.items c.self.inside.free c.self.inside.dead c.self.inside.slots _ c.args.slot _ c.self.invariant c.self.view_is c.index.result.now (slice_get_read c.self.inside.records.items _ c.args.slot c.index.result.now refl low c.index.ensures) low c.requires.line
    ∙ ap (λ (line : Line _). Some line) (sym c.line-line.ensures)

pub returns-clause-vacant : goal.returns-clause-vacant
returns-clause-vacant g c = (taken_becomes c.self.inside.records.items c.self.inside.free c.self.inside.dead c.self.inside.slots _ c.args.slot _ c.self.invariant c.self.view_is _ c.requires.line c.requires.alive).seen
