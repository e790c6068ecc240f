use Rattle.std.proofs.Common.{map, refl, ap, ◌∙◌, arith}
use Rattle.std.proofs.lemmas.List.{length-map}
use Rattle.std.proofs.lemmas.Option.{slice_get_read}
use Rattle.line_slots.specs.ChainLinks.{first_in, slot_in}
use Rattle.line_slots.proofs.ChainReads.{number_low, first_is}
use Rattle.line_slots.proofs.ChainKinds.{first_read}
use Rattle.line_slots.proofs.chains.Chains.first.Goals as goal

pub returns : goal.returns
returns c =
    let low = number_low (map first_in c.self.inside.heads.items) c.self.inside.links.items c.self.inside.slots _ _ c.self.invariant.firsts.chained c.self.view_is c.args.number c.requires in
    let read = slice_get_read c.self.inside.heads.items _ c.args.number c.index.result.now refl (let a = length-map c.self.inside.heads.items first_in in omega (arith, a, low)) c.index.ensures in
    c.some_slot.ensures ∙ ap slot_in c.first_of.ensures
    ∙ first_is (map first_in c.self.inside.heads.items) c.self.inside.links.items c.self.inside.slots _ _ c.self.invariant.firsts.chained c.self.view_is c.args.number (first_in c.index.result.now) (first_read c.self.inside.heads.items c.args.number c.index.result.now read)
