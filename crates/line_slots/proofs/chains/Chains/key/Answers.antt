use Rattle.std.proofs.Common.{map, refl, arith}
use Rattle.std.proofs.lemmas.Option.{slice_get_read}
use Rattle.line_slots.specs.ChainLinks.{first_in}
use Rattle.line_slots.proofs.ChainReads.{key_is, slot_low}
use Rattle.line_slots.proofs.chains.Chains.key.Goals as goal

pub index-requires : goal.index-requires
index-requires c =
    let low = slot_low (map first_in c.self.inside.heads.items) c.self.inside.links.items c.self.inside.slots _ _ c.self.invariant.firsts.chained c.self.view_is c.requires.0 c.args.slot c.requires.1 in
    let sized = c.self.inside.links.ok.0 in
    omega (arith, low, sized)

pub returns : goal.returns
returns c =
    let low = slot_low (map first_in c.self.inside.heads.items) c.self.inside.links.items c.self.inside.slots _ _ c.self.invariant.firsts.chained c.self.view_is c.requires.0 c.args.slot c.requires.1 in
    key_is (map first_in c.self.inside.heads.items) c.self.inside.links.items c.self.inside.slots _ _ c.self.invariant.firsts.chained c.self.view_is c.args.slot c.index.result.now (slice_get_read c.self.inside.links.items _ c.args.slot c.index.result.now refl low c.index.ensures)
