use Rattle.std.proofs.Common.{◌≡◌, ℕ, List, ◌≤◌, ◌+◌, ◌++◌, ◌-◌, ◌<◌, subst, refl, ap, ◌∙◌, sym, arith, length, set}
use Rattle.std.specs.Prelude.{replicate, vec_capacity}
use Rattle.std.proofs.lemmas.List.{length-map}
use Rattle.std.proofs.lemmas.Option.{slice_get_read}
use Rattle.line_slots.specs.ChainLists.{ChainLists}
use Rattle.line_slots.specs.ChainLinks.{first_in}
use Rattle.line_slots.specs.declared.chains.Link.{Link}
use Rattle.line_slots.proofs.ChainReads.{number_low}
use Rattle.line_slots.proofs.HeldChains.{pushed_held}
use Rattle.line_slots.proofs.Marks.{unused}
use Rattle.line_slots.proofs.chains.Chains.push.Goals as goal

written_as : {xs ys : List Link} {n first : ℕ} (slot key : ℕ) → xs ≡ ys → n ≡ first → set xs slot (record { next = n; key = key }) ≡ set ys slot (record { next = first; key = key })
written_as {ys = ys} {n = n} slot key e f = ap (λ (ls : List Link). set ls slot (record { next = n; key = key })) e ∙ ap (λ (m : ℕ). set ys slot (record { next = m; key = key })) f

pub invariant_of-self : goal.invariant_of-self
invariant_of-self c =
    let low = number_low _ _ _ _ _ c.self.invariant.firsts.chained c.self.view_is c.args.number c.requires.number in
    let head = slice_get_read c.self.inside.heads.items _ c.args.number c.index-head.result.now refl (let a = length-map c.self.inside.heads.items first_in in omega (arith, a, low)) c.index-head.ensures in
    let small = subst (λ (w : ChainLists). c.args.entry.slot < w.slots) (sym c.self.view_is) c.requires.slot in
    let room : c.self.inside.slots ≤ vec_capacity c.cover.new.links = let a = c.self.invariant.firsts.chained.room in let b = c.cover.ensures.capacity in omega (arith, a, b) in
    let covered : c.cover.new.links.items ≡ c.self.inside.links.items ++ replicate (c.args.entry.slot + 1 - length c.self.inside.links.items) unused = c.cover.ensures.items ∙ ap (λ (n : ℕ). c.self.inside.links.items ++ replicate (c.args.entry.slot + 1 - n) unused) c.self.inside.links.ok.0 in
    let written = written_as c.args.entry.slot c.args.entry.key covered c.first_of.ensures in
    (pushed_held _ _ _ _ _ _ c.self.invariant c.self.view_is c.args.number c.index-head.result.now head c.args.entry.slot c.args.entry.key _ c.with_front.result _ small room c.requires.apart written
    c.with_front.ensures.first c.with_front.ensures.own c.with_front.ensures.others).kept

pub returns : goal.returns
returns c =
    let low = number_low _ _ _ _ _ c.self.invariant.firsts.chained c.self.view_is c.args.number c.requires.number in
    let head = slice_get_read c.self.inside.heads.items _ c.args.number c.index-head.result.now refl (let a = length-map c.self.inside.heads.items first_in in omega (arith, a, low)) c.index-head.ensures in
    let small = subst (λ (w : ChainLists). c.args.entry.slot < w.slots) (sym c.self.view_is) c.requires.slot in
    let room : c.self.inside.slots ≤ vec_capacity c.cover.new.links = let a = c.self.invariant.firsts.chained.room in let b = c.cover.ensures.capacity in omega (arith, a, b) in
    let covered : c.cover.new.links.items ≡ c.self.inside.links.items ++ replicate (c.args.entry.slot + 1 - length c.self.inside.links.items) unused = c.cover.ensures.items ∙ ap (λ (n : ℕ). c.self.inside.links.items ++ replicate (c.args.entry.slot + 1 - n) unused) c.self.inside.links.ok.0 in
    let written = written_as c.args.entry.slot c.args.entry.key covered c.first_of.ensures in
    (pushed_held _ _ _ _ _ _ c.self.invariant c.self.view_is c.args.number c.index-head.result.now head c.args.entry.slot c.args.entry.key _ c.with_front.result _ small room c.requires.apart written
    c.with_front.ensures.first c.with_front.ensures.own c.with_front.ensures.others).seen
