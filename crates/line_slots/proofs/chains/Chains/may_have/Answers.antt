use Rattle.std.proofs.Common.{refl, sym, subst, arith}
use Rattle.std.proofs.lemmas.List.{length-map}
use Rattle.std.proofs.lemmas.Option.{slice_get_read}
use Rattle.hic_word.specs.Lists.{In}
use Rattle.line_slots.specs.ChainLists.{chain_at}
use Rattle.line_slots.specs.ChainLinks.{first_in, kinds_in, HasKind}
use Rattle.line_slots.proofs.ChainReads.{number_low}
use Rattle.line_slots.proofs.KindBits.{kind_tested}
use Rattle.line_slots.proofs.chains.Chains.may_have.Goals as goal

pub returns : goal.returns
returns c = λ absent e i same.
    let low = number_low _ _ _ _ _ c.self.invariant.firsts.chained c.self.view_is c.args.number c.requires in
    let head = slice_get_read c.self.inside.heads.items _ c.args.number c.index.result.now refl (let a = length-map c.self.inside.heads.items first_in in omega (arith, a, low)) c.index.ensures in
    let told = c.self.invariant.kinds c.args.number c.index.result.now e head (subst (λ v. In e (chain_at v c.args.number)) (sym c.self.view_is) i) in
    kind_tested c.kinds_of-kinds.result c.kind_of.result c.args.key (kinds_in c.index.result.now) c.kinds_of-kinds.ensures.kinds c.kind_of.ensures.kind absent (subst (λ k. HasKind (kinds_in c.index.result.now) k) same told)
