use Rattle.std.proofs.Common.{◌≡◌, ℕ, suc, ◌<◌, List, [], ◌∷◌, ◌++◌, sym, ◌∙◌, ap, subst, set, None, length, arith}
use Rattle.hic_list.specs.Numbering.{AreNumbers}
use Rattle.hic_list.specs.Words.{number_of}
use Rattle.hic_list.proofs.Filled.{one_numbered}
use Rattle.hic_list.proofs.numbers.Numbers.add.Goals as goal

one_more : (by ids new : List ℕ) (place id number : ℕ) → AreNumbers by ids → number_of ids id ≡ None → place ≡ id → place < length by → number ≡ suc (length ids) → new ≡ ids ++ id ∷ [] → AreNumbers (set by place number) new
one_more by ids new place id number are none p low n e =
    subst (λ z. AreNumbers (set by place number) z) (sym (e ∙ ap (λ q. ids ++ q ∷ []) (sym p))) (subst (λ q. AreNumbers (set by place q) (ids ++ place ∷ [])) (sym n) (one_numbered by ids place are (subst (λ q. number_of ids q ≡ None) (sym p) none) low))

pub invariant_of-self-2 : goal.invariant_of-self-2
invariant_of-self-2 c =
    let ids = c.self.inside.ids.items in
    one_more c.make_place.new.by_id.items ids c.push.new.self.items c.get-place.result c.args.id c.len.result (c.make_place.ensures.numbers ids c.self.invariant)
    (subst (λ qs. number_of qs c.args.id ≡ None) (sym c.self.view_is) c.requires.new) c.get-place.ensures.value (grind (arith, c.in_ok-make_place.ensures.place)) (grind (arith, c.len.ensures, c.in_ok-push.ensures.len)) c.in_ok-push.ensures.items
