use Rattle.std.proofs.Common.{◌≡◌, true, List, [], ◌∷◌, ◌++◌, length, ap, ◌∙◌, arith}
use Rattle.std.specs.Prelude.{count_by}
use Rattle.line_slots.specs.declared.entry.Entry.{Entry}
use Rattle.line_slots.specs.ChainLists.{ChainLists, entries}
use Rattle.line_slots.proofs.Counts.{count-append, no_entry}
use Rattle.line_rows.proofs.slots.two_chains.Goals as goal

two_empty : (cs : List (List Entry)) → length cs ≡ 2 → count_by (λ (e : Entry). true) (entries (record { slots = 8; chains = cs })) ≡ 0 → cs ≡ [] ∷ [] ∷ []
two_empty [] l e = absurd (omega (arith, l))
two_empty (a ∷ []) l e = absurd (omega (arith, l))
two_empty (a ∷ b ∷ []) l e =
    let c = count-append (λ (x : Entry). true) a (b ++ []) in
    let d = count-append (λ (x : Entry). true) b [] in
    λ i. no_entry a (omega (arith, c, e)) i ∷ no_entry b (omega (arith, c, d, e)) i ∷ []
two_empty (a ∷ b ∷ c ∷ cs) l e = absurd (omega (arith, l))

pub returns : goal.returns
returns c =
    let chains = two_empty c.regrow.new.self.chains c.regrow.ensures.count (c.regrow.ensures.entries (λ e. true) ∙ ap (λ ls. count_by (λ e. true) (entries ls)) c.requires) in
    let slots = c.regrow.ensures.slots ∙ ap (λ (ls : ChainLists). ls.slots) c.requires in
    λ i. record { slots = slots i; chains = chains i }
