use Rattle.std.proofs.Common.{◌≡◌, ℕ, ◌<◌, ◌≤◌, ◌*◌, ◌^◌, List, length, map, take, drop, ◌++◌, sym, ap, ◌∙◌, subst, arith}
use Rattle.std.specs.Prelude.{vec_capacity}
use Rattle.std.proofs.Math.Seq.{take-append_seam}
use Rattle.line_slots.specs.ChainLists.{ChainLists}
use Rattle.line_slots.specs.ChainLinks.{chains_of, first_in, AreLaidOut, TellKinds}
use Rattle.line_slots.specs.declared.chains.Link.{Link}
use Rattle.line_slots.proofs.KeyNumbers.{few_bits}
use Rattle.line_slots.proofs.Laying.{regrown_entries, regrown_held}
use Rattle.line_slots.proofs.chains.Chains.regrow.Goals as goal

-- what a vector has whose slice was written
written_back : {X : Type 0} (n : ℕ) (xs ys : List X) → n ≡ length xs → take n (xs ++ ys) ≡ xs
written_back n xs ys e = ap (λ k. take k (xs ++ ys)) e ∙ take-append_seam xs ys

few : (bits : ℕ) (lists now : ChainLists) → lists.slots < 2 ^ 24 → lists ≡ now → 2 ^ bits ≤ 2 * now.slots → bits < 32
few bits lists now h e fits = few_bits bits (let a = ap (λ (w : ChainLists). w.slots) e in omega (arith, a, h, fits))

pub overflow_shl-bits : goal.overflow_shl-bits
overflow_shl-bits c = let low = few c.args.bits _ _ c.self.invariant.firsts.chained.few c.self.view_is c.requires in omega (arith, low)

pub lay_out-requires-clause-bits : goal.lay_out-requires-clause-bits
lay_out-requires-clause-bits c = few c.args.bits _ _ c.self.invariant.firsts.chained.few c.self.view_is c.requires

pub invariant_of-self : goal.invariant_of-self
invariant_of-self c =
    let out = subst (λ ls. AreLaidOut c.args.bits ls (map first_in c.lay_out.new.heads) c.lay_out.new.links) c.deref_mut-2.ensures.value c.lay_out.ensures.laid in
    let heads_are = written_back c.resize.new.self.len c.lay_out.new.heads (drop (length c.lay_out.new.heads) c.resize.new.self.items)
    (c.resize.new.self.ok.0 ∙ ap length (sym c.deref_mut.ensures.value) ∙ sym c.lay_out.auto.heads) in
    let links_are = written_back c.self.inside.links.len c.lay_out.new.links (drop (length c.lay_out.new.links) c.self.inside.links.items)
    (c.self.inside.links.ok.0 ∙ ap length (sym c.deref_mut-2.ensures.value) ∙ sym c.lay_out.auto.links) in
    let fits = subst (λ (w : ChainLists). 2 ^ c.args.bits ≤ 2 * w.slots) (sym c.self.view_is) c.requires in
    let wide : vec_capacity c.self.inside.heads ≤ vec_capacity c.resize.new.self = let a = c.clear.ensures.capacity in let b = c.resize.ensures.capacity in omega (arith, a, b) in
    let told = subst (λ (ls : List Link). TellKinds c.lay_out.new.heads (chains_of (map first_in c.lay_out.new.heads) c.lay_out.new.links (length ls))) c.deref_mut-2.ensures.value c.lay_out.ensures.kinds in
    rw (heads_are, links_are) (regrown_held c.args.bits _ _ _ _ _ _ c.self.invariant c.self.view_is _ _ out told _ fits wide)

pub returns-clause-own : goal.returns-clause-own
returns-clause-own c =
    let out = subst (λ ls. AreLaidOut c.args.bits ls (map first_in c.lay_out.new.heads) c.lay_out.new.links) c.deref_mut-2.ensures.value c.lay_out.ensures.laid in
    let heads_are = written_back c.resize.new.self.len c.lay_out.new.heads (drop (length c.lay_out.new.heads) c.resize.new.self.items)
    (c.resize.new.self.ok.0 ∙ ap length (sym c.deref_mut.ensures.value) ∙ sym c.lay_out.auto.heads) in
    let links_are = written_back c.self.inside.links.len c.lay_out.new.links (drop (length c.lay_out.new.links) c.self.inside.links.items)
    (c.self.inside.links.ok.0 ∙ ap length (sym c.deref_mut-2.ensures.value) ∙ sym c.lay_out.auto.links) in
    rw (heads_are, links_are) out.own

pub returns-clause-entries : goal.returns-clause-entries
returns-clause-entries c =
    let out = subst (λ ls. AreLaidOut c.args.bits ls (map first_in c.lay_out.new.heads) c.lay_out.new.links) c.deref_mut-2.ensures.value c.lay_out.ensures.laid in
    let heads_are = written_back c.resize.new.self.len c.lay_out.new.heads (drop (length c.lay_out.new.heads) c.resize.new.self.items)
    (c.resize.new.self.ok.0 ∙ ap length (sym c.deref_mut.ensures.value) ∙ sym c.lay_out.auto.heads) in
    let links_are = written_back c.self.inside.links.len c.lay_out.new.links (drop (length c.lay_out.new.links) c.self.inside.links.items)
    (c.self.inside.links.ok.0 ∙ ap length (sym c.deref_mut-2.ensures.value) ∙ sym c.lay_out.auto.links) in
    rw (heads_are, links_are) (regrown_entries c.args.bits _ _ _ _ _ _ c.self.invariant.firsts c.self.view_is _ _ out)
