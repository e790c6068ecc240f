use Rattle.std.proofs.Common.{ℕ, [], ◌∷◌, ◌++◌, length, get_or, ap, ◌∙◌, sym, arith, append_assoc}
use Rattle.std.proofs.lemmas.Option.{slice_get-get_or}
use Rattle.line_slots.specs.declared.chains.Link.{Link}
use Rattle.line_slots.specs.ChainLinks.{members}
use Rattle.line_slots.proofs.ChainReads.{chain_low, chain_step, later_in}
use Rattle.line_slots.proofs.chains.before_slot.Goals as goal

abbrev absent : Link
absent = record { next = 0; key = 0 }

pub loop-at-init : goal.loop-at-init
loop-at-init c =
    let low = chain_low c.args.links.now (omega (arith, c.requires.few)) c.args.first c.args.slot c.requires.ends c.requires.there in
    let (split, ends) = chain_step c.args.links.now (omega (arith, c.requires.few)) c.args.first c.args.slot _ c.requires.ends c.requires.there (slice_get-get_or c.args.links.now c.args.first absent low) in
    record {
      split = ([], split);
      ends = ends;
      there = later_in c.args.links.now (omega (arith, c.requires.few)) c.args.first c.args.slot _ split c.requires.later c.requires.there;
    }

pub bounds-links-at : goal.bounds-links-at
bounds-links-at c = chain_low c.args.links.now (omega (arith, c.requires.few)) c.loop-at.at c.args.slot c.loop-at.invariant.ends c.loop-at.invariant.there

pub loop-at-smaller : goal.loop-at-smaller
loop-at-smaller c =
    let low = chain_low c.args.links.now (omega (arith, c.requires.few)) c.loop-at.at c.args.slot c.loop-at.invariant.ends c.loop-at.invariant.there in
    let (split, ends) = chain_step c.args.links.now (omega (arith, c.requires.few)) c.loop-at.at c.args.slot _ c.loop-at.invariant.ends c.loop-at.invariant.there (slice_get-get_or c.args.links.now c.loop-at.at absent low) in
    let longer = ap length split in
    omega (arith, longer)

pub loop-at-preserved : goal.loop-at-preserved
loop-at-preserved c =
    let low = chain_low c.args.links.now (omega (arith, c.requires.few)) c.loop-at.at c.args.slot c.loop-at.invariant.ends c.loop-at.invariant.there in
    let (split, ends) = chain_step c.args.links.now (omega (arith, c.requires.few)) c.loop-at.at c.args.slot _ c.loop-at.invariant.ends c.loop-at.invariant.there (slice_get-get_or c.args.links.now c.loop-at.at absent low) in
    let (xs, all) = c.loop-at.invariant.split in
    record {
      split = (
        xs ++ c.loop-at.before ∷ [],
        all ∙ ap (λ ys. xs ++ c.loop-at.before ∷ ys) split ∙ sym (append_assoc xs (c.loop-at.before ∷ []) (c.loop-at.at ∷ members c.args.links.now _)),
      );
      ends = ends;
      there = later_in c.args.links.now (omega (arith, c.requires.few)) c.loop-at.at c.args.slot _ split c.loop-at-test.true c.loop-at.invariant.there;
    }

pub returns : goal.returns
returns c =
    let low = chain_low c.args.links.now (omega (arith, c.requires.few)) c.loop-at.at c.args.slot c.loop-at.invariant.ends c.loop-at.invariant.there in
    let (split, ends) = chain_step c.args.links.now (omega (arith, c.requires.few)) c.loop-at.at c.args.slot _ c.loop-at.invariant.ends c.loop-at.invariant.there (slice_get-get_or c.args.links.now c.loop-at.at absent low) in
    let (xs, all) = c.loop-at.invariant.split in
    (xs, members c.args.links.now ((get_or c.args.links.now c.loop-at.at absent).next), all ∙ ap (λ ys. xs ++ c.loop-at.before ∷ ys) (split ∙ ap (λ (s : ℕ). s ∷ members c.args.links.now ((get_or c.args.links.now c.loop-at.at absent).next)) c.loop-at-test.false))
