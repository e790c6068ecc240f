use Rattle.std.proofs.Common.{◌≡◌, ◌-◌, length, refl, sym, ◌∙◌, subst, arith}
use Rattle.std.proofs.lemmas.List.{length-replicate, length-set}
use Rattle.seg_canon.specs.Parts.{QuartersFor, whole_part}
use Rattle.seg_canon.proofs.Quarters.{all_made, one_made, quarters_of_line}
use Rattle.seg_canon.proofs.parts.parts_of.Goals as goal

pub loop-place-init : goal.loop-place-init
loop-place-init g c = record { long = length-replicate g.row.W c.whole-parts.result; done = refl }

pub loop-place-preserved : goal.loop-place-preserved
loop-place-preserved g c =
    let long = c.loop-place.invariant.long in
    let all : length c.args.line.now.w ≡ g.row.W = c.args.line.now.long in
    record {
      long = length-set c.loop-place.parts c.loop-place.place c.whole.result ∙ long;
      done = one_made (whole_part (c.args.height - 1)) c.args.line.now.w c.loop-place.parts c.loop-place.place _ c.whole.result (omega (arith, all)) (omega (arith, long)) c.loop-place.invariant.done c.whole.ensures;
    }

pub returns-clause-parts : goal.returns-clause-parts
returns-clause-parts g c =
    let long = c.loop-place.invariant.long in
    let all : length c.args.line.now.w ≡ g.row.W = c.args.line.now.long in
    all_made (whole_part (c.args.height - 1)) c.args.line.now.w c.loop-place.parts c.loop-place.place (omega (arith, all)) (omega (arith, long)) c.loop-place.invariant.done

pub returns-clause-stand : goal.returns-clause-stand
returns-clause-stand g c = λ m A L a made f.
    let long = c.loop-place.invariant.long in
    let all : length c.args.line.now.w ≡ g.row.W = c.args.line.now.long in
    let same = all_made (whole_part (c.args.height - 1)) c.args.line.now.w c.loop-place.parts c.loop-place.place (omega (arith, all)) (omega (arith, long)) c.loop-place.invariant.done in
    subst (QuartersFor g.row.W m c.args.height A 0) (sym same) (quarters_of_line c.requires.wide m c.args.height A L c.args.line.now.w c.requires.high a made f)
