use Rattle.std.proofs.Common.{◌≡◌, ◌<◌, ◌≤◌, ◌+◌, ◌-◌, ◌++◌, ◌∷◌, [], length, drop, take, sym, ◌∙◌, ap, subst, None, arith}
use Rattle.std.specs.Prelude.{map}
use Rattle.hic_object.specs.Parts.{AreRecords}
use Rattle.hic_machine.specs.Loads.{of_segment, run_of, write_of, writes_from}
use Rattle.hic_machine.proofs.Filling.{all_left, all_writes, left_behind, run_of_records, writes_more}
use Rattle.hic_machine.proofs.loading.writes_of.Goals as goal

pub loop-segment-init : goal.loop-segment-init
loop-segment-init c =
    let o = c.args.object.now in
    record {
      writes = c.in_ok-writes.ensures.items;
      left = all_left (length o.kinds) o.words (subst (AreRecords (length o.kinds) None) c.words-records.ensures.words c.words-records.ensures.records);
    }

pub loop-segment-preserved : goal.loop-segment-preserved
loop-segment-preserved c =
    let o = c.args.object.now in
    let s = c.loop-segment.segment in
    let from = c.loop-segment.at in
    let end = c.end_of-end.result in
    let records = c.words-records.ensures.words in
    let low : s < length o.kinds = omega (arith, c.loop-segment-test.true, c.segments-segment-end.ensures.count) in
    let behind : end ≡ from + run_of s (drop from o.words) = c.end_of-end.ensures.run ∙ ap (λ ds. from + run_of s (drop from ds)) records in
    let list : c.in_ok-of.field-0 ≡ map write_of (of_segment s o.words) = c.in_ok-of.ensures ∙ ap (λ ds. map write_of (take (end - from) (drop from ds))) records ∙ ap (map write_of) (run_of_records s from end o.words c.loop-segment.invariant.left behind) in
    record {
      writes = c.in_ok-push.ensures.items ∙ ap (λ ws. ws ++ c.in_ok-of.field-0 ∷ []) c.loop-segment.invariant.writes ∙ ap (λ w. take s (writes_from 0 o.kinds o.words) ++ w ∷ []) list ∙ sym (writes_more s o.kinds o.words low);
      left = left_behind s from end o.words c.loop-segment.invariant.left behind (subst (λ ds. end ≤ length ds) records c.end_of-end.ensures.bound);
    }

pub returns : goal.returns
returns c =
    let o = c.args.object.now in
    c.loop-segment.invariant.writes ∙ all_writes c.loop-segment.segment o.kinds o.words (omega (arith, c.loop-segment-test.false, c.segments-segment-end.ensures.count))
