use Rattle.std.proofs.Common.{ℕ, rules, arith, ltb}
use Rattle.std.proofs.lemmas.Bool.{ltb-true, ltb-false}
use Rattle.std.proofs.lemmas.List.Sorted.{IsPartitionPoint-from_clause, IsPartitionedBy-ltb}
use Rattle.hic_word.specs.Values.{Array}
use Rattle.hic_word.specs.Changes.{AreChanges}
use Rattle.hic_word.specs.Stands.{Lookup}
use Rattle.hic_word.specs.InMemory.{ChangesFor}
use Rattle.seg_write.proofs.Cutting.{below_end, from_end, offsets_rise}
use Rattle.seg_write.proofs.changes.below.Goals as goal

pub returns : goal.returns
returns c =
    let cs = c.args.changes.now in
    let n = c.args.end in
    let i = c.partition_point.result in
    let point = λ (m : Lookup) (b : ℕ) (L : Array) (h : ChangesFor 4 m cs L) (a : AreChanges b L).
    IsPartitionPoint-from_clause (λ d. ltb d.0 n) cs i c.partition_point.ensures.partitioned (IsPartitionedBy-ltb (λ d. d.0) cs n (offsets_rise m cs L b h a)) (λ x r q k. search rules) in
    record {
      fits = c.partition_point.ensures.bound;
      low = λ m b L h a. below_end m cs L i n h (λ k d lt len. ltb-true _ n ((point m b L h a).0 k d (omega arith) lt));
      high = λ m b L h a le. from_end m cs L b i n h a (λ k d from len. ltb-false _ n ((point m b L h a).1 k d from len));
    }
