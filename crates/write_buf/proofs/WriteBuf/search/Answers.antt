use Rattle.std.proofs.Common.{rules}
use Rattle.std.proofs.lemmas.List.Sorted.{answers_always}
use Rattle.write_buf.proofs.SearchLaws.{searched}
use Rattle.write_buf.proofs.WriteBuf.search.Goals as goal

-- the closure gives a pair's offset
pub returns : goal.returns
returns c =
    let found = c.binary_search_by_key.ensures in
    let by_offset = found.position (λ pair. pair.0) (answers_always _ _ _ (λ f a r g called. search rules)) in
    rw (← c.as_slice.ensures.pairs) (searched _ c.args.offset (rw c.as_slice.ensures.pairs c.as_slice.ensures.buffered.ascend) _ found.bound by_offset)
