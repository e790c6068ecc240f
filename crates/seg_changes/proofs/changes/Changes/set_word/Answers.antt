use Rattle.std.proofs.Common.{◌∙◌, ap, slice_set}
use Rattle.seg_changes.specs.ChangeList.{with_word}
use Rattle.seg_changes.proofs.PairLists.{set_is}
use Rattle.seg_changes.proofs.changes.Changes.set_word.Goals as goal

pub returns : goal.returns
returns c =
    let ps = c.self.inside.pairs.items in
    let there = c.requires in
    ap (λ (o : _). slice_set ps c.args.k (o, c.args.word)) (ap (λ p. p.0) c.index_mut.ensures.value)
    ∙ set_is ps c.args.k c.args.word c.index_mut.result.now
    ∙ ap (λ xs. with_word xs c.args.k c.args.word) c.self.view_is
