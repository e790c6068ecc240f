use Rattle.std.proofs.Common.{refl, rules}
use Rattle.hic_word.specs.declared.Kind.TheVariants.{Num}
use Rattle.hic_word.specs.Stands.{word_of}
use Rattle.seg_write.proofs.Forked.{forked_form}
use Rattle.seg_write.proofs.store.folded.Goals as goal

pub returns-then-is_node-2-clause-form : goal.returns-then-is_node-2-clause-form
returns-then-is_node-2-clause-form c = λ m A a p. forked_form m c.args.height c.args.pieces.now A (word_of Num 0 0) c.if-height-ge2.true a p (search rules) (c.if-is_node.ensures refl) (c.if-is_node-2.ensures refl)
