use Rattle.std.proofs.Common.{sym, ◌∙◌}
use Rattle.merge_update.proofs.Joining.{joins_mine, joins_none, joins_old, not_so}
use Rattle.merge_update.proofs.join.join.Goals.{else-same_word, then-same_word}
use Rattle.merge_update.proofs.join.join.Goals as goal

pub returns-then-same_word-2 : goal.returns-then-same_word-2
returns-then-same_word-2 c = λ m v u t unique d e f. rw c.in-Merge.is (elim c.if-same_word.branch [
  | then-same_word w ↦ joins_old m unique c.args.old c.args.mine c.args.present v u t d e f (c.same_word.ensures.0 w.if-same_word.true)
  | else-same_word w ↦ joins_mine m unique c.args.old c.args.mine c.args.present v u t d e f (w.same_word-else-same_word.ensures.0 (sym w.value-is ∙ c.if-same_word-2.true))
])

pub returns-else-same_word-2 : goal.returns-else-same_word-2
returns-else-same_word-2 c = λ m v u t unique d e f. rw c.in-Merge.is (elim c.if-same_word.branch [
  | then-same_word w ↦ absurd (let g = sym w.value-is ∙ c.if-same_word-2.false in cc)
  | else-same_word w ↦ joins_none m unique c.args.old c.args.mine c.args.present v u t d e f (not_so c.same_word.ensures w.if-same_word.false) (not_so w.same_word-else-same_word.ensures (sym w.value-is ∙ c.if-same_word-2.false))
])
