use Rattle.std.proofs.Common.{sym, ◌∙◌, ap, arith}
use Rattle.seg_read.specs.Founds.{word_in}
use Rattle.seg_cursor.proofs.Words.{word_at}
use Rattle.seg_cursor.proofs.row.Row.word.Goals as goal

pub returns : goal.returns
returns c = sym (word_at c.self.inside.bits c.self.inside.tags c.args.place _ _ (omega arith) (omega arith)) ∙ ap (λ words. word_in words c.args.place) c.self.view_is
