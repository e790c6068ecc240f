use Rattle.std.proofs.Common.{◌∙◌, ap, subst, sym, arith}
use Rattle.hic_word.specs.Exchanges.{Exchanges}
use Rattle.iter_regs.specs.Iters.{iter_words}
use Rattle.form_rows.specs.OneLine.{IsOneLine, WentTo}
use Rattle.form_rows.proofs.Loading.{emptied_last, emptied_line, emptied_usable, emptied_words}
use Rattle.form_rows.proofs.loads.load_aborted.Goals as goal

pub returns-in_err-abort-clause-usable : goal.returns-in_err-abort-clause-usable
returns-in_err-abort-clause-usable g c = emptied_usable (g.M.HoldCounts.memory c.args.mem.now) (g.M.HoldCounts.memory c.abort.new.mem) c.args.reg.now c.abort.new.self c.abort.ensures.open c.abort.ensures.exchanges c.requires.usable

pub returns-in_err-abort-clause-words : goal.returns-in_err-abort-clause-words
returns-in_err-abort-clause-words g c = ap iter_words c.abort.ensures.open ∙ emptied_words c.args.reg.now c.requires.line

pub load_at-requires-clause-usable : goal.load_at-requires-clause-usable
load_at-requires-clause-usable g c = emptied_usable (g.M.HoldCounts.memory c.args.mem.now) (g.M.HoldCounts.memory c.abort.new.mem) c.args.reg.now c.abort.new.self c.abort.ensures.open c.abort.ensures.exchanges c.requires.usable

pub load_at-requires-clause-line : goal.load_at-requires-clause-line
load_at-requires-clause-line g c = subst IsOneLine (sym c.abort.ensures.open) (emptied_line c.args.reg.now c.requires.line)

pub returns-clause-words : goal.returns-clause-words
returns-clause-words g c = c.load_at.ensures.words ∙ ap iter_words c.abort.ensures.open ∙ emptied_words c.args.reg.now c.requires.line

pub returns-clause-exchanges : goal.returns-clause-exchanges
returns-clause-exchanges g c = subst (Exchanges (g.M.HoldCounts.memory c.args.mem.now) (g.M.HoldCounts.memory c.abort.new.mem) (iter_words c.args.reg.now)) (sym c.load_at.ensures.words) c.abort.ensures.exchanges

pub returns-clause-looks : goal.returns-clause-looks
returns-clause-looks g c = c.load_at.ensures.near 3 (omega arith) (subst (λ o. WentTo o 3) (sym c.abort.ensures.open) (emptied_last c.args.reg.now 3 c.requires.last)) ∙ c.abort.ensures.looks
