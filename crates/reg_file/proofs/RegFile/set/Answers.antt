use Rattle.std.proofs.Common.{◌∙◌, ap, length, length-set}
use Rattle.hic_word.specs.declared.Kind.TheVariants.{Num}
use Rattle.hic_word.specs.Stands.{word_of}
use Rattle.reg_file.proofs.RegFile.set.Goals as goal

pub set_number-requires-clause-number : goal.set_number-requires-clause-number
set_number-requires-clause-number g c = c.holds_number.ensures.number c.if-holds_number.true

pub returns-then-holds_number-clause-eight : goal.returns-then-holds_number-clause-eight
returns-then-holds_number-clause-eight g c = ap length c.set_number.ensures.words ∙ length-set c.args.self.now c.args.r (word_of Num 0 c.args.word.bits) ∙ c.holds_number.ensures.eight

pub returns-then-holds_number-clause-exchanges : goal.returns-then-holds_number-clause-exchanges
returns-then-holds_number-clause-exchanges g c = c.set_number.ensures.exchanges (g.M.HoldCounts.memory c.args.mem.now)
