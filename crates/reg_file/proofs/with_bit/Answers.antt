use Rattle.std.proofs.Common.{◌∙◌, ap, sym, w8}
use Rattle.std.specs.Int.{from_bool}
use Rattle.std.proofs.lemmas.Nat.Bits.{bit_at_clear_other, bit_at_clear_same, bit_at_set_other, bit_at_set_same}
use Rattle.reg_file.proofs.with_bit.Goals as goal

pub returns-then-set-clause-there : goal.returns-then-set-clause-there
returns-then-set-clause-there c = bit_at_set_same w8 c.args.bits c.args.r c.requires ∙ ap from_bool (sym c.if-set.true)

pub returns-then-set-clause-elsewhere : goal.returns-then-set-clause-elsewhere
returns-then-set-clause-elsewhere c = λ i low other. bit_at_set_other w8 c.args.bits c.args.r c.requires i other

pub returns-else-set-clause-there : goal.returns-else-set-clause-there
returns-else-set-clause-there c = bit_at_clear_same w8 c.args.bits c.args.r c.requires ∙ ap from_bool (sym c.if-set.false)

pub returns-else-set-clause-elsewhere : goal.returns-else-set-clause-elsewhere
returns-else-set-clause-elsewhere c = λ i low other. bit_at_clear_other w8 c.args.bits c.args.r c.requires i low other
