-- What an operation gives for two words, or why it gives none.
use Rattle.std.specs.Prelude.{ℕ, zero, suc, Result, Ok, Err}
use Rattle.hic_isa.specs.declared.instr.AluOp.{AluOp}
use Rattle.hic_isa.specs.declared.instr.AluOp.TheVariants.{Add, Sub, Mul, Div, Rem, And, Or, Xor, Shl, Shr, Ltu}
use Rattle.hic_exec.specs.declared.arithmetic.Operand.{Operand}
use Rattle.hic_exec.specs.declared.arithmetic.Operand.TheVariants.{Number, Reference}
use Rattle.hic_exec.specs.declared.arithmetic.AluFault.{AluFault}
use Rattle.hic_exec.specs.declared.arithmetic.AluFault.TheVariants.{BadType, ZeroDivisor}
use Rattle.hic_exec.specs.Value.{value_of}

-- a division by 0 has no value
abbrev pub divided : AluOp → ℕ → ℕ → Result ℕ AluFault
divided op x zero = Err ZeroDivisor
divided op x (suc n) = Ok (value_of op x (suc n))

abbrev pub of_numbers : AluOp → ℕ → ℕ → Result ℕ AluFault
of_numbers Div x y = divided Div x y
of_numbers Rem x y = divided Rem x y
of_numbers Add x y = Ok (value_of Add x y)
of_numbers Sub x y = Ok (value_of Sub x y)
of_numbers Mul x y = Ok (value_of Mul x y)
of_numbers And x y = Ok (value_of And x y)
of_numbers Or x y = Ok (value_of Or x y)
of_numbers Xor x y = Ok (value_of Xor x y)
of_numbers Shl x y = Ok (value_of Shl x y)
of_numbers Shr x y = Ok (value_of Shr x y)
of_numbers Ltu x y = Ok (value_of Ltu x y)

-- both words must be numbers
abbrev pub outcome_of : AluOp → Operand → Operand → Result ℕ AluFault
outcome_of op (Number x) (Number y) = of_numbers op x y
outcome_of op (Number x) Reference = Err BadType
outcome_of op Reference y = Err BadType
