-- What an operation gives for two numbers below 2^64.
use Rattle.std.specs.Prelude.{◌≡◌, ℕ, ◌+◌, ◌-◌, ◌*◌, ◌/◌, ◌%◌, ◌^◌, nat_lt, if◌then◌else◌, bit_and, bit_or, bit_xor, refl}
use Rattle.hic_isa.specs.declared.instr.AluOp.{AluOp}
use Rattle.hic_isa.specs.declared.instr.AluOp.TheVariants.{Add, Sub, Mul, Div, Rem, And, Or, Xor, Shl, Shr, Ltu}

-- arithmetic is modulo 2^64, a shift goes by the second number modulo 64, and `Ltu` is 1 where the first is less
abbrev pub value_of : AluOp → ℕ → ℕ → ℕ
value_of Add x y = (x + y) % 2 ^ 64
value_of Sub x y = (x + 2 ^ 64 - y) % 2 ^ 64
value_of Mul x y = (x * y) % 2 ^ 64
value_of Div x y = x / y
value_of Rem x y = x % y
value_of And x y = bit_and x y
value_of Or x y = bit_or x y
value_of Xor x y = bit_xor x y
value_of Shl x y = (x * 2 ^ (y % 64)) % 2 ^ 64
value_of Shr x y = x / 2 ^ (y % 64)
value_of Ltu x y = if nat_lt x y then 1 else 0

row-add : value_of Add (2 ^ 64 - 1) 3 ≡ 2
row-add = refl

row-sub : value_of Sub 2 3 ≡ 2 ^ 64 - 1
row-sub = refl

row-mul : value_of Mul (2 ^ 63) 2 ≡ 0
row-mul = refl

row-shl : value_of Shl 3 127 ≡ 2 ^ 63
row-shl = refl

row-shr : value_of Shr (2 ^ 63) 127 ≡ 1
row-shr = refl

row-ltu : value_of Ltu 1 (2 ^ 64 - 1) ≡ 1
row-ltu = refl
