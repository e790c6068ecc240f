-- Operands: registers, numbers and names.
use Rattle.std.specs.Prelude.{ℕ, ◌-◌, ◌+◌, ◌^◌, ◌%◌, Bool, false, ◌&&◌, ◌||◌, ◌==◌, nat_le, nat_lt, if◌then◌else◌, List, [], ◌∷◌, length, drop, codes, bytes_eq, nat_eq, Option, Some, None, option_map, Result, Ok, Err}
use Rattle.std.specs.Char.{digit_value, is_ascii_digit, is_ascii_alphabetic, is_ascii_alphanumeric}
use Rattle.std.specs.List.{list_all, starts_with}
use Rattle.std.specs.Str.Parse.{digits_value}
use Rattle.hic_isa.specs.declared.instr.SegKind.{SegKind}
use Rattle.hic_isa.specs.declared.instr.SegKind.TheVariants.{Plain, Merge}
use Rattle.hic_asm.specs.declared.error.Fault.{Fault}
use Rattle.hic_asm.specs.declared.error.Fault.TheVariants.{Operand, Register, Number}
use Rattle.hic_asm.specs.declared.operand.Target.{Target as CodeTarget}
use Rattle.hic_asm.specs.declared.operand.Target.TheVariants as variants
use Rattle.hic_asm.specs.Faults.{given}

-- the greatest numbers of 16, 32 and 64 bits, and the limits of a signed number of 32 bits
abbrev pub most_16 : ℕ
most_16 = 65535

abbrev pub most_32 : ℕ
most_32 = 4294967295

abbrev pub most_64 : ℕ
most_64 = 18446744073709551615

abbrev pub most_positive : ℕ
most_positive = 2147483647

abbrev pub most_negative : ℕ
most_negative = 2147483648

-- ---- registers

-- the number in a word of this letter and one digit below `count`
abbrev pub numbered : ℕ → ℕ → List ℕ → Option ℕ
numbered letter count (first ∷ digit ∷ []) = if first == letter && (nat_le 48 digit && nat_lt digit (48 + count)) then Some (digit - 48) else None
numbered letter count word = None

-- r0 to r7; 114 is 'r'
abbrev pub register_of : List ℕ → Result ℕ Fault
register_of word = given (numbered 114 8 word) Register

-- i0 to i3; 105 is 'i'
abbrev pub iterator_of : List ℕ → Result ℕ Fault
iterator_of word = given (numbered 105 4 word) Register

-- ---- numbers

-- the number that digits of this radix write: at least one digit, and no more than `most`
abbrev pub digits_of : ℕ → ℕ → List ℕ → Option ℕ
digits_of radix most digits =
    if (nat_le 1 (length digits) && nat_le (length digits) most) && list_all (λ c. nat_lt (digit_value c) radix) digits
    then Some (digits_value radix digits) else None

-- 1 to 20 decimal digits
abbrev pub decimal_of : List ℕ → Option ℕ
decimal_of digits = digits_of 10 20 digits

-- a number: 1 to 20 decimal digits, or `0x` and 1 to 16 hexadecimal digits
abbrev pub number_of : List ℕ → Option ℕ
number_of word = if starts_with nat_eq word (codes "0x") then digits_of 16 16 (drop 2 word) else decimal_of word

-- this number, where it is from `least` to `most`
abbrev pub within : ℕ → ℕ → Option ℕ → Option ℕ
within least most (Some n) = if nat_le least n && nat_le n most then Some n else None
within least most None = None

-- a number from `least` to `most`
abbrev pub number_within : ℕ → ℕ → List ℕ → Result ℕ Fault
number_within least most word = given (within least most (number_of word)) Number

-- 1 to 20 decimal digits with an optional '-' (45) before them, as a two's complement number of 32 bits
abbrev pub signed_digits : List ℕ → Option ℕ
signed_digits word =
    if starts_with nat_eq word (codes "-") then option_map (λ n. (2 ^ 32 - n) % 2 ^ 32) (within 0 most_negative (decimal_of (drop 1 word)))
    else within 0 most_positive (decimal_of word)

abbrev pub signed_of : List ℕ → Result ℕ Fault
signed_of word = given (signed_digits word) Number

-- ---- names and targets

-- 95 is '_'
abbrev pub is_name_start : ℕ → Bool
is_name_start byte = is_ascii_alphabetic byte || byte == 95

abbrev pub is_name_byte : ℕ → Bool
is_name_byte byte = is_ascii_alphanumeric byte || byte == 95

-- a letter or `_`, then letters, digits and `_`
abbrev pub is_name : List ℕ → Bool
is_name [] = false
is_name (first ∷ rest) = is_name_start first && list_all is_name_byte rest

abbrev pub begins_with_digit : List ℕ → Bool
begins_with_digit [] = false
begins_with_digit (first ∷ rest) = is_ascii_digit first

-- where a task begins, or a jump goes: the index of an instruction, or a label
pub data Target : Type 0 where
  Index : (n : ℕ) → Target
  Label : (name : List ℕ) → Target

-- a target of the code
abbrev pub target_seen : CodeTarget → Target
target_seen (variants.Index n) = Index n
target_seen (variants.Label name) = Label name.now

abbrev pub index_of : Result ℕ Fault → Result Target Fault
index_of (Ok n) = Ok (Index n)
index_of (Err fault) = Err fault

abbrev pub target_of : List ℕ → Result Target Fault
target_of word =
    if begins_with_digit word then index_of (number_within 0 most_32 word) else
    if is_name word then Ok (Label word) else Err Operand

-- ---- kinds of segments

abbrev pub kind_of : List ℕ → Result SegKind Fault
kind_of word = if bytes_eq word (codes "plain") then Ok Plain else if bytes_eq word (codes "merge") then Ok Merge else Err Operand
