use Rattle.std.proofs.Common.{◌≡◌, ◌<◌, ◌^◌, take, ltb, true}
use Rattle.std.specs.Char.{digit_value}
use Rattle.std.specs.List.{list_all}
use Rattle.std.specs.Str.Parse.{digits_value}
use Rattle.hic_asm.proofs.operand.digits_of.Given as goal

-- the digits so far, and their value
abbrev pub invariant-loop-byte : goal.invariant-loop-byte
invariant-loop-byte l = record {
  all : list_all (λ c. ltb (digit_value c) l.radix) (take l.byte-index l.digits) ≡ true;
  value : l.value ≡ digits_value l.radix (take l.byte-index l.digits);
  below : l.value < 16 ^ l.byte-index;
}
