-- Values and numbers that fit, and lists whose members do.
use Rattle.std.proofs.Common.{ℕ, zero, suc, ◌+◌, ◌*◌, ◌%◌, ◌^◌, ◌<◌, Bool, true, false, cond, List, [], ◌∷◌, Option, None, arith, get_or, map, ◌-◌, ◌/◌, sym, subst}
use Rattle.std.specs.Prelude.{IfSome, IfOk, slice_get, slice_set, nat_lt, bit_and}
use Rattle.std.specs.List.{AllByRecursion}
use Rattle.std.proofs.Math.Nat.{mod-lt, div-le_self}
use Rattle.std.proofs.lemmas.Nat.{and_le_l, or_lt, xor_lt}
use Rattle.hic_isa.specs.declared.instr.AluOp.{AluOp}
use Rattle.hic_isa.specs.declared.instr.AluOp.TheVariants as op
use Rattle.hic_exec.specs.Outcome.{of_numbers}
use Rattle.hic_word.specs.Values.{Value, Number, Ref, Pairs, Array, IsValue, ArePairs, AreValues, IsArray, array, pairs, pairs-array}
use Rattle.hic_plain.specs.Machine.{no_words}
use Rattle.hic_plain.specs.Step.{one_if}

-- ---- lists

pub all-set : {X : Type 0} (P : X → Type 0) (xs : List X) (i : ℕ) (x : X) → AllByRecursion P xs → P x → AllByRecursion P (slice_set xs i x)
all-set P [] i x all is = tt
all-set P (y ∷ xs) zero x all is = (is, all.1)
all-set P (y ∷ xs) (suc i) x all is = (all.0, all-set P xs i x all.1 is)

pub all-get : {X : Type 0} (P : X → Type 0) (xs : List X) (i : ℕ) → AllByRecursion P xs → IfSome (slice_get xs i) P
all-get P [] i all = tt
all-get P (x ∷ xs) zero all = all.0
all-get P (x ∷ xs) (suc i) all = all-get P xs i all.1

pub all-map : {X Y : Type 0} (P : X → Type 0) (Q : Y → Type 0) (f : X → Y) → ((x : X) → P x → Q (f x)) → (xs : List X) → AllByRecursion P xs → AllByRecursion Q (map f xs)
all-map P Q f each [] all = tt
all-map P Q f each (x ∷ xs) all = (each x all.0, all-map P Q f each xs all.1)

pub values-set : (vs : List Value) (r : ℕ) (v : Value) → AreValues vs → IsValue v → AreValues (slice_set vs r v)
values-set [] r v are is = tt
values-set (w ∷ vs) zero v are is = (is, are.1)
values-set (w ∷ vs) (suc r) v are is = (are.0, values-set vs r v are.1 is)

pub number-fits : (n : ℕ) → n < 2 ^ 64 → IsValue (Number n)
unfolding IsValue
number-fits n fits = fits

pub reg-fits : (vs : List Value) (r : ℕ) → AreValues vs → IsValue (get_or vs r (Number 0))
reg-fits [] r are = number-fits 0 (omega arith)
reg-fits (v ∷ vs) zero are = are.0
reg-fits (v ∷ vs) (suc r) are = reg-fits vs r are.1

pub zeros-fit : AreValues no_words
zeros-fit =
    let fits = number-fits 0 (omega arith) in
    (fits, (fits, (fits, (fits, (fits, (fits, (fits, (fits, tt))))))))

-- what is in a list where it is long enough, and else is nothing
pub all-optional : {X : Type 0} (P : X → Type 0) (xs : List (Option X)) (i : ℕ) → AllByRecursion (λ x. IfSome x P) xs → IfSome (get_or xs i None) P
all-optional P [] i all = tt
all-optional P (x ∷ xs) zero all = all.0
all-optional P (x ∷ xs) (suc i) all = all-optional P xs i all.1

-- ---- references

pub reference-fits : (A : Array) → IsArray A → IsValue (Ref (pairs A))
unfolding IsValue
reference-fits A valid = valid

pub referenced-fits : (H : Pairs) → IsValue (Ref H) → IsArray (array H)
unfolding IsValue
referenced-fits H fits = subst (ArePairs 0) (sym (pairs-array H)) fits

-- ---- numbers

pub mod-fits : (n : ℕ) → n % 2 ^ 64 < 2 ^ 64
mod-fits n = mod-lt n (omega arith)

pub half-fits : (n imm : ℕ) → imm < 2 ^ 32 → n % 2 ^ 32 + imm * 2 ^ 32 < 2 ^ 64
half-fits n imm fits =
    let low : n % 2 ^ 32 < 2 ^ 32 = mod-lt n (omega arith) in
    omega (arith, low, fits)

pub one_if-fits : (b : Bool) → one_if b < 2 ^ 64
one_if-fits true = omega arith
one_if-fits false = omega arith

less-fits : (b : Bool) → cond b 1 0 < 2 ^ 64
less-fits true = omega arith
less-fits false = omega arith

quotient-fits : (x y : ℕ) → x < 2 ^ 64 → x / y < 2 ^ 64
quotient-fits x y fits = let le = div-le_self x y in omega (arith, fits, le)

rest-fits : (x y : ℕ) → y < 2 ^ 64 → x % suc y < 2 ^ 64
rest-fits x y fits = let low : x % suc y < suc y = mod-lt x (omega arith) in omega (arith, low, fits)

and-fits : (x y : ℕ) → x < 2 ^ 64 → bit_and x y < 2 ^ 64
and-fits x y fits = let le = and_le_l x y in omega (arith, fits, le)

pub outcome-fits : (o : AluOp) (x y : ℕ) → x < 2 ^ 64 → y < 2 ^ 64 → IfOk (of_numbers o x y) (λ n. n < 2 ^ 64)
outcome-fits op.Add x y one two = mod-fits (x + y)
outcome-fits op.Sub x y one two = mod-fits (x + 2 ^ 64 - y)
outcome-fits op.Mul x y one two = mod-fits (x * y)
outcome-fits op.Div x zero one two = tt
outcome-fits op.Div x (suc y) one two = quotient-fits x (suc y) one
outcome-fits op.Rem x zero one two = tt
outcome-fits op.Rem x (suc y) one two = rest-fits x y (omega (arith, two))
outcome-fits op.And x y one two = and-fits x y one
outcome-fits op.Or x y one two = or_lt 64 x y one two
outcome-fits op.Xor x y one two = xor_lt 64 x y one two
outcome-fits op.Shl x y one two = mod-fits (x * 2 ^ (y % 64))
outcome-fits op.Shr x y one two = quotient-fits x (2 ^ (y % 64)) one
outcome-fits op.Ltu x y one two = less-fits (nat_lt x y)
