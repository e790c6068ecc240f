-- Rows on registers that hold numbers, whatever the memory and what all tasks share.
use Rattle.std.proofs.Common.{◌≡◌, ℕ, zero, suc, ◌+◌, ◌*◌, ◌%◌, ◌^◌, ◌<◌, eqb, Bool, true, false, not, if◌then◌else◌, List, [], ◌∷◌, min, Ok, refl, sym, ◌∙◌, ap, subst, arith, w8}
use Rattle.std.specs.Prelude.{bit_and, bit_or, flat_map, slice_index_or, slice_set}
use Rattle.std.specs.Int.{bit_at, from_bool}
use Rattle.std.proofs.lemmas.Nat.Bits.{bit_at-lt, bit_at-zero, bit_at_and, bit_at_or, bit_at_set_same}
use Rattle.hic_exec.specs.Outcome.{of_numbers}
use Rattle.hic_isa.specs.declared.instr.AluOp.{AluOp}
use Rattle.hic_isa.specs.declared.instr.Instr.{Instr}
use Rattle.hic_isa.specs.declared.instr.Instr.TheVariants.{Li, Lih, Mov, Addi, Alu, Eq, Isref, Jmp, Jz, Jnz}
use Rattle.hic_isa.specs.declared.instr.Instr.TheVariants as instr
use Rattle.hic_word.specs.declared.Kind.{Kind}
use Rattle.hic_word.specs.declared.Kind.TheVariants.{Num}
use Rattle.hic_word.specs.declared.Word.{Word}
use Rattle.hic_word.specs.Exchanges.{Exchanges}
use Rattle.hic_word.specs.Memory.{Memory, line_at, width}
use Rattle.hic_word.specs.Stands.{AWord, IsEmpty, IsNumber, IsPacked, IsStored, Lookup, WordFor, WordsFor, word_of}
use Rattle.hic_word.specs.Same.{same_value}
use Rattle.hic_word.specs.Values.{Number, Value, is_zero}
use Rattle.hic_word.proofs.callers.Holds.{exchanges_before, exchanges_nothing, exchanges_reshapes, reshapes_behind}
use Rattle.iter_regs.specs.Iters.{iter_words}
use Rattle.segment_map.specs.Segments.{roots}
use Rattle.hic_plain.specs.declared.turn.Turn.TheVariants.{Went}
use Rattle.hic_plain.specs.Machine.{Machine, Task}
use Rattle.hic_plain.specs.Step.{act, computes, is_reference, one_if, sign_extended}
use Rattle.hic_plain.specs.Turns.{after, jumps_if, next, reg, sets, with_reg}
use Rattle.hic_plain.proofs.RowLaws.{addi_of, alu_of, lih_of}
use Rattle.reg_file.specs.Numbers.{HasNumber, HoldsNumber, TellsOthers}
use Rattle.hic_task.specs.declared.task.Task.{Task as Kept}
use Rattle.hic_task.specs.Acting.{CanAct}
use Rattle.hic_task.specs.OnNumbers.{HasBits, HaveNumbers, IsPut, RowIsMade}
use Rattle.hic_task.proofs.NumberRows.{one_if_is, sets_same}
use Rattle.hic_task.proofs.Places.{value_at, words_with}

-- ---- the registers that are named, as bits

-- bits of which none is set in both
module _ (others bits : ℕ) (apart : bit_and others bits ≡ 0) where
  bit_clear : (r : ℕ) → bit_at bits r ≡ 1 → bit_at others r ≡ 0
  bit_clear r set =
      let both : min (bit_at others r) (bit_at bits r) ≡ 0 = sym (bit_at_and others bits r) ∙ ap (λ n. bit_at n r) apart ∙ bit_at-zero r in
      let low = bit_at-lt others r in
      omega (arith, both, set, low)

  pub have_numbers : (ws : List Word) {a b c : ℕ} → TellsOthers others ws → HasBits bits a b c → HaveNumbers ws a b c
  have_numbers ws {a} {b} {c} tells set = record {
    first = λ x there. (tells a x there).0 (bit_clear a set.first);
    second = λ x there. (tells b x there).0 (bit_clear b set.second);
    third = λ x there. (tells c x there).0 (bit_clear c set.third);
  }

-- the bit of a register, which a byte has room for
pub one_bit : (r n : ℕ) → n ≡ r → r < 8 → bit_at (1 * 2 ^ n % 256) r ≡ 1
one_bit r n same low = ap (λ k. bit_at (1 * 2 ^ k % 256) r) same ∙ (let e = bit_at_set_same w8 0 r low in let f = bit_at_or 0 (1 * 2 ^ r % 256) r in let z = bit_at-zero r in omega (arith, e, f, z))

-- where no register holds anything else
pub all_numbers : (others : ℕ) (ws : List Word) (a b c : ℕ) → others ≡ 0 → TellsOthers others ws → HaveNumbers ws a b c
all_numbers others ws a b c none tells = record { first = number a; second = number b; third = number c }
  where
    number : (r : ℕ) → HasNumber ws r
    number r x there = (tells r x there).0 (ap (λ n. bit_at n r) none ∙ bit_at-zero r)

-- a bit that is set in one of several is set in all together
pub bits_set : (x y z a b c : ℕ) → bit_at x a ≡ 1 → bit_at y b ≡ 1 → bit_at z c ≡ 1 → HasBits (bit_or (bit_or x y) z) a b c
bits_set x y z a b c first second third = record {
  first = (let low = bit_at-lt y a in let more = bit_at-lt z a in let e = bit_at_or (bit_or x y) z a in let f = bit_at_or x y a in omega (arith, first, low, more, e, f));
  second = (let low = bit_at-lt x b in let more = bit_at-lt z b in let e = bit_at_or (bit_or x y) z b in let f = bit_at_or x y b in omega (arith, second, low, more, e, f));
  third = (let low = bit_at-lt x c in let more = bit_at-lt y c in let e = bit_at_or (bit_or x y) z c in let f = bit_at_or x y c in omega (arith, third, low, more, e, f));
}

-- ---- what a register holds

kinds_same : (n : ℕ) {k : Kind} {h b : ℕ} → word_of Num 0 n ≡ word_of k h b → Num ≡ k
kinds_same n e = ap (λ (x : Word). x.kind) e

module _ {w : ℕ} {m : Lookup} (n : ℕ) where
  number_is : (v : Value) → WordFor w m (word_of Num 0 n) v → v ≡ Number n
  number_is v (IsNumber e) = ap (λ (x : Word). Number x.bits) (sym e)
  number_is v (IsEmpty e) = absurd (let a = kinds_same n e in cc)
  number_is v (IsPacked r e) = absurd (let a = kinds_same n e in cc)
  number_is v (IsStored r i e) = absurd (let a = kinds_same n e in cc)

-- a register that holds some number, or none that is there
number_at : (w : ℕ) (m : Lookup) (ws : List Word) (vs : List Value) (r : ℕ) → WordsFor w m ws vs → HasNumber ws r → (n : ℕ) × (slice_index_or vs r (Number 0) ≡ Number n)
number_at w m [] [] r d has = (0, refl)
number_at w m [] (v ∷ vs) r d has = elim d [ ]
number_at w m (x ∷ ws) [] r d has = elim d [ ]
number_at w m (x ∷ ws) (v ∷ vs) zero (AWord d ds) has = (x.bits, number_is x.bits v (subst (λ y. WordFor w m y v) (has x refl) d))
number_at w m (x ∷ ws) (v ∷ vs) (suc r) (AWord d ds) has = number_at w m ws vs r ds has

pub reg_is : {m : Memory} {k : Kept} {P : Machine} {t : ℕ} {T : Task} (r : ℕ) {n : ℕ} → HoldsNumber k.regs r n → CanAct m k P t T → reg T r ≡ Number n
reg_is {m} {k} {P} {t} {T} r {n} holds can = number_is n (reg T r) (value_at (width m) (line_at m) k.regs T.regs r (word_of Num 0 n) can.task_for.regs holds)

-- ---- rows

module _ {old : List Word} {pc number : ℕ} {i : Instr} where
  -- the task goes on elsewhere, and its registers stay
  gone_made : (there : ℕ) → ((m : Memory) (k : Kept) (P : Machine) (T : Task) → CanAct m (record k { regs = old; pc = pc }) P number T → act P number T i ≡ after P number (record T { pc = there }) Went) → RowIsMade old old pc there number i
  gone_made there told m s k = record {
    acts = λ P T can for. record {
      left = record T { pc = there };
      segments = P.segments;
      task_for = record { runs = can.task_for.runs; pc = refl; regs = can.task_for.regs; iters = can.task_for.iters };
      segments_for = for.segments_for;
      is = told m k P T can ∙ ap (λ (b : List ℕ). (record P { tasks = slice_set P.tasks number (record T { pc = there }); input = b }, Went)) (sym for.input);
    };
    reshapes = exchanges_reshapes (exchanges_nothing m _);
    trapped = tt;
  }

module _ {old new : List Word} {pc number : ℕ} {i : Instr} where
  -- a register that holds a number gets another one
  pub set_made : (a x : ℕ) {there : ℕ} → there ≡ pc + 1 → new ≡ slice_set old a (word_of Num 0 x) → ((m : Memory) → Exchanges m m old new)
      → ((m : Memory) (k : Kept) (P : Machine) (T : Task) → CanAct m (record k { regs = old; pc = pc }) P number T → act P number T i ≡ sets P number T a (Number x)) → RowIsMade old new pc there number i
  set_made a x is_next words exchanges told m s k = record {
    acts = λ P T can for. record {
      left = next (with_reg T a (Number x));
      segments = P.segments;
      task_for = record {
        runs = can.task_for.runs;
        pc = is_next ∙ ap (λ n. n + 1) can.task_for.pc;
        regs = rw words (words_with (width m) (line_at m) old T.regs a (word_of Num 0 x) (Number x) can.task_for.regs (IsNumber refl));
        iters = can.task_for.iters;
      };
      segments_for = for.segments_for;
      is = told m k P T can ∙ ap (λ (b : List ℕ). (record P { tasks = slice_set P.tasks number (next (with_reg T a (Number x))); input = b }, Went)) (sym for.input);
    };
    reshapes = reshapes_behind (exchanges_reshapes (exchanges_before (exchanges m) (flat_map iter_words k.iters))) (roots s.segments);
    trapped = tt;
  }

  -- a jump, or none
  pub jump_made : (test : Bool) (imm : ℕ) {there : ℕ} → there ≡ (if test then imm else pc + 1) → new ≡ old
      → ((m : Memory) (k : Kept) (P : Machine) (T : Task) → CanAct m (record k { regs = old; pc = pc }) P number T → act P number T i ≡ jumps_if test P number T imm) → RowIsMade old new pc there number i
  jump_made test imm {there} goes same told = subst (λ ws. RowIsMade old ws pc there number i) (sym same) (subst (λ n. RowIsMade old old pc n number i) (sym goes) (go test told))
    where
      go : (b : Bool) → ((m : Memory) (k : Kept) (P : Machine) (T : Task) → CanAct m (record k { regs = old; pc = pc }) P number T → act P number T i ≡ jumps_if b P number T imm) → RowIsMade old old pc (if b then imm else pc + 1) number i
      go true is = gone_made imm is
      go false is = gone_made (pc + 1) (λ m k P T can. is m k P T can ∙ ap (λ n. after P number (record T { pc = n + 1 }) Went) (sym can.task_for.pc))

-- ---- the row of each instruction

module _ {old new : List Word} {pc there number a x : ℕ} (put : IsPut old new pc there a x) where
  made : {i : Instr} → ((m : Memory) (k : Kept) (P : Machine) (T : Task) → CanAct m (record k { regs = old; pc = pc }) P number T → act P number T i ≡ sets P number T a (Number x)) → RowIsMade old new pc there number i
  made told = set_made a x put.goes put.words put.exchanges told

  pub li_made : {imm : ℕ} → x ≡ imm → RowIsMade old new pc there number (Li a imm)
  li_made e = made (λ m k P T can. sets_same P number T a (sym e))

  pub lih_made : {imm n : ℕ} → HoldsNumber old a n → x ≡ n % 2 ^ 32 + imm * 2 ^ 32 → RowIsMade old new pc there number (Lih a imm)
  lih_made {imm} {n} holds e = made (λ m k P T can. lih_of P number T a imm n (reg_is a holds can) ∙ sets_same P number T a (sym e))

  pub mov_made : {b : ℕ} → HoldsNumber old b x → RowIsMade old new pc there number (Mov a b)
  mov_made {b} holds = made (λ m k P T can. ap (sets P number T a) (reg_is b holds can))

  pub addi_made : {b imm n : ℕ} → HoldsNumber old b n → x ≡ (n + sign_extended imm) % 2 ^ 64 → RowIsMade old new pc there number (Addi a b imm)
  addi_made {b} {imm} {n} holds e = made (λ m k P T can. addi_of P number T a b imm n (reg_is b holds can) ∙ sets_same P number T a (sym e))

  pub alu_made : {op : AluOp} {b c n k : ℕ} → HoldsNumber old b n → HoldsNumber old c k → of_numbers op n k ≡ Ok x → RowIsMade old new pc there number (Alu op a b c)
  alu_made {op} {b} {c} {n} {k} first second e = made (λ m t P T can. alu_of P number T op a b c n k (reg_is b first can) (reg_is c second can) ∙ ap (computes P number T a) e)

  pub eq_made : {b c n k : ℕ} → HoldsNumber old b n → HoldsNumber old c k → x ≡ from_bool (eqb n k) → RowIsMade old new pc there number (Eq a b c)
  unfolding same_value
  eq_made {b} {c} {n} {k} first second e = made (λ m t P T can. (let same : same_value (reg T b) (reg T c) ≡ eqb n k = ap (λ v. same_value v (reg T c)) (reg_is b first can) ∙ ap (same_value (Number n)) (reg_is c second can) in
      sets_same P number T a (ap one_if same ∙ sym (one_if_is (eqb n k)) ∙ sym e)))

  pub isref_made : {b : ℕ} → HasNumber old b → x ≡ 0 → RowIsMade old new pc there number (Isref a b)
  isref_made {b} has e = made (λ m k P T can. (let (n, is) = number_at (width m) (line_at m) old T.regs b can.task_for.regs has in
      sets_same P number T a (ap (λ v. one_if (is_reference v)) is ∙ sym e)))

  pub task_made : x ≡ number → RowIsMade old new pc there number (instr.Task a)
  task_made e = made (λ m k P T can. sets_same P number T a (sym e))

pub jmp_made : (regs : List Word) (pc number imm : ℕ) → RowIsMade regs regs pc imm number (Jmp imm)
jmp_made regs pc number imm = gone_made imm (λ m k P T can. refl)

module _ {regs : List Word} {pc there number imm : ℕ} where
  pub jz_made : {a n : ℕ} → HoldsNumber regs a n → there ≡ (if eqb n 0 then imm else pc + 1) → RowIsMade regs regs pc there number (Jz a imm)
  jz_made {a} {n} holds goes = jump_made (eqb n 0) imm goes refl (λ m k P T can. ap (λ v. jumps_if (is_zero v) P number T imm) (reg_is a holds can))

  pub jnz_made : {a n : ℕ} → HoldsNumber regs a n → there ≡ (if not (eqb n 0) then imm else pc + 1) → RowIsMade regs regs pc there number (Jnz a imm)
  jnz_made {a} {n} holds goes = jump_made (not (eqb n 0)) imm goes refl (λ m k P T can. ap (λ v. jumps_if (not (is_zero v)) P number T imm) (reg_is a holds can))
