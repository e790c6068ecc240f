-- Spelling an instruction and reading it are inverse to each other.
use Rattle.std.proofs.Common.{lit<, ◌≡◌, ℕ, ◌<◌, ◌^◌, Bool, true, false, refl, ap, sym, ◌∙◌, subst, Some, None, Option, List, [], ◌∷◌, eqb, drop, length, get_or, arith, bytes_eq, cond, IfSome, ◌&&◌}
use Rattle.std.specs.Prelude.{nat_lt, nat_le}
use Rattle.std.specs.Option.{option_and_then}
use Rattle.std.proofs.lemmas.Bool.{and_parts, ltb-true}
use Rattle.std.proofs.lemmas.Bool.Decides.{nat_tests}
use Rattle.std.proofs.lemmas.List.{get_or-drop}
use Rattle.std.proofs.lemmas.Nat.{from_le_bytes-to_le_bytes_4}
use Rattle.std.proofs.lemmas.Option.{cond_some, option_and_then_some}
use Rattle.std.proofs.lemmas.Slice.Eq.{bytes_eq-Decides}
use Rattle.hic_isa.specs.declared.instr.AluOp.TheVariants as op
use Rattle.hic_isa.specs.declared.instr.Instr.{Instr}
use Rattle.hic_isa.specs.declared.instr.Instr.TheVariants.{Halt, Li, Lih, Mov, Addi, Alu, Eq, Isref, Jmp, Jz, Jnz, Getb, Putb, Putn, Task, Open, Openr, Seek, Pos, Load, Store, Find, Next, Commit, Abort, Close, Root, Snap, Seal, Mcas}
use Rattle.hic_isa.specs.Spelling.{Fields, row, fields_of, spelling, IsInstr}
use Rattle.hic_isa.specs.Decoding.{with_one, with_two, with_three, arithmetic, control, iterators, memory, chosen, candidate_of, fields_at, if_spelled, instr_at}

pub length-spelling : (i : Instr) → length (spelling i) ≡ 8
unfolding spelling
length-spelling i = refl

-- ---- the candidate of an instruction's fields is the instruction

with_one-below : (low : ℕ) (make : ℕ → Instr) (a : ℕ) → a < low → with_one low make a ≡ Some (make a)
with_one-below low make a below = let test : nat_lt a low ≡ true = grind (arith, nat_tests) in rw test refl

with_two-below : (low high : ℕ) (make : ℕ → ℕ → Instr) (a b : ℕ) → a < low → b < high → with_two low high make a b ≡ Some (make a b)
with_two-below low high make a b first second =
    let one : nat_lt a low ≡ true = grind (arith, nat_tests) in
    let two : nat_lt b high ≡ true = grind (arith, nat_tests) in
    rw (one, two) refl

with_three-below : (make : ℕ → ℕ → ℕ → Instr) (a b c : ℕ) → (a < 8) × (b < 8) × (c < 8) → with_three make a b c ≡ Some (make a b c)
with_three-below make a b c is =
    let one : nat_lt a 8 ≡ true = grind (arith, nat_tests) in
    let two : nat_lt b 8 ≡ true = grind (arith, nat_tests) in
    let three : nat_lt c 8 ≡ true = grind (arith, nat_tests) in
    rw (one, two, three) refl

candidate_of-fields_of : (i : Instr) → IsInstr i → candidate_of (fields_of i) ≡ Some i
candidate_of-fields_of Halt is = refl
candidate_of-fields_of (Li a imm) is = with_one-below 8 (λ a. Li a imm) a is.0
candidate_of-fields_of (Lih a imm) is = with_one-below 8 (λ a. Lih a imm) a is.0
candidate_of-fields_of (Mov a b) is = with_two-below 8 8 Mov a b is.0 is.1
candidate_of-fields_of (Addi a b imm) is = with_two-below 8 8 (λ a b. Addi a b imm) a b is.0 is.1
candidate_of-fields_of (Alu op.Add a b c) is = with_three-below (Alu op.Add) a b c is
candidate_of-fields_of (Alu op.Sub a b c) is = with_three-below (Alu op.Sub) a b c is
candidate_of-fields_of (Alu op.Mul a b c) is = with_three-below (Alu op.Mul) a b c is
candidate_of-fields_of (Alu op.Div a b c) is = with_three-below (Alu op.Div) a b c is
candidate_of-fields_of (Alu op.Rem a b c) is = with_three-below (Alu op.Rem) a b c is
candidate_of-fields_of (Alu op.And a b c) is = with_three-below (Alu op.And) a b c is
candidate_of-fields_of (Alu op.Or a b c) is = with_three-below (Alu op.Or) a b c is
candidate_of-fields_of (Alu op.Xor a b c) is = with_three-below (Alu op.Xor) a b c is
candidate_of-fields_of (Alu op.Shl a b c) is = with_three-below (Alu op.Shl) a b c is
candidate_of-fields_of (Alu op.Shr a b c) is = with_three-below (Alu op.Shr) a b c is
candidate_of-fields_of (Alu op.Ltu a b c) is = with_three-below (Alu op.Ltu) a b c is
candidate_of-fields_of (Eq a b c) is = with_three-below Eq a b c is
candidate_of-fields_of (Isref a b) is = with_two-below 8 8 Isref a b is.0 is.1
candidate_of-fields_of (Jmp imm) is = refl
candidate_of-fields_of (Jz a imm) is = with_one-below 8 (λ a. Jz a imm) a is.0
candidate_of-fields_of (Jnz a imm) is = with_one-below 8 (λ a. Jnz a imm) a is.0
candidate_of-fields_of (Getb a) is = with_one-below 8 Getb a is
candidate_of-fields_of (Putb a) is = with_one-below 8 Putb a is
candidate_of-fields_of (Putn a) is = with_one-below 8 Putn a is
candidate_of-fields_of (Task a) is = with_one-below 8 Task a is
candidate_of-fields_of (Open a b) is = with_two-below 4 8 Open a b is.0 is.1
candidate_of-fields_of (Openr a b) is = with_two-below 4 8 Openr a b is.0 is.1
candidate_of-fields_of (Seek a b) is = with_two-below 4 8 Seek a b is.0 is.1
candidate_of-fields_of (Pos a b) is = with_two-below 8 4 Pos a b is.0 is.1
candidate_of-fields_of (Load a b) is = with_two-below 8 4 Load a b is.0 is.1
candidate_of-fields_of (Store a b) is = with_two-below 4 8 Store a b is.0 is.1
candidate_of-fields_of (Find a b) is = with_two-below 8 4 Find a b is.0 is.1
candidate_of-fields_of (Next a b) is = with_two-below 8 4 Next a b is.0 is.1
candidate_of-fields_of (Commit a b) is = with_two-below 8 4 Commit a b is.0 is.1
candidate_of-fields_of (Abort a) is = with_one-below 4 Abort a is
candidate_of-fields_of (Close a) is = with_one-below 4 Close a is
candidate_of-fields_of (Root a b) is = with_two-below 8 8 Root a b is.0 is.1
candidate_of-fields_of (Snap a b) is = with_two-below 8 4 Snap a b is.0 is.1
candidate_of-fields_of (Seal a b) is = with_two-below 8 4 Seal a b is.0 is.1
candidate_of-fields_of (Mcas a b c) is = with_three-below Mcas a b c is

imm_below : (i : Instr) → IsInstr i → (fields_of i).imm < 2 ^ 32
imm_below (Li a imm) is = is.1
imm_below (Lih a imm) is = is.1
imm_below (Addi a b imm) is = is.2
imm_below (Jmp imm) is = is
imm_below (Jz a imm) is = is.1
imm_below (Jnz a imm) is = is.1
imm_below i is = lit< tt

fields_at-spelling : (i : Instr) → IsInstr i → fields_at (spelling i) ≡ fields_of i
unfolding spelling
fields_at-spelling i is =
    let f = fields_of i in
    ap (λ (imm : ℕ). row f.opcode f.a f.b f.c imm) (from_le_bytes-to_le_bytes_4 f.imm (imm_below i is))

-- what is spelled so is the candidate
pub spelled-candidate : (bytes : List ℕ) (o : Option Instr) → o ≡ candidate_of (fields_at bytes) → (i : Instr) → IsInstr i → spelling i ≡ bytes → o ≡ Some i
spelled-candidate bytes o is i fits spelled = is ∙ ap (λ (bs : List ℕ). candidate_of (fields_at bs)) (sym spelled) ∙ ap candidate_of (fields_at-spelling i fits) ∙ candidate_of-fields_of i fits

equal_bytes : (bytes : List ℕ) → bytes_eq bytes bytes ≡ true
equal_bytes bytes = grind (arith, bytes_eq-Decides bytes bytes)

-- an instruction is read from its spelling
pub instr_at-spelling : (i : Instr) → IsInstr i → instr_at (spelling i) ≡ Some i
unfolding instr_at
instr_at-spelling i fits =
    ap (option_and_then (if_spelled (spelling i))) (ap candidate_of (fields_at-spelling i fits) ∙ candidate_of-fields_of i fits)
    ∙ ap (λ (b : Bool). cond b (Some i) None) (equal_bytes (spelling i))

-- ---- what is read has its fields in range

record Fits (o : Option Instr) : Type 0 where
  fits : IfSome o IsInstr

none : Fits None
none = record { fits = tt }

some : {i : Instr} → IsInstr i → Fits (Some i)
some is = record { fits = is }

fits-if : (b : Bool) (x y : Option Instr) → Fits x → Fits y → Fits (cond b x y)
fits-if true x y p q = p
fits-if false x y p q = q

fits-where : (b : Bool) (i : Instr) → (b ≡ true → IsInstr i) → Fits (cond b (Some i) None)
fits-where true i fits = some (fits refl)
fits-where false i fits = none

with_one-fits : (low : ℕ) (make : ℕ → Instr) (a : ℕ) → ((r : ℕ) → r < low → IsInstr (make r)) → Fits (with_one low make a)
with_one-fits low make a fits = fits-where (nat_lt a low) (make a) (λ test. fits a (ltb-true a low test))

with_two-fits : (low high : ℕ) (make : ℕ → ℕ → Instr) (a b : ℕ) → ((r s : ℕ) → r < low → s < high → IsInstr (make r s)) → Fits (with_two low high make a b)
with_two-fits low high make a b fits = fits-where (nat_lt a low && nat_lt b high) (make a b) (λ test.
    let both = and_parts (nat_lt a low) (nat_lt b high) test in
    fits a b (ltb-true a low both.0) (ltb-true b high both.1))

with_three-fits : (make : ℕ → ℕ → ℕ → Instr) (a b c : ℕ) → ((r s t : ℕ) → (r < 8) × (s < 8) × (t < 8) → IsInstr (make r s t)) → Fits (with_three make a b c)
with_three-fits make a b c fits = fits-where (nat_lt a 8 && (nat_lt b 8 && nat_lt c 8)) (make a b c) (λ test.
    let first = and_parts (nat_lt a 8) (nat_lt b 8 && nat_lt c 8) test in
    let rest = and_parts (nat_lt b 8) (nat_lt c 8) first.1 in
    fits a b c (ltb-true a 8 first.0, ltb-true b 8 rest.0, ltb-true c 8 rest.1))

AllFit : List (ℕ × Option Instr) → Type 0
AllFit [] = Unit {0}
AllFit (c ∷ cs) = Fits c.1 × AllFit cs

chosen-fits : (opcode : ℕ) (cs : List (ℕ × Option Instr)) → AllFit cs → Fits (chosen opcode cs)
unfolding AllFit
chosen-fits opcode [] all = none
chosen-fits opcode (c ∷ cs) all = fits-if (eqb opcode c.0) c.1 (chosen opcode cs) all.0 (chosen-fits opcode cs all.1)

infixr 5 ◌&◌
◌&◌ : {A B : Type 0} → A → B → A × B
a & b = (a, b)

arithmetic-fits : (f : Fields) → f.imm < 2 ^ 32 → AllFit (arithmetic f)
unfolding AllFit
arithmetic-fits f small =
    some {i = Halt} tt
    & with_one-fits 8 (λ a. Li a f.imm) f.a (λ a below. (below, small))
    & with_one-fits 8 (λ a. Lih a f.imm) f.a (λ a below. (below, small))
    & with_two-fits 8 8 Mov f.a f.b (λ a b low high. (low, high))
    & with_two-fits 8 8 (λ a b. Addi a b f.imm) f.a f.b (λ a b low high. (low, high, small))
    & with_three-fits (Alu op.Add) f.a f.b f.c (λ a b c is. is)
    & with_three-fits (Alu op.Sub) f.a f.b f.c (λ a b c is. is)
    & with_three-fits (Alu op.Mul) f.a f.b f.c (λ a b c is. is)
    & with_three-fits (Alu op.Div) f.a f.b f.c (λ a b c is. is)
    & with_three-fits (Alu op.Rem) f.a f.b f.c (λ a b c is. is)
    & with_three-fits (Alu op.And) f.a f.b f.c (λ a b c is. is)
    & with_three-fits (Alu op.Or) f.a f.b f.c (λ a b c is. is)
    & with_three-fits (Alu op.Xor) f.a f.b f.c (λ a b c is. is)
    & with_three-fits (Alu op.Shl) f.a f.b f.c (λ a b c is. is)
    & with_three-fits (Alu op.Shr) f.a f.b f.c (λ a b c is. is)
    & with_three-fits (Alu op.Ltu) f.a f.b f.c (λ a b c is. is)
    & with_three-fits Eq f.a f.b f.c (λ a b c is. is)
    & with_two-fits 8 8 Isref f.a f.b (λ a b low high. (low, high))
    & tt

control-fits : (f : Fields) → f.imm < 2 ^ 32 → AllFit (control f)
unfolding AllFit
control-fits f small =
    some {i = Jmp f.imm} small
    & with_one-fits 8 (λ a. Jz a f.imm) f.a (λ a below. (below, small))
    & with_one-fits 8 (λ a. Jnz a f.imm) f.a (λ a below. (below, small))
    & with_one-fits 8 Getb f.a (λ a below. below)
    & with_one-fits 8 Putb f.a (λ a below. below)
    & with_one-fits 8 Putn f.a (λ a below. below)
    & with_one-fits 8 Task f.a (λ a below. below)
    & tt

iterators-fits : (f : Fields) → AllFit (iterators f)
unfolding AllFit
iterators-fits f =
    with_two-fits 4 8 Open f.a f.b (λ a b low high. (low, high))
    & with_two-fits 4 8 Openr f.a f.b (λ a b low high. (low, high))
    & with_two-fits 4 8 Seek f.a f.b (λ a b low high. (low, high))
    & with_two-fits 8 4 Pos f.a f.b (λ a b low high. (low, high))
    & with_two-fits 8 4 Load f.a f.b (λ a b low high. (low, high))
    & with_two-fits 4 8 Store f.a f.b (λ a b low high. (low, high))
    & tt

memory-fits : (f : Fields) → AllFit (memory f)
unfolding AllFit
memory-fits f =
    with_two-fits 8 4 Find f.a f.b (λ a b low high. (low, high))
    & with_two-fits 8 4 Next f.a f.b (λ a b low high. (low, high))
    & with_two-fits 8 4 Commit f.a f.b (λ a b low high. (low, high))
    & with_one-fits 4 Abort f.a (λ a below. below)
    & with_one-fits 4 Close f.a (λ a below. below)
    & with_two-fits 8 8 Root f.a f.b (λ a b low high. (low, high))
    & with_two-fits 8 4 Snap f.a f.b (λ a b low high. (low, high))
    & with_two-fits 8 4 Seal f.a f.b (λ a b low high. (low, high))
    & with_three-fits Mcas f.a f.b f.c (λ a b c is. is)
    & tt

candidate_of-fits : (f : Fields) → f.imm < 2 ^ 32 → Fits (candidate_of f)
candidate_of-fits f small =
    let opcode = f.opcode in
    let third = fits-if (nat_le opcode 0x25) _ _ (chosen-fits opcode (iterators f) (iterators-fits f)) (chosen-fits opcode (memory f) (memory-fits f)) in
    let second = fits-if (nat_le opcode 0x19) _ _ (chosen-fits opcode (control f) (control-fits f small)) third in
    fits-if (nat_le opcode 0x12) _ _ (chosen-fits opcode (arithmetic f) (arithmetic-fits f small)) second

imm_at-below : (bytes : List ℕ) → ((k : ℕ) → get_or bytes k 0 < 256) → (fields_at bytes).imm < 2 ^ 32
imm_at-below bytes small =
    let high : (k : ℕ) → get_or (drop 4 bytes) k 0 < 256 = λ k. rw get_or-drop (small _) in
    omega (arith, high 0, high 1, high 2, high 3)

-- bytes are the spelling of the instruction that is read from them
pub spelling-instr_at : (bytes : List ℕ) (i : Instr) → ((k : ℕ) → get_or bytes k 0 < 256) → instr_at bytes ≡ Some i → IsInstr i × (spelling i ≡ bytes)
unfolding instr_at
spelling-instr_at bytes i small read =
    option_and_then_some (if_spelled bytes) (candidate_of (fields_at bytes)) i read (λ j is kept.
    let test = cond_some (bytes_eq (spelling j) bytes) j i kept in
    let fits : IsInstr j = subst (λ o. IfSome o IsInstr) is (candidate_of-fits (fields_at bytes) (imm_at-below bytes small)).fits in
    let spelled : spelling j ≡ bytes = (bytes_eq-Decides (spelling j) bytes).0 test.0 in
    subst (λ x. IsInstr x × (spelling x ≡ bytes)) test.1 (fits, spelled))
