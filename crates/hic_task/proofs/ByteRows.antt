-- The rows that read the input and print.
use Rattle.std.proofs.Common.{◌≡◌, ℕ, ◌+◌, List, [], ◌∷◌, ◌++◌, length-append, Ok, Err, refl, sym, ◌∙◌, ap, subst, arith}
use Rattle.std.specs.Prelude.{slice_set}
use Rattle.hic_isa.specs.declared.instr.Instr.{Instr}
use Rattle.hic_isa.specs.declared.instr.Instr.TheVariants.{Getb}
use Rattle.hic_word.specs.declared.Word.{Word}
use Rattle.hic_word.specs.Exchanges.{Exchanges, Reshapes}
use Rattle.hic_word.specs.Memory.{Memory, width}
use Rattle.hic_word.specs.Values.{Number}
use Rattle.hic_word.proofs.callers.Holds.{exchanges_behind, exchanges_nothing, exchanges_reshapes, holding_is_by_counts, turned_alike}
use Rattle.hic_word.proofs.callers.Standing.{first_live}
use Rattle.segment_map.specs.declared.Segment.{Segment as Stored}
use Rattle.segment_map.specs.Segments.{roots}
use Rattle.hic_plain.specs.declared.turn.Trap.{Trap}
use Rattle.hic_plain.specs.declared.turn.Turn.TheVariants.{Out, Trapped}
use Rattle.hic_plain.specs.Machine.{Machine, Segment, Task}
use Rattle.hic_plain.specs.Step.{act, takes}
use Rattle.hic_plain.specs.Turns.{next, prints, sets, traps, with_reg}
use Rattle.hic_plain.proofs.RowLaws.{left_alone}
use Rattle.hic_task.specs.declared.done.Done.TheVariants as done
use Rattle.hic_task.specs.declared.shared.Shared.{Shared}
use Rattle.hic_task.specs.declared.task.Task.{Task as Kept}
use Rattle.hic_task.specs.Acting.{Acts, CanAct}
use Rattle.hic_task.specs.Inputs.{after_byte, next_byte}
use Rattle.hic_task.specs.Kept.{HoldsFew, SegmentsFor, TaskFor, task_words}
use Rattle.hic_task.proofs.StandsOn.{front_live, segments_on}

-- the words behind others are few
pub few_rest : {m : Memory} (P Q : List Word) → HoldsFew m (P ++ Q) → HoldsFew m Q
few_rest {m} P Q few = record {
  others = P ++ few.others;
  holds = holding_is_by_counts (width m) m ((P ++ Q) ++ few.others) (Q ++ (P ++ few.others)) (turned_alike P Q few.others) few.holds;
  few = (let a = length-append (P ++ Q) few.others in let b = length-append P Q in let c = length-append Q (P ++ few.others) in let d = length-append P few.others in let e = few.few in omega (arith, a, b, c, d, e));
}

-- segments stand for in the memory afterwards what they stood for before
segments_after : {m n : Memory} {words : List Word} (rest : List Word) (ss : List Stored) (Ss : List Segment) → HoldsFew m words → Reshapes m n words (roots ss ++ rest) → SegmentsFor m ss Ss → SegmentsFor n ss Ss
segments_after {m} {n} {words} rest ss Ss few r d =
    let held = r.holds few.others few.holds in
    segments_on m n ((roots ss ++ rest) ++ few.others) r.lines held ss Ss (front_live n (roots ss) rest (first_live n (roots ss ++ rest) few.others held)) d

-- ---- the input

-- the next byte is set, and the others are left
bytes_taken : (P : Machine) (t : ℕ) (T : Task) (a : ℕ) (bytes : List ℕ) → P.input ≡ bytes → takes P t T a bytes ≡ sets (record P { input = after_byte bytes }) t T a (Number (next_byte bytes))
bytes_taken P t T a [] is = ap (λ left. sets (record P { input = left }) t T a (Number (next_byte []))) is
bytes_taken P t T a (byte ∷ bytes) is = refl

-- the row of `getb`: the byte that was read and the bytes that are left are those of the input
byte_read : (P : Machine) (t : ℕ) (T : Task) (a : ℕ) {input left : List ℕ} {byte : ℕ} → input ≡ P.input → byte ≡ next_byte input → left ≡ after_byte input
    → act P t T (Getb a) ≡ sets (record P { input = left }) t T a (Number byte)
byte_read P t T a {input} {left} {byte} same is rest =
    bytes_taken P t T a P.input refl
    ∙ ap (λ bytes. sets (record P { input = after_byte bytes }) t T a (Number (next_byte bytes))) (sym same)
    ∙ ap (λ bytes. sets (record P { input = bytes }) t T a (Number (next_byte input))) (sym rest) ∙ ap (λ n. sets (record P { input = left }) t T a (Number n)) (sym is)

pub byte_set : {m n : Memory} {shared : Shared} {old new : Kept} (a : ℕ) {byte : ℕ} {left : List ℕ} → HoldsFew m (roots shared.segments ++ task_words old) → Exchanges m n (task_words old) (task_words new)
    → ((T : Task) → TaskFor m old T → TaskFor n new (next (with_reg T a (Number byte)))) → byte ≡ next_byte shared.input → left ≡ after_byte shared.input
    → (number : ℕ) → Acts m n shared (record shared { input = left }) old new number (Getb a) (Ok done.Went)
byte_set {m} {n} {shared} {old} {new} a {byte} few exchanges stands is rest number =
    let reshapes = exchanges_reshapes (exchanges_behind exchanges (roots shared.segments)) in
    record {
      acts = λ P T can with. record {
        left = next (with_reg T a (Number byte));
        segments = P.segments;
        task_for = stands T can.task_for;
        segments_for = segments_after (task_words new) shared.segments P.segments few reshapes with.segments_for;
        is = byte_read P number T a with.input is rest;
      };
      reshapes = reshapes;
      trapped = tt;
    }

-- ---- what is printed

module _ {m : Memory} {shared : Shared} {k : Kept} {number : ℕ} {i : Instr} where
  -- a trap leaves all as it is
  pub traps_with : {trap : Trap} → ((P : Machine) (T : Task) → CanAct m k P number T → act P number T i ≡ traps P trap) → Acts m m shared shared k k number i (Err trap)
  traps_with {trap} told = record {
    acts = λ P T can with. record {
      left = T;
      segments = P.segments;
      task_for = can.task_for;
      segments_for = with.segments_for;
      is = told P T can ∙ ap (λ (Q : Machine). (Q, Trapped trap)) (sym (left_alone P number T can.there) ∙ ap (λ input. record P { tasks = slice_set P.tasks number T; input = input }) (sym with.input));
    };
    reshapes = exchanges_reshapes (exchanges_nothing m (roots shared.segments ++ task_words k));
    trapped = refl;
  }

  -- the task prints and goes on
  pub prints_with : {after : Shared} {new : Kept} (bytes : List ℕ) → after ≡ record shared { printed = bytes } → new ≡ record k { pc = k.pc + 1 }
      → ((P : Machine) (T : Task) → CanAct m k P number T → act P number T i ≡ prints P number T bytes) → Acts m m shared after k new number i (Ok done.Printed)
  prints_with {after} {new} bytes shared_is new_is told = subst (λ s. Acts m m shared s k new number i (Ok done.Printed)) (sym shared_is) (subst (λ u. Acts m m shared (record shared { printed = bytes }) k u number i (Ok done.Printed)) (sym new_is) (record {
    acts = λ P T can with. record {
      left = next T;
      segments = P.segments;
      task_for = record { runs = can.task_for.runs; pc = ap (λ n. n + 1) can.task_for.pc; regs = can.task_for.regs; iters = can.task_for.iters };
      segments_for = with.segments_for;
      is = told P T can ∙ ap (λ input. (record P { tasks = slice_set P.tasks number (next T); input = input }, Out bytes)) (sym with.input);
    };
    reshapes = exchanges_reshapes (exchanges_nothing m (roots shared.segments ++ task_words k));
    trapped = tt;
  }))
