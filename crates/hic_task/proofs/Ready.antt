-- What lets calls be made on a memory that holds few words: some of them, and room for holds.
use Rattle.std.proofs.Common.{◌≡◌, ℕ, ◌≤◌, List, ◌++◌, append_assoc, length, length-append, Some, refl, sym, ◌∙◌, ap, subst, inl, inr, arith}
use Rattle.std.specs.Prelude.{IfSome, slice_get}
use Rattle.hic_word.specs.declared.Word.{Word}
use Rattle.hic_word.specs.Values.{Array, IsValue, Pairs, Ref, Value, array, pairs-array}
use Rattle.hic_word.specs.Exchanges.{HasRoomFor, HoldsAmong, Reshapes}
use Rattle.hic_word.specs.Holds.{HasRoom, Holds, IsLive}
use Rattle.hic_word.specs.InMemory.{RootIn, WordIn}
use Rattle.hic_word.specs.Memory.{Memory, line_at, width}
use Rattle.hic_word.proofs.callers.Holds.{is_there, among_first, among_last, counts_are_bounded, holding_is_by_counts, turned_alike}
use Rattle.hic_word.proofs.callers.Standing.{standing_words_are_live}
use Rattle.line_mem.specs.Sound.{IsSound}
use Rattle.seg_cursor.specs.Trails.{CursorFor, fresh}
use Rattle.hic_plain.specs.Machine.{Machine, Task}
use Rattle.hic_plain.specs.Valid.{IsMachine, IsTask}
use Rattle.hic_plain.specs.Turns.{reg}
use Rattle.hic_plain.proofs.Fits.{all-get, reg-fits, referenced-fits}
use Rattle.hic_task.specs.declared.task.Task.{Task as Kept}
use Rattle.hic_task.specs.Acting.{CanAct}
use Rattle.hic_task.specs.Kept.{HoldsFew, most_held}

module _ {m : Memory} {words : List Word} (few : HoldsFew m words) where
  pub few_among : HoldsAmong m words
  few_among = (few.others, few.holds)

-- some of the words
module _ {m : Memory} (P Q : List Word) (few : HoldsFew m (P ++ Q)) where
  pub among_front : HoldsAmong m P
  among_front = among_first P Q (few.others, few.holds)

  pub among_rest : HoldsAmong m Q
  among_rest = among_last P Q (few.others, few.holds)

  pub few_front : HoldsFew m P
  few_front = record { others = Q ++ few.others; holds = subst (Holds (width m) m) (append_assoc P Q few.others) few.holds; few = subst (λ ws. length ws ≤ most_held) (append_assoc P Q few.others) few.few }

-- the words behind others, which then stand behind them
pub few_rest : {m : Memory} (P Q : List Word) → HoldsFew m (P ++ Q) → HoldsFew m Q
few_rest {m} P Q few = record {
  others = P ++ few.others;
  holds = holding_is_by_counts (width m) m ((P ++ Q) ++ few.others) (Q ++ (P ++ few.others)) (turned_alike P Q few.others) few.holds;
  few =
      let a = length-append (P ++ Q) few.others in
      let b = length-append P Q in
      let c = length-append Q (P ++ few.others) in
      let d = length-append P few.others in
      let e = few.few in
      omega (arith, a, b, c, d, e);
}

-- each count has room for many holds more
pub few_room : {m : Memory} {words : List Word} → IsSound m → HoldsFew m words → HasRoomFor 1000000 m
few_room {m} {words} sound few id live =
    let (line, e) = is_there (line_at m id) live in
    let a = counts_are_bounded (width m) m (words ++ few.others) id line (inr (inl refl)) few.holds.balanced sound.room e in
    let b = sound.most in
    let c = few.few in
    omega (arith, a, b, c)

-- a word that stands for a value is live, and has room
pub standing_live : (m : Memory) (x : Word) (v : Value) → WordIn m x v → IsLive m x
standing_live m x v d = standing_words_are_live (width m) m x (inl (v, d))

pub room_more : (m : Memory) (x : Word) (n : ℕ) → 1 ≤ n → HasRoomFor n m → IsLive m x → HasRoom m x
room_more m x n one room live id e = let a = room id (live id e) in omega (arith, a, one)

pub standing_room : (m : Memory) (x : Word) (v : Value) {words : List Word} → IsSound m → HoldsFew m words → WordIn m x v → HasRoom m x
standing_room m x v sound few d = room_more m x 1000000 (omega arith) (few_room sound few) (standing_live m x v d)

-- as many words are held afterwards
pub few_after : {m n : Memory} {P : List Word} (Q : List Word) → HoldsFew m P → Reshapes m n P Q → length Q ≤ length P → HoldsFew n Q
few_after {P = P} Q few r less = record {
  others = few.others;
  holds = r.holds few.others few.holds;
  few = (let a = length-append P few.others in let b = length-append Q few.others in let c = few.few in omega (arith, a, b, c, less));
}

-- a task of a valid machine is valid
pub task_valid : (P : Machine) (t : ℕ) (T : Task) → IsMachine P → slice_get P.tasks t ≡ Some T → IsTask (length P.segments) T
task_valid P t T valid there = subst (λ o. IfSome o (IsTask (length P.segments))) there (all-get (IsTask (length P.segments)) P.tasks t valid.tasks)

-- an array that a register references
pub root_in : {m : Memory} {k : Kept} {P : Machine} {t : ℕ} {T : Task} → CanAct m k P t T → (r : ℕ) (x : Word) (H : Pairs) → WordIn m x (reg T r) → reg T r ≡ Ref H → RootIn m x (array H)
root_in {m} {P = P} {t = t} {T = T} can r x H d is = record {
  valid = referenced-fits H (subst IsValue is (reg-fits T.regs r (task_valid P t T can.valid can.there).regs));
  word = subst (WordIn m x) (is ∙ ap Ref (sym (pairs-array H))) d;
}

-- a cursor on a root, with nothing kept
pub on_root : {m : Memory} {x : Word} {A : Array} → RootIn m x A → CursorFor m (fresh x) A
on_root stands = record { root_for = stands; kept = tt }
