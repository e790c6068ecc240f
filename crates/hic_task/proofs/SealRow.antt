-- A new array that a register gets: the room for it, and the hold that passes.
use Rattle.std.proofs.Common.{◌≡◌, ℕ, Bool, true, false, ◌↔◌, List, [], ◌∷◌, ◌++◌, length, Option, refl, sym, subst, inl, inr, arith}
use Rattle.std.specs.Prelude.{IsTrue}
use Rattle.hic_word.specs.declared.Word.{Word}
use Rattle.hic_word.specs.Exchanges.{Exchanges, HoldsAmong, Reshapes}
use Rattle.hic_word.specs.Holds.{HasRoom, IsLive}
use Rattle.hic_word.specs.Memory.{Memory, line_at, width}
use Rattle.hic_word.proofs.callers.Holds.{is_there, counts_are_bounded, exchanges_before, exchanges_behind}
use Rattle.hic_word.proofs.callers.Standing.{first_live}
use Rattle.line_mem.specs.Looks.{LooksUpTo}
use Rattle.line_mem.specs.Sound.{IsSound}
use Rattle.seg_write.specs.Charges.{LooksFew, greater_height}
use Rattle.write_buf.specs.WordPairs.{WordPairs}
use Rattle.iter_regs.specs.declared.opened.Open.{Open}
use Rattle.hic_plain.specs.Iters.{view}
use Rattle.hic_plain.specs.Machine.{Machine, Task}
use Rattle.hic_plain.specs.Turns.{iter}
use Rattle.hic_task.specs.declared.task.Task.{Task as Kept}
use Rattle.hic_task.specs.Kept.{HoldsFew, TaskFor, task_words}
use Rattle.hic_task.specs.Looks.{looks_for, seal_looks}
use Rattle.hic_task.proofs.Opened.{Opened}
use Rattle.hic_task.proofs.StandsOn.{rest_live, task_on}

-- ---- room, told by an answer and by the plain machine

pub is_full : {E L : Type 0} {b : Bool} → E → E ↔ L → L ↔ IsTrue b → b ≡ true
is_full x e f = f.0 (e.0 x)

pub not_full : {E L : Type 0} {b : Bool} → (E → ⊥) → E ↔ L → L ↔ IsTrue b → b ≡ false
not_full {b = b} never e f = go b (λ t. never (e.1 (f.1 t)))
  where
    go : (b : Bool) → (IsTrue b → ⊥) → b ≡ false
    go true untrue = absurd (untrue refl)
    go false untrue = refl

-- a word that is held beside few has room
pub room_beside : (m : Memory) (x : Word) {n : Memory} {words : List Word} → IsSound n → IsLive n x → (few : HoldsFew m words) → Reshapes m n [] (x ∷ []) → HasRoom n x
room_beside m x {n} {words} sound live few r id e =
    let held = r.holds (words ++ few.others) few.holds in
    let (line, there) = is_there (line_at n id) (live id e) in
    let a = counts_are_bounded (width n) n (x ∷ words ++ few.others) id line (inr (inl refl)) held.balanced sound.room there in
    let b = sound.most in
    let c = few.few in
    omega (arith, a, b, c)

-- ---- holds

-- what a call exchanges in the registers, it exchanges beside a word
pub beside_word : {m n : Memory} {P Q : List Word} (x : Word) (us : List Word) → Exchanges m n P Q → Exchanges m n (x ∷ P ++ us) (x ∷ Q ++ us)
beside_word x us e = exchanges_behind (exchanges_before e us) (x ∷ [])

-- a task whose words are held after others stands for what it stood for
pub task_beside : {m n : Memory} {words : List Word} (us : List Word) (k : Kept) (T : Task) → HoldsAmong m words → Reshapes m n words (us ++ task_words k) → TaskFor m k T → TaskFor n k T
task_beside {m} {n} us k T (others, holds) r d =
    let held = r.holds others holds in
    task_on m n ((us ++ task_words k) ++ others) r.lines held k T (rest_live n us (task_words k) (first_live n (us ++ task_words k) others held)) d

-- ---- looks

pub sealed_looks : {m : Memory} {P : Machine} {T : Task} {i : ℕ} {r : Option Open} {snapshot : Word} {writes : WordPairs} (probe : ℕ) {old new : ℕ} (o : Opened m P T i r snapshot writes) → LooksFew (length writes) (greater_height (width m) o.plain.snapshot (view o.plain)) probe old new → LooksUpTo (looks_for (iter T i) (λ R. seal_looks (width m) probe R)) old new
sealed_looks {m} probe {old} {new} o looks =
    subst (λ R. LooksUpTo (looks_for R (λ S. seal_looks (width m) probe S)) old new) (sym o.there)
    (subst (λ n. LooksFew n (greater_height (width m) o.plain.snapshot (view o.plain)) probe old new) o.count looks)
