-- An iterator register that is open: what calls tell of it, and what the plain task has there.
use Rattle.std.proofs.Common.{◌≡◌, ℕ, suc, ◌+◌, ◌*◌, Bor, List, [], ◌∷◌, length, Option, Some, None, Result, Ok, Err, refl, ◌∙◌, ap, subst, arith}
use Rattle.std.specs.Prelude.{IfSome, slice_index_or}
use Rattle.hic_word.specs.declared.Word.{Word}
use Rattle.hic_word.specs.Values.{Array}
use Rattle.hic_word.specs.Exchanges.{HasRoomFor}
use Rattle.hic_word.specs.InMemory.{CanApply, ChangesFor}
use Rattle.hic_word.specs.Memory.{Memory, line_at, width}
use Rattle.hic_word.specs.Stands.{Lookup}
use Rattle.line_mem.specs.Sound.{IsSound}
use Rattle.write_buf.specs.WordPairs.{WordPairs}
use Rattle.iter_regs.specs.declared.opened.Open.{Open}
use Rattle.iter_regs.specs.declared.refusal.IterRefusal.{IterRefusal}
use Rattle.iter_regs.specs.Iters.{Answers, of_open}
use Rattle.hic_plain.specs.Machine.{Iter, Machine, Task}
use Rattle.hic_plain.specs.Turns.{iter}
use Rattle.hic_plain.specs.Valid.{IsIter}
use Rattle.hic_plain.proofs.Fits.{all-optional}
use Rattle.hic_task.specs.declared.task.Task.{Task as Kept}
use Rattle.hic_task.specs.Acting.{CanAct}
use Rattle.hic_task.specs.Kept.{HoldsFew, IterFor, OpenFor}
use Rattle.hic_task.proofs.Places.{register_for}
use Rattle.hic_task.proofs.Ready.{few_room, task_valid}

-- ---- what calls tell

pub told : {X : Type 0} {f : Open → X} {x : X} (r : Option Open) → Ok x ≡ of_open r f → (q : Open) × (r ≡ Some q) × (x ≡ f q)
told None e = cc
told {f = f} {x = x} (Some q) e = (q, refl, cc)

pub refused : {X : Type 0} (f : Open → X) {e : IterRefusal} (r : Option Open) → Err e ≡ of_open r f → r ≡ None
refused f None is = refl
refused f (Some q) is = cc

answered : {X : Type 0} (IsTold : Open → X → Type 0) {result : Result X IterRefusal} {x : X} (r : Option Open) (q : Open) → Answers r result IsTold → result ≡ Ok x → r ≡ Some q → IsTold q x
answered IsTold {result = result} r q answers is at = subst (λ a. Answers (Some q) a IsTold) is (subst (λ o. Answers o result IsTold) at answers)

-- ---- what the plain task has

module _ (m : Memory) where
  none_for : (r : Option Open) (R : Option Iter) → IterFor m r R → r ≡ None → R ≡ None
  none_for None None d e = refl
  none_for None (Some R) d e = absurd d
  none_for (Some q) R d e = cc

  some_for : (r : Option Open) (R : Option Iter) (q : Open) → IterFor m r R → r ≡ Some q → (Q : Iter) × (R ≡ Some Q) × OpenFor m q Q
  some_for None R q d e = cc
  some_for (Some p) None q d e = absurd d
  some_for (Some p) (Some Q) q d e = (Q, refl, subst (λ o. OpenFor m o Q) (the_same e) d)
    where
      the_same : Some p ≡ Some q → p ≡ q
      the_same f = cc

changes_length : (w : ℕ) (m : Lookup) (cs : WordPairs) (L : Array) → ChangesFor w m cs L → length cs ≡ length L
changes_length w m [] [] d = refl
changes_length w m [] (p ∷ L) d = absurd d
changes_length w m (c ∷ cs) [] d = absurd d
changes_length w m (c ∷ cs) (p ∷ L) d = ap suc (changes_length w m cs L d.2)

open_applies : (m : Memory) (n : ℕ) (q : Open) (Q : Iter) (snapshot : Word) (writes : WordPairs) → snapshot ≡ q.cursor.root → writes ≡ q.pairs → IsIter n Q → OpenFor m q Q → CanApply m snapshot writes Q.snapshot Q.buffered
open_applies m n q Q snapshot writes e f valid d = rw (e, f) (record { root_for = d.cursor.root_for; changes_for = d.buffered; ascend = valid.buffered })

-- an open register with this snapshot and these writes, and the plain one
pub record Opened (m : Memory) (P : Machine) (T : Task) (i : ℕ) (r : Option Open) (snapshot : Word) (writes : WordPairs) : Type 0 where
  pub kept : Open
  pub is : r ≡ Some kept
  pub plain : Iter
  pub there : iter T i ≡ Some plain
  pub segment : kept.segment ≡ plain.segment
  pub valid : IsIter (length P.segments) plain
  pub can_apply : CanApply m snapshot writes plain.snapshot plain.buffered
  pub count : length writes ≡ length plain.buffered

module _ {m : Memory} {k : Kept} {P : Machine} {t : ℕ} {T : Task} (can : CanAct m k P t T) (i : ℕ) {r : Option Open} (is : r ≡ slice_index_or k.iters i None) where
  pub closed_at : r ≡ None → iter T i ≡ None
  closed_at none = none_for m r (iter T i) (register_for m k T i r can.task_for is) none

  iter_valid : (Q : Iter) → iter T i ≡ Some Q → IsIter (length P.segments) Q
  iter_valid Q e = subst (λ o. IfSome o (IsIter (length P.segments))) e (all-optional (IsIter (length P.segments)) T.iters i (task_valid P t T can.valid can.there).iters)

  pub opened_at : {result : Result (Bor WordPairs) IterRefusal} {snapshot : Word} {writes : Bor WordPairs} → Ok snapshot ≡ of_open r (λ q. q.cursor.root) → Answers r result (λ q pairs. pairs.now ≡ q.pairs) → result ≡ Ok writes → Opened m P T i r snapshot writes.now
  opened_at {snapshot = snapshot} {writes = writes} one two told_so =
      let (q, here, same) = told r one in
      let (Q, there, d) = some_for m r (iter T i) q (register_for m k T i r can.task_for is) here in
      let valid = iter_valid Q there in
      let pairs = answered (λ p pairs. pairs.now ≡ p.pairs) r q two told_so here in
      record {
        kept = q;
        is = here;
        plain = Q;
        there = there;
        segment = d.segment;
        valid = valid;
        can_apply = open_applies m (length P.segments) q Q snapshot writes.now same pairs valid d;
        count = ap length pairs ∙ changes_length (width m) (line_at m) q.pairs Q.buffered d.buffered;
      }

-- so few writes can be put in
pub writes_room : {m : Memory} {P : Machine} {T : Task} {i : ℕ} {r : Option Open} {snapshot : Word} {writes : WordPairs} {words : List Word} → Opened m P T i r snapshot writes → IsSound m → HoldsFew m words → HasRoomFor (64 * (length writes + 1)) m
writes_room o sound few id live = let a = few_room sound few id live in let b = o.count in let c = o.valid.count in omega (arith, a, b, c)
