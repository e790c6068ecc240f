-- What the calls on iterator registers say of the plain ones.
use Rattle.std.proofs.Common.{◌≡◌, ℕ, zero, suc, ◌+◌, ◌*◌, ◌^◌, ◌≤◌, eqb, Bool, true, false, cond, [], ◌∷◌, length, Option, Some, None, Result, Ok, Err, refl, sym, ◌∙◌, ap, subst, arith, eq-eqb}
use Rattle.std.specs.Option.{is_none, is_some}
use Rattle.std.specs.Prelude.{IfSome, ◌&&◌, nat_le, nat_lt, slice_index_or}
use Rattle.std.proofs.Math.Nat.{mul-le-mul_right}
use Rattle.std.proofs.lemmas.Bool.Decides.{nat_tests}
use Rattle.hic_isa.specs.declared.instr.Instr.{Instr}
use Rattle.hic_isa.specs.declared.instr.Instr.TheVariants.{Seek, Store}
use Rattle.hic_word.specs.declared.Word.{Word}
use Rattle.hic_word.specs.Changes.{with}
use Rattle.hic_word.specs.Exchanges.{Exchanges}
use Rattle.hic_word.specs.Heights.{height}
use Rattle.hic_word.specs.InMemory.{ChangesFor, RootIn, WordIn}
use Rattle.hic_word.specs.Memory.{Memory, line_at, width}
use Rattle.hic_word.specs.Stands.{Lookup}
use Rattle.hic_word.specs.Values.{Array, Number, Value, at}
use Rattle.hic_word.proofs.callers.Holds.{exchanges_reshapes}
use Rattle.line_mem.specs.Looks.{LooksUpTo}
use Rattle.seg_read.proofs.Rooting.{root_height}
use Rattle.write_buf.specs.WordPairs.{IsFullOfOthers, WordPairs, with_pair, word_at}
use Rattle.iter_regs.specs.declared.opened.Open.{Open}
use Rattle.iter_regs.specs.declared.refusal.IterRefusal.{IterRefusal}
use Rattle.iter_regs.specs.declared.refusal.IterRefusal.TheVariants.{Closed, Offset}
use Rattle.iter_regs.specs.Iters.{Answers, CanRead, LoadLooks, SameButCursor, SearchLooks, Searched, Searches, Stays, StoreAnswers, iter_words, search_looks, seeks, way_unless, went_to, with_stored, zeros}
use Rattle.iter_regs.specs.Iters.{OpenFor as StandsFor, sought as moved_to}
use Rattle.iter_regs.proofs.Going.{same_words, went_words}
use Rattle.iter_regs.proofs.OpenStands.{stored_for}
use Rattle.hic_plain.specs.declared.turn.Trap.{Trap}
use Rattle.hic_plain.specs.declared.turn.Trap.TheVariants as trap
use Rattle.hic_plain.specs.Iters.{found_from, is_full, loaded, moved, sought, stored, view}
use Rattle.hic_plain.specs.Limits.{most_buffered, offset_count}
use Rattle.hic_plain.specs.Machine.{Iter, Machine, Task, width_of}
use Rattle.hic_plain.specs.Step.{act, finds, one_if}
use Rattle.hic_plain.specs.Turns.{iter, next, reg, traps, with_reg}
use Rattle.hic_plain.specs.Valid.{IsIter}
use Rattle.hic_plain.proofs.RowLaws.{seek_closed, seek_past, store_buffer, store_closed}
use Rattle.hic_task.specs.declared.done.Done.TheVariants as done
use Rattle.hic_task.specs.declared.task.Task.{Task as Kept}
use Rattle.hic_task.specs.Acting.{ActsAlone, CanAct}
use Rattle.hic_task.specs.Ends.{trap_of}
use Rattle.hic_task.specs.Kept.{IterFor, OpenFor, TaskFor, task_words}
use Rattle.hic_task.specs.Looks.{looks_for}
use Rattle.hic_task.proofs.IterRows.{Place, closed_row, is_read, iter_put, iter_valid, none_at, open_at, put_alike, stands_for, valid_at, with_iter, with_plain, words_with}
use Rattle.hic_task.proofs.Places.{register_for}
use Rattle.hic_task.proofs.Rows.{number_set, trapped, went}

-- the answer of a search and of `seek`, and the register after it
abbrev Found : Type 0
Found = Result Bool IterRefusal × Option Open

abbrev Sought : Type 0
Sought = Result (Unit {0}) IterRefusal × Option Open

-- ---- an offset

-- open at another position
pub sought_for : {m : Memory} {q : Open} {Q : Iter} {s : Option Open} (offset : ℕ) → s ≡ Some (record q { position = offset }) → OpenFor m q Q → IterFor m s (Some (sought Q offset))
sought_for {m} {q} {Q} offset e for = subst (λ o. IterFor m o (Some (sought Q offset))) (sym e) (record { segment = for.segment; position = refl; cursor = for.cursor; buffered = for.buffered })

-- a test in `seeks`, told
low_or_high : (q : Open) (offset : ℕ) (low : Bool) → nat_lt offset (2 ^ 32) ≡ low → seeks (Some q) offset ≡ moved_to low q offset
low_or_high q offset low e = ap (λ b. moved_to b q offset) e

-- what `seek` answers
module _ (offset : ℕ) (s : Option Open) where
  pub seek_went : (r : Option Open) → (Ok tt, s) ≡ seeks r offset → (q : Open) × (r ≡ Some q) × (s ≡ Some (record q { position = offset })) × (nat_le offset_count offset ≡ false)
  seek_went None e = (let f = ap (λ (x : Sought). x.0) e in cc)
  seek_went (Some q) e = go (nat_lt offset (2 ^ 32)) refl
    where
      go : (low : Bool) → nat_lt offset (2 ^ 32) ≡ low → (p : Open) × (Some q ≡ Some p) × (s ≡ Some (record p { position = offset })) × (nat_le offset_count offset ≡ false)
      go true f = (q, refl, ap (λ (x : Sought). x.1) (e ∙ low_or_high q offset true f), grind (arith, nat_tests, f))
      go false f = (let g = ap (λ (x : Sought). x.0) (e ∙ low_or_high q offset false f) in cc)

  seek_past_end : (q : Open) (e : IterRefusal) → (Err e, s) ≡ seeks (Some q) offset → (s ≡ Some q) × (trap_of e ≡ trap.Offset) × (nat_le offset_count offset ≡ true)
  seek_past_end q e is = go (nat_lt offset (2 ^ 32)) refl
    where
      go : (low : Bool) → nat_lt offset (2 ^ 32) ≡ low → (s ≡ Some q) × (trap_of e ≡ trap.Offset) × (nat_le offset_count offset ≡ true)
      go true f = (let g = ap (λ (x : Sought). x.0) (is ∙ low_or_high q offset true f) in cc)
      go false f =
          let g = ap (λ (x : Sought). x.0) (is ∙ low_or_high q offset false f) in
          (ap (λ (x : Sought). x.1) (is ∙ low_or_high q offset false f), ap trap_of (let same : e ≡ Offset = cc in same), grind (arith, nat_tests, f))

  pub seek_refused : {m : Memory} {k : Kept} {x : Trap} (a b : ℕ) (e : IterRefusal) (r : Option Open) → r ≡ slice_index_or k.iters a None → (Err e, s) ≡ seeks r offset → x ≡ trap_of e
      → ((P : Machine) (t : ℕ) (T : Task) → CanAct m k P t T → reg T b ≡ Number offset) → (s ≡ r) × ActsAlone m m k k (Seek a b) (Err x)
  seek_refused a b e None is closed f number =
      let g = ap (λ (x : Sought). x.0) closed in
      (ap (λ (x : Sought). x.1) closed, closed_row a None is refl (f ∙ ap trap_of (let same : e ≡ Closed = cc in same)) (λ P t T h. seek_closed P t T a b h))
  seek_refused a b e (Some q) is past f number =
      let (same, offset_trap, high) = seek_past_end q e past in (
        same,
        trapped (λ P t T can.
            let (Q, at, for) = open_at a (Some q) is q can refl in
            seek_past P t T a b Q offset at (number P t T can) high ∙ ap (traps P) (sym (f ∙ offset_trap))),
      )

-- ---- a buffer

module _ (w : ℕ) (m : Lookup) where
  -- as many pairs of words as of values
  pairs_length : (cs : WordPairs) (L : Array) → ChangesFor w m cs L → length cs ≡ length L
  pairs_length [] [] d = refl
  pairs_length [] (p ∷ L) d = absurd d
  pairs_length (c ∷ cs) [] d = absurd d
  pairs_length (c ∷ cs) (p ∷ L) d = ap suc (pairs_length cs L d.2)

  -- an offset is there in both or in neither
  pairs_absent : (cs : WordPairs) (L : Array) (o : ℕ) → ChangesFor w m cs L → is_none (word_at cs o) ≡ is_none (word_at L o)
  pairs_absent [] [] o d = refl
  pairs_absent [] (p ∷ L) o d = absurd d
  pairs_absent (c ∷ cs) [] o d = absurd d
  pairs_absent (c ∷ cs) (p ∷ L) o d = go (eqb c.0 o) (eqb p.0 o) (ap (λ i. eqb i o) d.0) (pairs_absent cs L o d.2)
    where
      go : (s f : Bool) → s ≡ f → is_none (word_at cs o) ≡ is_none (word_at L o) → is_none (cond s (Some c.1) (word_at cs o)) ≡ is_none (cond f (Some p.1) (word_at L o))
      go true true e later = refl
      go true false e later = cc
      go false true e later = cc
      go false false e later = later

is_absent : {X : Type 0} (o : Option X) → is_none o ≡ true → o ≡ None
is_absent None e = refl
is_absent (Some x) e = cc

module _ {m : Memory} {q : Open} {Q : Iter} (for : OpenFor m q Q) where
  same_count : length q.pairs ≡ length Q.buffered
  same_count = pairs_length (width m) (line_at m) q.pairs Q.buffered for.buffered

  same_absence : is_none (word_at q.pairs q.position) ≡ is_none (word_at Q.buffered Q.position)
  same_absence = pairs_absent (width m) (line_at m) q.pairs Q.buffered q.position for.buffered ∙ ap (λ o. is_none (word_at Q.buffered o)) for.position

  -- it is full of other offsets exactly where the plain one is
  pub is_full_told : IsFullOfOthers q.pairs q.position → is_full Q ≡ true
  is_full_told full = ap (λ b. b && is_none (word_at Q.buffered Q.position)) (eq-eqb (length Q.buffered) most_buffered (sym same_count ∙ full.many)) ∙ sym same_absence ∙ ap is_none full.others

  pub has_room_told : ¬ IsFullOfOthers q.pairs q.position → is_full Q ≡ false
  has_room_told room = go (eqb (length Q.buffered) most_buffered) (is_none (word_at Q.buffered Q.position)) refl refl
    where
      go : (many absent : Bool) → eqb (length Q.buffered) most_buffered ≡ many → is_none (word_at Q.buffered Q.position) ≡ absent → (many && absent) ≡ false
      go true true e f = absurd (room (record { many = same_count ∙ grind (arith, nat_tests, e); others = is_absent (word_at q.pairs q.position) (same_absence ∙ f) }))
      go true false e f = refl
      go false absent e f = refl

  -- a word is buffered at the position
  pub stored_for_plain : {x : Word} {v : Value} {s : Option Open} → s ≡ Some (with_stored q x) → WordIn m x v → IterFor m s (Some (stored Q v))
  stored_for_plain {x} {v} e d = subst (λ o. IterFor m o (Some (stored Q v))) (sym e) (record {
    segment = for.segment;
    position = for.position;
    cursor = for.cursor;
    buffered = subst (λ o. ChangesFor (width m) (line_at m) (with_pair q.pairs q.position x) (with_pair Q.buffered o v)) for.position (stored_for (width m) (line_at m) q.pairs Q.buffered q.position x v for.buffered d);
  })

-- what `store` answers
pub store_done : {done : Unit {0}} (r : Option Open) → StoreAnswers r (Ok done) → (q : Open) × (r ≡ Some q) × (¬ IsFullOfOthers q.pairs q.position)
store_done None e = cc
store_done (Some q) room = (q, refl, room)

pub store_refused : {m : Memory} {k : Kept} {x : Trap} (a b : ℕ) (e : IterRefusal) (r : Option Open) → r ≡ slice_index_or k.iters a None → StoreAnswers r (Err e) → x ≡ trap_of e → ActsAlone m m k k (Store a b) (Err x)
store_refused a b e None is closed f = closed_row a None is refl (f ∙ ap trap_of (let same : e ≡ Closed = cc in same)) (λ P t T g. store_closed P t T a b g)
store_refused a b e (Some q) is (buffer, full) f = trapped (λ P t T can.
    let (Q, at, for) = open_at a (Some q) is q can refl in
    store_buffer P t T a b Q at (is_full_told for full) ∙ ap (traps P) (sym (f ∙ ap trap_of buffer)))

-- ---- a word that is read

-- an answer of a register that is open
pub answered : {X : Type 0} (IsTold : Open → X → Type 0) {x : X} (r : Option Open) → Answers r (Ok x) IsTold → (q : Open) × (r ≡ Some q) × IsTold q x
answered IsTold None e = absurd e
answered IsTold (Some q) told = (q, refl, told)

-- what is closed, or stands for what is valid, can be read
pub readable : (m : Memory) (n : ℕ) (r : Option Open) (R : Option Iter) → IterFor m r R → IfSome R (IsIter n) → CanRead m r
readable m n None None d valid = tt
readable m n None (Some R) d valid = absurd d
readable m n (Some q) None d valid = absurd d
readable m n (Some q) (Some Q) d valid = (Q.snapshot, Q.buffered, stands_for valid d)

-- with another cursor on the same root it stands for the same register
stands_alike : {m : Memory} {q s : Open} (Q : Iter) → SameButCursor m q s → OpenFor m q Q → OpenFor m s Q
stands_alike {m} Q same d = record {
  segment = same.segment ∙ d.segment;
  position = same.position ∙ d.position;
  cursor = same.cursor Q.snapshot d.cursor;
  buffered = subst (λ cs. ChangesFor (width m) (line_at m) cs Q.buffered) (sym same.pairs) d.buffered;
}

-- what `load` leaves of a register
module _ (m : Memory) (s : Option Open) where
  pub stays_words : (r : Option Open) → Stays m r s → iter_words s ≡ iter_words r
  stays_words None e = ap iter_words e
  stays_words (Some q) (t, e, same) = ap iter_words e ∙ same_words same

  pub stays_for : (r : Option Open) (R : Option Iter) → Stays m r s → IterFor m r R → IterFor m s R
  stays_for None R e d = subst (λ o. IterFor m o R) (sym e) d
  stays_for (Some q) None stays d = absurd d
  stays_for (Some q) (Some Q) (t, e, same) d = subst (λ o. IterFor m o (Some Q)) (sym e) (stands_alike Q same d)

  pub load_refused : (IsTold : Open → Word → Type 0) (e : IterRefusal) (r : Option Open) → Answers r (Err e) IsTold → Stays m r s → (r ≡ None) × (s ≡ None) × (trap_of e ≡ trap.Closed)
  load_refused IsTold e None closed stays = (refl, stays, ap trap_of closed)
  load_refused IsTold e (Some q) told stays = absurd told

-- the word that `load` answers
pub loaded_for : {m : Memory} {n : ℕ} {q : Open} {Q : Iter} {x : Word} → IsIter n Q → OpenFor m q Q → ((A L : Array) → StandsFor m q A L → WordIn m x (at (with A L) q.position)) → WordIn m x (loaded Q)
loaded_for {m} {q = q} {Q = Q} {x = x} valid for told = subst (λ o. WordIn m x (at (view Q) o)) for.position (told Q.snapshot Q.buffered (stands_for valid for))

-- ---- looks

-- a root is not higher than its array
height_low : {m : Memory} {x : Word} {A : Array} → RootIn m x A → x.height ≤ height (width m) A
height_low {m} {x} {A} r = go x.height refl
  where
    go : (h : ℕ) → x.height ≡ h → x.height ≤ height (width m) A
    go zero e = omega (arith, e)
    go (suc h) e = let f = root_height r (omega (arith, e)) in omega (arith, f)

unless_low : (o : Option Word) (n : ℕ) → way_unless o n ≤ n
unless_low None n = omega arith
unless_low (Some x) n = omega arith

load_looks_low : {m : Memory} {q : Open} {Q : Iter} {old new : ℕ} → OpenFor m q Q → LoadLooks (Some q) old new → LooksUpTo (height (width m) Q.snapshot) old new
load_looks_low {q = q} for (more, few) =
    let a = unless_low (word_at q.pairs q.position) q.cursor.root.height in
    let b = height_low for.cursor.root_for in
    (more, omega (arith, few, a, b))

-- the looks at what there is
looks_at : (f : Iter → ℕ) {Q : Iter} {old new : ℕ} (o : Option Iter) → o ≡ Some Q → LooksUpTo (f Q) old new → LooksUpTo (looks_for o f) old new
looks_at f {Q} {old} {new} o e low = subst (λ x. LooksUpTo (looks_for x f) old new) (sym e) low

pub load_looks_row : {m : Memory} {k : Kept} {P : Machine} {t : ℕ} {T : Task} {old new : ℕ} (b : ℕ) (r : Option Open) → r ≡ slice_index_or k.iters b None → CanAct m k P t T → LoadLooks r old new → LooksUpTo (looks_for (iter T b) (λ R. height (width_of P) R.snapshot)) old new
load_looks_row {P = P} {T = T} {old = old} {new = new} b None is can e = subst (λ o. LooksUpTo (looks_for o (λ R. height (width_of P) R.snapshot)) old new) (sym (none_at b None is can refl)) (omega (arith, e), omega (arith, e))
load_looks_row {P = P} {T = T} b (Some q) is can looks =
    let (Q, at, for) = open_at b (Some q) is q can refl in
    looks_at (λ R. height (width_of P) R.snapshot) (iter T b) at (load_looks_low for looks)

-- ---- a search

-- its looks
pub search_looks_low : {m : Memory} {n : ℕ} {q : Open} {Q : Iter} {old new : ℕ} → IsIter n Q → OpenFor m q Q → SearchLooks m (Some q) old new → LooksUpTo (search_looks (height (width m) Q.snapshot) Q.buffered) old new
search_looks_low {m} {n} {q} {Q} valid for told =
    let (a, b) = told Q.snapshot Q.buffered (stands_for valid for) in
    let low = height_low for.cursor.root_for in
    let c : 2 * q.cursor.root.height * (zeros Q.buffered + 1) ≤ 2 * height (width m) Q.snapshot * (zeros Q.buffered + 1) = mul-le-mul_right (zeros Q.buffered + 1) (omega (arith, low)) in
    (a, omega (arith, b, c))

pub search_looks_row : {m : Memory} {k : Kept} {P : Machine} {t : ℕ} {T : Task} {old new : ℕ} (b : ℕ) (r : Option Open) → r ≡ slice_index_or k.iters b None → CanAct m k P t T → SearchLooks m r old new
    → LooksUpTo (looks_for (iter T b) (λ R. search_looks (height (width_of P) R.snapshot) R.buffered)) old new
search_looks_row {P = P} {T = T} {old = old} {new = new} b None is can e = subst (λ o. LooksUpTo (looks_for o (λ R. search_looks (height (width_of P) R.snapshot) R.buffered)) old new) (sym (none_at b None is can refl)) (omega (arith, e), omega (arith, e))
search_looks_row {P = P} {t = t} {T = T} b (Some q) is can told =
    let (Q, at, for) = open_at b (Some q) is q can refl in
    looks_at (λ R. search_looks (height (width_of P) R.snapshot) R.buffered) (iter T b) at (search_looks_low (valid_at P t T b Q can at) for told)

-- the register after a search that found an offset or none
went_for : {m : Memory} {q : Open} {Q : Iter} (o : Option ℕ) → OpenFor m q Q → OpenFor m (went_to q o) (moved Q o)
went_for None d = d
went_for (Some offset) d = record { segment = d.segment; position = refl; cursor = d.cursor; buffered = d.buffered }

module _ {m : Memory} (q : Open) (o : Option ℕ) {s : Option Open} where
  found_by : {b : Bool} → Searched m q o (Ok b, s) → b ≡ is_some o
  found_by (t, e, same) = (let f = ap (λ (x : Found). x.0) e in cc)

  words_by : {b : Bool} → Searched m q o (Ok b, s) → iter_words s ≡ iter_words (Some q)
  words_by (t, e, same) = ap (λ (x : Found). iter_words x.1) e ∙ same_words same ∙ went_words q o

  moved_by : {b : Bool} {Q : Iter} → Searched m q o (Ok b, s) → OpenFor m q Q → IterFor m s (Some (moved Q o))
  moved_by {Q = Q} (t, e, same) for = subst (λ r. IterFor m r (Some (moved Q o))) (sym (ap (λ (x : Found). x.1) e)) (stands_alike (moved Q o) same (went_for o for))

  never_refused : {e : IterRefusal} → Searched m q o (Err e, s) → ⊥
  never_refused (t, is, same) = (let f = ap (λ (x : Found). x.0) is in cc)

-- what a search from `up` above the position on answers, with the register after it
module _ (m : Memory) (up : ℕ) (s : Option Open) where
  pub search_refused : (e : IterRefusal) (r : Option Open) → CanRead m r → Searches m r up (Err e, s) → (r ≡ None) × (s ≡ None) × (trap_of e ≡ trap.Closed)
  search_refused e None can is =
      let f = ap (λ (x : Found). x.0) is in
      (refl, ap (λ (x : Found). x.1) is, ap trap_of (let same : e ≡ Closed = cc in same))
  search_refused e (Some q) (A, L, for) is = absurd (never_refused q _ (is A L for))

  pub search_words : (b : Bool) (r : Option Open) → CanRead m r → Searches m r up (Ok b, s) → iter_words s ≡ iter_words r
  search_words b None can is = ap (λ (x : Found). iter_words x.1) is
  search_words b (Some q) (A, L, for) is = words_by q _ (is A L for)

  pub search_open : (b : Bool) (r : Option Open) → Searches m r up (Ok b, s) → (q : Open) × (r ≡ Some q) × Searches m (Some q) up (Ok b, s)
  search_open b None is = (let f = ap (λ (x : Found). x.0) is in cc)
  search_open b (Some q) is = (q, refl, is)

  search_told : {n : ℕ} {q : Open} {Q : Iter} (b : Bool) → IsIter n Q → OpenFor m q Q → Searches m (Some q) up (Ok b, s) → Searched m q (found_from Q (Q.position + up)) (Ok b, s)
  search_told {q = q} {Q = Q} b valid for told = subst (λ o. Searched m q (found_from Q (o + up)) (Ok b, s)) for.position (told Q.snapshot Q.buffered (stands_for valid for))

-- a register at its place can be read
pub can_read : {m : Memory} {k : Kept} {i j : ℕ} {d : Option Open} (p : Place m k i j d) → CanRead m (slice_index_or k.iters j d)
can_read {m} {k} {i} {j} {d} p =
    let r = p.ready in
    readable m (length r.machine.segments) (slice_index_or k.iters j d) (iter r.task i) (register_for m k r.task i (slice_index_or k.iters j d) r.can_act.task_for (is_read p)) (iter_valid r.machine r.number r.task i r.can_act)

-- the task after a load has the same words, and stands for the same
module _ {m : Memory} {k : Kept} {b j : ℕ} {d : Option Open} (p : Place m k b j d) (s : Option Open) (stays : Stays m (slice_index_or k.iters j d) s) where
  pub loaded_words : task_words (with_iter k j s) ≡ task_words k
  loaded_words = words_with p s (stays_words m s (slice_index_or k.iters j d) stays)

  pub loaded_task : {P : Machine} {t : ℕ} {T : Task} → CanAct m k P t T → TaskFor m (with_iter k j s) T
  loaded_task {T = T} can =
      let r = slice_index_or k.iters j d in
      put_alike p s T can.task_for (stays_for m s r (iter T b) stays (register_for m k T b r can.task_for (is_read p)))

-- the task after a search has the same words, and puts the answer into a register
module _ {m : Memory} {k : Kept} {b j : ℕ} {d : Option Open} (p : Place m k b j d) (up : ℕ) (found : Bool) (s : Option Open) (told : Searches m (slice_index_or k.iters j d) up (Ok found, s)) where
  pub searched_words : task_words (with_iter k j s) ≡ task_words k
  searched_words = words_with p s (search_words m up s found (slice_index_or k.iters j d) (can_read p) told)

  pub search_row : {n : Memory} {l : Kept} {x : ℕ} {instr : Instr} (a : ℕ) → Exchanges m n (task_words (with_iter k j s)) (task_words l) → ((T : Task) → TaskFor m (with_iter k j s) T → TaskFor n l (next (with_reg T a (Number x))))
      → x ≡ one_if found → ((P : Machine) (t : ℕ) (T : Task) (Q : Iter) → iter T b ≡ Some Q → act P t T instr ≡ finds P t T a b Q (found_from Q (Q.position + up))) → ActsAlone m n k l instr (Ok done.Went)
  search_row {n} {l} {x} a exchange stands number row = went (exchanges_reshapes (subst (λ ws. Exchanges m n ws (task_words l)) searched_words exchange)) (λ P t T can.
      let (q, opened, is) = search_open m up s found (slice_index_or k.iters j d) told in
      let (Q, at, for) = open_at b (slice_index_or k.iters j d) (is_read p) q can opened in
      let o = found_from Q (Q.position + up) in
      let e = search_told m up s found (valid_at P t T b Q can at) for is in
      let U = with_plain T b (Some (moved Q o)) in
      (next (with_reg U a (Number (one_if (is_some o)))), number_set U a (number ∙ ap one_if (found_by q o e)) (stands U (iter_put p s T (Some (moved Q o)) can.task_for (moved_by q o e for))), row P t T Q at))
