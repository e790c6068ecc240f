-- A segment that gets a new array: what it and the task stand for then, and what the plain machine has.
use Rattle.std.proofs.Common.{◌≡◌, ℕ, zero, suc, ◌+◌, ◌≤◌, ◌<◌, Bool, true, false, ◌↔◌, List, [], ◌∷◌, ◌++◌, length, length-append, Option, Some, None, Ok, refl, sym, ◌∙◌, ap, subst, arith}
use Rattle.std.specs.Prelude.{IfSome, IsTrue, flat_map, slice_get, slice_index_or, slice_set}
use Rattle.hic_word.specs.declared.Word.{Word}
use Rattle.hic_word.specs.Values.{Array, IsArray, Number, Ref, pairs}
use Rattle.hic_word.specs.Changes.{with}
use Rattle.hic_word.specs.Exchanges.{KeepsLines, Reshapes}
use Rattle.hic_word.specs.Holds.{Holds}
use Rattle.hic_word.specs.InMemory.{WordIn}
use Rattle.hic_word.specs.Memory.{Memory, width}
use Rattle.hic_word.proofs.callers.Holds.{reshapes_before}
use Rattle.hic_word.proofs.callers.Standing.{first_live}
use Rattle.line_mem.specs.Looks.{LooksUpTo}
use Rattle.line_room.specs.Room.{LacksRoomFor}
use Rattle.segment_map.specs.declared.Segment.{Segment as Stored}
use Rattle.segment_map.specs.declared.merged.Merged.{Merged}
use Rattle.segment_map.specs.declared.merged.Merged.TheVariants as merged
use Rattle.segment_map.specs.Merging.{Changes, Updated, commit, commit_row, effective, joined_changes, merges, number_of, same_array}
use Rattle.segment_map.proofs.MergeLaws.{commit_valid}
use Rattle.segment_map.specs.Segments.{roots, with_root}
use Rattle.merge_update.specs.Updates.{CommitFor, CommitLooks, HasNew, LacksRoomForNew, SegmentFor as PresentFor, greatest_height, read_looks}
use Rattle.merge_update.proofs.Replacing.{is_there}
use Rattle.write_buf.specs.WordPairs.{WordPairs}
use Rattle.iter_regs.specs.declared.opened.Open.{Open}
use Rattle.iter_regs.specs.Iters.{iter_words, of_open}
use Rattle.hic_plain.specs.Full.{full, full_with}
use Rattle.hic_plain.specs.Iters.{committed}
use Rattle.hic_plain.specs.Machine.{Iter, Machine, Segment, Task}
use Rattle.hic_plain.specs.declared.turn.Turn.TheVariants.{Went}
use Rattle.hic_plain.specs.declared.turn.Trap.TheVariants as trap
use Rattle.hic_plain.specs.Step.{answers}
use Rattle.hic_plain.specs.Turns.{iter, next, put_array, put_new, segment, sets, traps, traps_if, with_open, with_reg}
use Rattle.hic_plain.specs.Valid.{IsMachine}
use Rattle.hic_task.specs.declared.shared.Shared.{Shared}
use Rattle.hic_task.specs.declared.task.Task.{Task as Kept}
use Rattle.hic_task.specs.Acting.{SharedFor}
use Rattle.hic_task.specs.Commits.{renewed_by}
use Rattle.hic_task.specs.Kept.{HoldsFew, IterFor, ItersFor, SegmentFor, SegmentsFor, TaskFor, task_words}
use Rattle.hic_task.specs.Looks.{commit_looks, looks_for, put_looks}
use Rattle.hic_task.proofs.ArrayRows.{iter_put, segment_root}
use Rattle.hic_task.proofs.Opened.{Opened}
use Rattle.hic_task.proofs.Ready.{few_after, few_among, on_root}
use Rattle.hic_task.proofs.SealRow.{task_beside}
use Rattle.hic_task.proofs.StandsOn.{AreLive, front_live, rest_live, segments_on, word_on}

-- ---- the segment before

-- a segment of the plain machine is there
pub segment_within : (m : Memory) (ss : List Stored) (Ss : List Segment) (n : ℕ) → SegmentsFor m ss Ss → n < length Ss → (s : Stored) × (slice_get ss n ≡ Some s) × (S : Segment) × (slice_get Ss n ≡ Some S) × SegmentFor m s S
segment_within m [] [] n d low = absurd (omega (arith, low))
segment_within m [] (S ∷ Ss) n d low = absurd d
segment_within m (s ∷ ss) [] n d low = absurd d
segment_within m (s ∷ ss) (S ∷ Ss) zero d low = (s, refl, S, refl, d.0)
segment_within m (s ∷ ss) (S ∷ Ss) (suc n) d low = segment_within m ss Ss n d.1 (omega (arith, low))

-- what an update is given of a segment
pub present_for : (m : Memory) (P : Machine) (ss : List Stored) (n : ℕ) (s : Stored) (S : Segment) → IsMachine P → slice_get ss n ≡ Some s → slice_get P.segments n ≡ Some S → SegmentFor m s S → PresentFor m ss n S.kind S.array
present_for m P ss n s S valid there here d = record {
  segment = s;
  there = there;
  of_kind = d.kind;
  root_for = segment_root n valid here d;
}

-- ---- room for the new array

pub new_full : (m : Memory) (P : Machine) (o : Option Array) → IfSome o IsArray → ((A : Array) → IsArray A → LacksRoomFor m (A ∷ []) ↔ IsTrue (full P A)) → LacksRoomForNew m o ↔ IsTrue (full_with P o)
new_full m P None valid room = (λ e. absurd e, λ e. cc)
new_full m P (Some A) valid room = room A valid

-- ---- the segments after

pub with_root_length : (ss : List Stored) (i : ℕ) (root : Word) → length (with_root ss i root) ≡ length ss
with_root_length [] i root = refl
with_root_length (s ∷ ss) zero root = refl
with_root_length (s ∷ ss) (suc i) root = ap suc (with_root_length ss i root)

pub roots_length : (ss : List Stored) → length (roots ss) ≡ length ss
roots_length [] = refl
roots_length (s ∷ ss) = ap suc (roots_length ss)

pub as_many : (m n : Memory) (ss after : List Stored) (i : ℕ) (o : Option Array) → HasNew m n ss after i o → length after ≡ length ss
as_many m n ss after i None h = ap length h.0
as_many m n ss after i (Some A) (root, same, stands) = ap length same ∙ with_root_length ss i root

module _ (m n : Memory) (H : List Word) (keeps : KeepsLines m n) (held : Holds (width n) n H) where
  segments_put : (ss : List Stored) (Ss : List Segment) (i : ℕ) (root : Word) (A : Array) → AreLive n (roots (with_root ss i root)) → WordIn n root (Ref (pairs A)) → SegmentsFor m ss Ss → SegmentsFor n (with_root ss i root) (put_array Ss i A)
  segments_put [] [] i root A live is d = tt
  segments_put [] (S ∷ Ss) i root A live is d = absurd d
  segments_put (s ∷ ss) [] i root A live is d = absurd d
  segments_put (s ∷ ss) (S ∷ Ss) zero root A live is d = (record { kind = d.0.kind; root = is }, segments_on m n H keeps held ss Ss (rest_live n (root ∷ []) (roots ss) live) d.1)
  segments_put (s ∷ ss) (S ∷ Ss) (suc i) root A live is d = (record { kind = d.0.kind; root = word_on m n H keeps held s.root (Ref (pairs S.array)) (roots (with_root ss i root)) live d.0.root }, segments_put ss Ss i root A (rest_live n (s.root ∷ []) (roots (with_root ss i root)) live) is d.1)

  segments_new : (ss after : List Stored) (Ss : List Segment) (i : ℕ) (o : Option Array) → AreLive n (roots after) → HasNew m n ss after i o → SegmentsFor m ss Ss → SegmentsFor n after (put_new Ss i o)
  segments_new ss after Ss i None live h d = segments_on m n H keeps held after Ss live (subst (λ rs. SegmentsFor m rs Ss) (sym h.0) d)
  segments_new ss after Ss i (Some A) live (root, same, stands) d = subst (λ rs. SegmentsFor n rs (put_array Ss i A)) (sym same) (segments_put ss Ss i root A (subst (λ rs. AreLive n (roots rs)) same live) stands.word d)

pub segments_updated : {m n : Memory} {words : List Word} → HoldsFew m words → (ss after : List Stored) (Ss : List Segment) (i : ℕ) (o : Option Array) (others : List Word) → Reshapes m n words (roots after ++ others) → HasNew m n ss after i o → SegmentsFor m ss Ss → SegmentsFor n after (put_new Ss i o)
segments_updated {m} {n} few ss after Ss i o others r h d =
    let held = r.holds few.others few.holds in
    segments_new m n ((roots after ++ others) ++ few.others) r.lines held ss after Ss i o (front_live n (roots after) others (first_live n (roots after ++ others) few.others held)) h d

-- the segment has the new array, if there is one
pub new_there : (Ss : List Segment) (i : ℕ) (o : Option Array) (S : Segment) → slice_get (put_new Ss i o) i ≡ Some S → IfSome o (λ A. A ≡ S.array)
new_there Ss i None S e = tt
new_there Ss i (Some A) S e = go Ss i e
  where
    go : (Rs : List Segment) (j : ℕ) → slice_get (put_array Rs j A) j ≡ Some S → A ≡ S.array
    go [] j f = cc
    go (R ∷ Rs) zero f = ap (λ (Q : Segment). Q.array) (the_same R f)
      where
        the_same : (R : Segment) → Some (record R { array = A }) ≡ Some S → record R { array = A } ≡ S
        the_same R g = cc
    go (R ∷ Rs) (suc j) f = go Rs j f

-- ---- the iterator register after

-- the new array of a segment that has A then, by the answer
pub given : Merged → Array → Option Array
given merged.Swapped A = Some A
given merged.Merged A = Some A
given merged.Conflict A = None
given merged.Wide A = None

row_gives : (current merging : Bool) (C P : Array) (cs : Option Changes) (A : Array) → IfSome (commit_row current merging C P cs).array (λ B. B ≡ A) → (commit_row current merging C P cs).array ≡ given (commit_row current merging C P cs).answer A
unfolding given
row_gives true merging C P cs A e = ap Some e
row_gives false false C P cs A e = refl
row_gives false true C P None A e = refl
row_gives false true C P (Some cs) A e = ap Some e

renewed_given : (m : Memory) (answer : Merged) (r : Option Open) (R : Iter) (root : Word) (A : Array) → IfSome (given answer A) IsArray → IterFor m r (Some R) → WordIn m root (Ref (pairs A)) → IterFor m (renewed_by answer r root) (Some (committed R (given answer A)))
unfolding given
renewed_given m answer None R root A valid d is = absurd d
renewed_given m merged.Swapped (Some r) R root A valid d is = record { segment = d.segment; position = d.position; cursor = on_root (record { valid = valid; word = is }); buffered = tt }
renewed_given m merged.Merged (Some r) R root A valid d is = record { segment = d.segment; position = d.position; cursor = on_root (record { valid = valid; word = is }); buffered = tt }
renewed_given m merged.Conflict (Some r) R root A valid d is = d
renewed_given m merged.Wide (Some r) R root A valid d is = d

pub renewed_for : (m : Memory) (answer told : Merged) (o : Option Array) (r : Option Open) (R : Iter) (root : Word) (A : Array) → answer ≡ told → o ≡ given told A → IfSome o IsArray → IterFor m r (Some R) → WordIn m root (Ref (pairs A)) → IterFor m (renewed_by answer r root) (Some (committed R o))
renewed_for m answer told o r R root A e f valid d is = subst (λ x. IterFor m (renewed_by x r root) (Some (committed R o))) (sym e) (subst (λ x. IterFor m (renewed_by told r root) (Some (committed R x))) (sym f) (renewed_given m told r R root A (subst (λ x. IfSome x IsArray) f valid) d is))

-- it holds no more words
pub renewed_fewer : (answer : Merged) (r : Option Open) (root : Word) → length (iter_words (renewed_by answer r root)) ≤ length (iter_words r)
renewed_fewer merged.Swapped None root = omega arith
renewed_fewer merged.Swapped (Some r) root = omega arith
renewed_fewer merged.Merged None root = omega arith
renewed_fewer merged.Merged (Some r) root = omega arith
renewed_fewer merged.Conflict r root = omega arith
renewed_fewer merged.Wide r root = omega arith

pub fewer_words : (rs : List (Option Open)) (j : ℕ) (x r : Option Open) → slice_get rs j ≡ Some x → length (iter_words r) ≤ length (iter_words x) → length (flat_map iter_words (slice_set rs j r)) ≤ length (flat_map iter_words rs)
fewer_words [] j x r e less = cc
fewer_words (y ∷ rs) zero x r e less =
    let a = length-append (iter_words r) (flat_map iter_words rs) in
    let b = length-append (iter_words y) (flat_map iter_words rs) in
    let c : length (iter_words r) ≤ length (iter_words y) = subst (λ z. length (iter_words r) ≤ length (iter_words z)) (the_same e) less in
    omega (arith, a, b, c)
  where
    the_same : Some y ≡ Some x → x ≡ y
    the_same f = cc
fewer_words (y ∷ rs) (suc j) x r e less =
    let a = length-append (iter_words y) (flat_map iter_words (slice_set rs j r)) in
    let b = length-append (iter_words y) (flat_map iter_words rs) in
    let c = fewer_words rs j x r e less in
    omega (arith, a, b, c)

-- one that is there in the plain task
pub iter_found : (m : Memory) (rs : List (Option Open)) (Rs : List (Option Iter)) (j : ℕ) (x : Option Open) → ItersFor m rs Rs → slice_get rs j ≡ Some x → IterFor m x (slice_index_or Rs j None)
iter_found m [] Rs j x d e = cc
iter_found m (r ∷ rs) [] j x d e = absurd d
iter_found m (r ∷ rs) (R ∷ Rs) zero x d e = subst (λ z. IterFor m z R) (the_same e) d.0
  where
    the_same : Some r ≡ Some x → r ≡ x
    the_same f = cc
iter_found m (r ∷ rs) (R ∷ Rs) (suc j) x d e = iter_found m rs Rs j x d.1 e

-- ---- an update

-- a commit of an open register's writes, as the plain machine has it
pub record Commits (m : Memory) (ss : List Stored) (P : Machine) (T : Task) (i : ℕ) (r : Option Open) (snapshot : Word) (writes : WordPairs) (n : ℕ) : Type 0 where
  pub opened : Opened m P T i r snapshot writes
  pub own : opened.plain.segment ≡ Some n
  pub plain : Segment
  pub here : segment P n ≡ Some plain
  pub for : CommitFor m ss n snapshot writes plain.kind opened.plain.snapshot opened.plain.buffered plain.array

-- the table's row of it
abbrev pub row_of : {m : Memory} {ss : List Stored} {P : Machine} {T : Task} {i : ℕ} {r : Option Open} {snapshot : Word} {writes : WordPairs} {n : ℕ} → Commits m ss P T i r snapshot writes n → Updated
row_of w = commit w.plain.kind w.opened.plain.snapshot w.opened.plain.buffered w.plain.array

pub row_valid : {m : Memory} {ss : List Stored} {P : Machine} {T : Task} {i : ℕ} {r : Option Open} {snapshot : Word} {writes : WordPairs} {n : ℕ} (w : Commits m ss P T i r snapshot writes n) → IfSome (row_of w).array IsArray
row_valid w = commit_valid w.plain.kind w.opened.plain.snapshot w.opened.plain.buffered w.plain.array w.for.writes_for.root_for.valid w.for.writes_for.ascend w.for.segment_for.root_for.valid

-- where its row gives A, the answer tells so
pub row_told : {m : Memory} {ss : List Stored} {P : Machine} {T : Task} {i : ℕ} {r : Option Open} {snapshot : Word} {writes : WordPairs} {n : ℕ} (w : Commits m ss P T i r snapshot writes n) (A : Array) → IfSome (row_of w).array (λ B. B ≡ A) → (row_of w).array ≡ given (row_of w).answer A
row_told w A e =
    let R = w.opened.plain in
    row_gives (same_array w.plain.array R.snapshot) (merges w.plain.kind) (with R.snapshot R.buffered) w.plain.array (joined_changes w.plain.kind R.snapshot (effective R.snapshot R.buffered) w.plain.array) A e

pub own_is : (r : Option Open) (q : Open) (own : Option ℕ) → r ≡ Some q → Ok own ≡ of_open r (λ p. p.segment) → own ≡ q.segment
own_is r q own is tells = the_same (subst (λ o. Ok own ≡ of_open o (λ p. p.segment)) is tells)
  where
    the_same : Ok own ≡ of_open (Some q) (λ p. p.segment) → own ≡ q.segment
    the_same e = cc

pub commits_at : {m : Memory} {ss : List Stored} {P : Machine} {T : Task} {i : ℕ} {r : Option Open} {snapshot : Word} {writes : WordPairs} → IsMachine P → SegmentsFor m ss P.segments → (o : Opened m P T i r snapshot writes) → {own : Option ℕ} {n : ℕ} → Ok own ≡ of_open r (λ p. p.segment) → own ≡ Some n → Commits m ss P T i r snapshot writes n
commits_at {m} {ss} {P} {T} {i} {r} {snapshot} {writes} valid for o {own} {n} tells is =
    let e = sym o.segment ∙ sym (own_is r o.kept own o.is tells) ∙ is in
    let low = subst (λ x. IfSome x (λ s. s < length P.segments)) e o.valid.segment in
    let (s, there, S, here, d) = segment_within m ss P.segments n for low in
    record {
      opened = o;
      own = e;
      plain = S;
      here = here;
      for = record { segment_for = present_for m P ss n s S valid there here d; writes_for = o.can_apply };
    }

-- what is there after an update of segment i, which may have a new array then
pub record AfterUpdate (n : Memory) (after : List Stored) (k : Kept) (P : Machine) (T : Task) (i : ℕ) (o : Option Array) : Type 0 where
  pub few : HoldsFew n (roots after ++ task_words k)
  pub there : i < length after
  pub segments_for : SegmentsFor n after (put_new P.segments i o)
  pub task_for : TaskFor n k T

updated_few : {m n : Memory} (ss after : List Stored) (ws : List Word) → HoldsFew m (roots ss ++ ws) → Reshapes m n (roots ss) (roots after) → length after ≡ length ss → HoldsFew n (roots after ++ ws)
updated_few ss after ws few r same = few_after (roots after ++ ws) few (reshapes_before r ws) (let a = length-append (roots ss) ws in let b = length-append (roots after) ws in let c = roots_length ss in let d = roots_length after in omega (arith, a, b, c, d, same))

pub after_update : {m n : Memory} {k : Kept} (ss after : List Stored) (P : Machine) (T : Task) (i : ℕ) {s : Stored} → TaskFor m k T → SegmentsFor m ss P.segments → HoldsFew m (roots ss ++ task_words k) → slice_get ss i ≡ Some s → (o : Option Array) → HasNew m n ss after i o → Reshapes m n (roots ss) (roots after) → AfterUpdate n after k P T i o
after_update {m} {n} {k} ss after P T i {s} task for few there o has r =
    let all = reshapes_before r (task_words k) in
    let many = as_many m n ss after i o has in
    record {
      few = updated_few ss after (task_words k) few r many;
      there = (let low = is_there ss i s there in omega (arith, low, many));
      segments_for = segments_updated few ss after P.segments i o (task_words k) all has for;
      task_for = task_beside (roots after) k T (few_among few) all task;
    }

-- the register is renewed, and the task has it
pub renewed_task : {n : Memory} {after : List Stored} {k : Kept} {P : Machine} {T : Task} {a : ℕ} {o : Option Array} → AfterUpdate n after k P T a o → (i j : ℕ) → j ≡ i → (x : Option Open) → slice_get k.iters j ≡ Some x → (R : Iter) → iter T i ≡ Some R → (answer told : Merged) → answer ≡ told → (root : Word) (A : Array) → o ≡ given told A → IfSome o IsArray → WordIn n root (Ref (pairs A)) → (r : Option Open) → r ≡ renewed_by answer x root → TaskFor n (record k { iters = slice_set k.iters j r }) (with_open T i (committed R o))
renewed_task {n} {after} {k} {P} {T} {a} {o} u i j same x there R here answer told e root A f valid is r g =
    let d = subst (IterFor n x) (ap (λ z. slice_index_or T.iters z None) same ∙ here) (iter_found n k.iters T.iters j x u.task_for.iters there) in
    let h = subst (λ z. IterFor n z (Some (committed R o))) (sym g) (renewed_for n answer told o x R root A e f valid d is) in
    iter_put i j same r (Some (committed R o)) u.task_for h

pub renewed_less : (k : Kept) (j : ℕ) (x r : Option Open) (answer : Merged) (root : Word) → slice_get k.iters j ≡ Some x → r ≡ renewed_by answer x root → length (k.regs ++ flat_map iter_words (slice_set k.iters j r)) ≤ length (task_words k)
renewed_less k j x r answer root there e =
    let fewer : length (iter_words r) ≤ length (iter_words x) = subst (λ z. length (iter_words z) ≤ length (iter_words x)) (sym e) (renewed_fewer answer x root) in
    let a = length-append k.regs (flat_map iter_words (slice_set k.iters j r)) in
    let b = length-append k.regs (flat_map iter_words k.iters) in
    let c = fewer_words k.iters j x r there fewer in
    omega (arith, a, b, c)

-- what a commit or mcas gives is put into the segment, if there is room
room_given : (P : Machine) (t : ℕ) (left : Task) (a n : ℕ) (u : Updated) → full_with P u.array ≡ false → answers P t left a n u ≡ sets (record P { segments = put_new P.segments n u.array }) t left a (Number (number_of u.answer))
room_given P t left a n u room = ap (λ x. traps_if x P trap.Full (sets (record P { segments = put_new P.segments n u.array }) t left a (Number (number_of u.answer)))) room

pub room_refused : (P : Machine) (t : ℕ) (left : Task) (a n : ℕ) (u : Updated) → full_with P u.array ≡ true → answers P t left a n u ≡ traps P trap.Full
room_refused P t left a n u none = ap (λ x. traps_if x P trap.Full (sets (record P { segments = put_new P.segments n u.array }) t left a (Number (number_of u.answer)))) none

-- what the plain machine is left with where there was room
pub answers_with : {m : Memory} {s : Shared} {P : Machine} (t : ℕ) (T left : Task) (a n : ℕ) (u : Updated) → SharedFor m s P → full_with P u.array ≡ false → answers P t left a n u ≡ (record P { segments = put_new P.segments n u.array; tasks = slice_set P.tasks t (next (with_reg left a (Number (number_of u.answer)))); input = s.input }, Went)
answers_with {P = P} t T left a n u for room =
    room_given P t left a n u room ∙ ap (λ input. (record P { segments = put_new P.segments n u.array; tasks = slice_set P.tasks t (next (with_reg left a (Number (number_of u.answer)))); input = input }, Went)) (sym for.input)

-- ---- looks

pub looks_then : (a b : ℕ) {old between new : ℕ} → LooksUpTo a old between → LooksUpTo b between new → LooksUpTo (a + b) old new
looks_then a b one two = ((let c = one.0 in let d = two.0 in omega (arith, c, d)), (let c = one.1 in let d = two.1 in omega (arith, c, d)))

pub committed_looks : {m : Memory} {ss : List Stored} {P : Machine} {T : Task} {i : ℕ} {r : Option Open} {snapshot : Word} {writes : WordPairs} {n : ℕ} (probe : ℕ) {old new : ℕ} (w : Commits m ss P T i r snapshot writes n)
    → CommitLooks (same_array w.plain.array w.opened.plain.snapshot) (length writes) (greatest_height (width m) (w.opened.plain.snapshot ∷ w.plain.array ∷ []) (commit w.plain.kind w.opened.plain.snapshot w.opened.plain.buffered w.plain.array)) probe old new
    → LooksUpTo (looks_for (iter T i) (λ R. looks_for R.segment (λ k. looks_for (segment P k) (λ S. commit_looks (width m) probe R S)))) old new
committed_looks {m} {P = P} {writes = writes} probe {old} {new} w looks =
    let R = w.opened.plain in
    let S = w.plain in
    let h = greatest_height (width m) (R.snapshot ∷ S.array ∷ []) (commit S.kind R.snapshot R.buffered S.array) in
    let (between, one, two) = subst (λ k. CommitLooks (same_array S.array R.snapshot) k h probe old new) w.opened.count looks in
    let all : LooksUpTo (commit_looks (width m) probe R S) old new = looks_then (read_looks (same_array S.array R.snapshot) (length R.buffered) h) (put_looks (length R.buffered) h probe) one two in
    subst (λ o. LooksUpTo (looks_for o (λ Q. looks_for Q.segment (λ k. looks_for (segment P k) (λ s. commit_looks (width m) probe Q s)))) old new) (sym w.opened.there)
    (subst (λ o. LooksUpTo (looks_for o (λ k. looks_for (segment P k) (λ s. commit_looks (width m) probe R s))) old new) (sym w.own)
    (subst (λ o. LooksUpTo (looks_for o (λ s. commit_looks (width m) probe R s)) old new) (sym w.here) all))
