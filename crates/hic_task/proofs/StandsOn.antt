-- What a task and the segments stand for in a memory that came to be another: words that are live stand on.
use Rattle.std.proofs.Common.{ℕ, ◌≤◌, List, [], ◌∷◌, ◌++◌, Option, Some, None, IsSome, refl, arith}
use Rattle.std.specs.Prelude.{flat_map}
use Rattle.hic_word.specs.declared.Word.{Word}
use Rattle.hic_word.specs.Lists.{times}
use Rattle.hic_word.specs.Names.{names_in}
use Rattle.hic_word.specs.Values.{Array, Ref, Value, pairs}
use Rattle.hic_word.specs.Exchanges.{KeepsLines, Reshapes}
use Rattle.hic_word.specs.Holds.{Holds, IsLive}
use Rattle.hic_word.specs.InMemory.{ChangesFor, WordIn}
use Rattle.hic_word.specs.Memory.{Memory, line_at, width}
use Rattle.hic_word.proofs.callers.Holds.{hit-same, names-append, names-cons, names-some}
use Rattle.hic_word.proofs.callers.Standing.{first_live, live_words_stand_on, words_stand_on}
use Rattle.iter_regs.specs.declared.opened.Open.{Open}
use Rattle.iter_regs.specs.Iters.{iter_words, words_of}
use Rattle.write_buf.specs.WordPairs.{WordPairs}
use Rattle.seg_cursor.proofs.Standing.{cursor_stands_on}
use Rattle.segment_map.specs.declared.Segment.{Segment as Stored}
use Rattle.segment_map.specs.Segments.{roots}
use Rattle.hic_plain.specs.Machine.{Iter, Segment, Task}
use Rattle.hic_task.specs.declared.task.Task.{Task as Kept}
use Rattle.hic_task.specs.Kept.{HoldsFew, IterFor, ItersFor, SegmentsFor, TaskFor, task_words}

-- the ids that words name are live
abbrev pub AreLive : Memory → List Word → Type 0
AreLive n ws = (id : ℕ) → 1 ≤ times id (names_in ws) → IsSome (line_at n id)

pub front_live : (n : Memory) (ws us : List Word) → AreLive n (ws ++ us) → AreLive n ws
front_live n ws us live id some = live id (let a = names-append id ws us in omega (arith, a, some))

pub rest_live : (n : Memory) (ws us : List Word) → AreLive n (ws ++ us) → AreLive n us
rest_live n ws us live id some = live id (let a = names-append id ws us in omega (arith, a, some))

-- the first word is live
head_live : (n : Memory) (x : Word) (ws : List Word) → AreLive n (x ∷ ws) → IsLive n x
head_live n x ws live id e = live id (let a = names-some id id x ws e in let b = hit-same id id refl in omega (arith, a, b))

later_live : (n : Memory) (x : Word) (ws : List Word) → AreLive n (x ∷ ws) → AreLive n ws
later_live n x ws live id some = live id (let a = names-cons id x ws in omega (arith, a, some))

module _ (m n : Memory) (H : List Word) (keeps : KeepsLines m n) (held : Holds (width n) n H) where
  pub word_on : (x : Word) (v : Value) (ws : List Word) → AreLive n (x ∷ ws) → WordIn m x v → WordIn n x v
  word_on x v ws live d = (live_words_stand_on (width n) m n H x keeps held (head_live n x ws live)).value v d

  changes_on : (cs : WordPairs) (L : Array) → AreLive n (words_of cs) → ChangesFor (width m) (line_at m) cs L → ChangesFor (width n) (line_at n) cs L
  changes_on [] [] live d = tt
  changes_on [] (p ∷ L) live d = absurd d
  changes_on (c ∷ cs) [] live d = absurd d
  changes_on (c ∷ cs) (p ∷ L) live d = (d.0, word_on c.1 p.1 (words_of cs) live d.1, changes_on cs L (later_live n c.1 (words_of cs) live) d.2)

  pub iter_on : (r : Option Open) (R : Option Iter) → AreLive n (iter_words r) → IterFor m r R → IterFor n r R
  iter_on None None live d = tt
  iter_on None (Some R) live d = absurd d
  iter_on (Some r) None live d = absurd d
  iter_on (Some r) (Some R) live d = record {
    segment = d.segment;
    position = d.position;
    cursor = cursor_stands_on m n H keeps held r.cursor R.snapshot (head_live n r.cursor.root (words_of r.pairs) live) d.cursor;
    buffered = changes_on r.pairs R.buffered (later_live n r.cursor.root (words_of r.pairs) live) d.buffered;
  }

  iters_on : (rs : List (Option Open)) (Rs : List (Option Iter)) → AreLive n (flat_map iter_words rs) → ItersFor m rs Rs → ItersFor n rs Rs
  iters_on [] [] live d = tt
  iters_on [] (R ∷ Rs) live d = absurd d
  iters_on (r ∷ rs) [] live d = absurd d
  iters_on (r ∷ rs) (R ∷ Rs) live d = (iter_on r R (front_live n (iter_words r) (flat_map iter_words rs) live) d.0, iters_on rs Rs (rest_live n (iter_words r) (flat_map iter_words rs) live) d.1)

  -- a task whose words are live
  pub task_on : (k : Kept) (T : Task) → AreLive n (task_words k) → TaskFor m k T → TaskFor n k T
  task_on k T live d = record {
    runs = d.runs;
    pc = d.pc;
    regs = words_stand_on m n H k.regs T.regs keeps held (front_live n k.regs (flat_map iter_words k.iters) live) d.regs;
    iters = iters_on k.iters T.iters (rest_live n k.regs (flat_map iter_words k.iters) live) d.iters;
  }

  -- segments whose roots are live
  pub segments_on : (ss : List Stored) (Ss : List Segment) → AreLive n (roots ss) → SegmentsFor m ss Ss → SegmentsFor n ss Ss
  segments_on [] [] live d = tt
  segments_on [] (S ∷ Ss) live d = absurd d
  segments_on (s ∷ ss) [] live d = absurd d
  segments_on (s ∷ ss) (S ∷ Ss) live d = (record { kind = d.0.kind; root = word_on s.root (Ref (pairs S.array)) (roots ss) live d.0.root }, segments_on ss Ss (later_live n s.root (roots ss) live) d.1)

-- what a task stands for in the memory before a call, it stands for afterwards
module _ {m n : Memory} {words : List Word} (few : HoldsFew m words) where
  pub task_after : (k : Kept) (T : Task) → Reshapes m n words (task_words k) → TaskFor m k T → TaskFor n k T
  task_after k T r d = let held = r.holds few.others few.holds in task_on m n (task_words k ++ few.others) r.lines held k T (first_live n (task_words k) few.others held) d

  -- the same of a task beside segments
  pub both_after : (ss : List Stored) (Ss : List Segment) (k : Kept) (T : Task) → Reshapes m n words (roots ss ++ task_words k) → SegmentsFor m ss Ss → TaskFor m k T → SegmentsFor n ss Ss × TaskFor n k T
  both_after ss Ss k T r s d =
      let held = r.holds few.others few.holds in
      let live = first_live n (roots ss ++ task_words k) few.others held in (
        segments_on m n ((roots ss ++ task_words k) ++ few.others) r.lines held ss Ss (front_live n (roots ss) (task_words k) live) s,
        task_on m n ((roots ss ++ task_words k) ++ few.others) r.lines held k T (rest_live n (roots ss) (task_words k) live) d,
      )

  -- segments alone, beside a task
  pub segments_after : (ss : List Stored) (Ss : List Segment) (k : Kept) → Reshapes m n words (roots ss ++ task_words k) → SegmentsFor m ss Ss → SegmentsFor n ss Ss
  segments_after ss Ss k r s =
      let held = r.holds few.others few.holds in
      segments_on m n ((roots ss ++ task_words k) ++ few.others) r.lines held ss Ss (front_live n (roots ss) (task_words k) (first_live n (roots ss ++ task_words k) few.others held)) s
