-- Which arrays need no line that some arrays have not; and what a task and the segments hold, by that.
use Rattle.std.proofs.Common.{◌≡◌, ℕ, zero, suc, ◌≤◌, eqb, ltb, Bool, true, false, cond, if◌then◌else◌, List, [], ◌∷◌, ◌++◌, length, map, Option, Some, None, refl, sym, subst, get_or, inl, inr}
use Rattle.std.specs.Prelude.{IfSome, flat_map, slice_get, slice_set}
use Rattle.std.specs.List.{AllByRecursion}
use Rattle.hic_word.specs.Width.{IsWidth}
use Rattle.hic_word.specs.Lists.{In}
use Rattle.hic_word.specs.Values.{Value, Number, Ref, Array, array, array-pairs, arrays_of, at, pairs}
use Rattle.hic_word.specs.Changes.{value_after}
use Rattle.hic_word.specs.Entries.{LineValue}
use Rattle.hic_word.specs.Lines.{lines, visit}
use Rattle.hic_word.proofs.callers.Forms.{changes_are_made}
use Rattle.hic_word.proofs.callers.Lines.{Apart-distinct}
use Rattle.line_room.proofs.ArrayLines.{lines_are_of_each, lines_visit, visit_lines}
use Rattle.line_room.proofs.Pigeons.{distinct-length}
use Rattle.segment_map.specs.Merging.{Changes}
use Rattle.hic_plain.specs.Machine.{Iter, Segment, Task, buffered_arrays, held_by, snapshots}
use Rattle.hic_plain.specs.Iters.{loaded}
use Rattle.write_buf.specs.WordPairs.{with_pair}
use Rattle.hic_plain.specs.Turns.{put_array, put_new}
use Rattle.hic_plain.specs.Valid.{IsIter}
use Rattle.hic_plain.proofs.References.{referenced_lines}

-- ---- lists

abbrev pub All : {X : Type 0} → (X → Type 0) → List X → Type 0
All P xs = AllByRecursion P xs

module _ {X : Type 0} (P : X → Type 0) where
  pub all-append : (xs ys : List X) → All P xs → All P ys → All P (xs ++ ys)
  all-append [] ys first second = second
  all-append (x ∷ xs) ys first second = (first.0, all-append xs ys first.1 second)

  pub all-first : (xs ys : List X) → All P (xs ++ ys) → All P xs
  all-first [] ys all = tt
  all-first (x ∷ xs) ys all = (all.0, all-first xs ys all.1)

  pub all-second : (xs ys : List X) → All P (xs ++ ys) → All P ys
  all-second [] ys all = all
  all-second (x ∷ xs) ys all = all-second xs ys all.1

pub all-each : {X : Type 0} (P Q : X → Type 0) → ((x : X) → P x → Q x) → (xs : List X) → All P xs → All Q xs
all-each P Q each [] all = tt
all-each P Q each (x ∷ xs) all = (each x all.0, all-each P Q each xs all.1)

-- ---- lines

module _ (w : ℕ) where
  -- the lines of these arrays have each line of the array
  abbrev pub Covered : List Array → Array → Type 0
  Covered R A = (L : LineValue) → In L (visit w A) → In L (lines w R)

  covered_lines : (R S : List Array) → All (Covered R) S → (L : LineValue) → In L (lines w S) → In L (lines w R)
  covered_lines R [] all L i = absurd i
  covered_lines R (A ∷ S) all L i = elim ((lines_are_of_each w A S L).0 i) [
    | inl first ↦ all.0 L (lines_visit w A L first)
    | inr rest ↦ covered_lines R S all.1 L rest
  ]

  -- arrays that are covered have no more lines
  pub no_more_lines : (R S : List Array) → All (Covered R) S → length (lines w S) ≤ length (lines w R)
  no_more_lines R S all = distinct-length (lines w S) (lines w R) (Apart-distinct (flat_map (visit w) S)) (covered_lines R S all)

  later_covered : (A : Array) (R S : List Array) → All (Covered R) S → All (Covered (A ∷ R)) S
  later_covered A R [] all = tt
  later_covered A R (B ∷ S) all = (λ L i. (lines_are_of_each w A R L).1 (inr (all.0 L i)), later_covered A R S all.1)

  -- arrays cover themselves, and what they cover, others beside them do not uncover
  pub own_covered : (R : List Array) → All (Covered R) R
  own_covered [] = tt
  own_covered (A ∷ R) = (λ L i. (lines_are_of_each w A R L).1 (inl (visit_lines w A L i)), later_covered A R R (own_covered R))

  lines_beside : (R S : List Array) (L : LineValue) → In L (lines w R) → In L (lines w (R ++ S))
  lines_beside [] S L i = absurd i
  lines_beside (A ∷ R) S L i = (lines_are_of_each w A (R ++ S) L).1 (elim ((lines_are_of_each w A R L).0 i) [ inl first ↦ inl first | inr rest ↦ inr (lines_beside R S L rest) ])

  pub covered_beside : (R S : List Array) (A : Array) → Covered R A → Covered (R ++ S) A
  covered_beside R S A covered L i = lines_beside R S L (covered L i)

-- ---- what is held, where C is true of each array of it

module _ (C : Array → Type 0) where
  abbrev pub OfValue : Value → Type 0
  OfValue (Number n) = Unit {0}
  OfValue (Ref H) = C (array H)

  abbrev pub OfPairs : Changes → Type 0
  OfPairs cs = All (λ c. OfValue c.1) cs

  pub record OfIter (r : Iter) : Type 0 where
    pub snapshot : C r.snapshot
    pub buffered : OfPairs r.buffered

  pub record OfTask (u : Task) : Type 0 where
    pub regs : All OfValue u.regs
    pub iters : All (λ i. IfSome i OfIter) u.iters

  values_out : (vs : List Value) → All C (arrays_of vs) → All OfValue vs
  values_out [] all = tt
  values_out (Number n ∷ vs) all = (tt, values_out vs all)
  values_out (Ref H ∷ vs) all = (all.0, values_out vs all.1)

  values_in : (vs : List Value) → All OfValue vs → All C (arrays_of vs)
  values_in [] all = tt
  values_in (Number n ∷ vs) all = values_in vs all.1
  values_in (Ref H ∷ vs) all = (all.0, values_in vs all.1)

  pairs_out : (cs : Changes) → All OfValue (map (λ c. c.1) cs) → OfPairs cs
  pairs_out [] all = tt
  pairs_out (c ∷ cs) all = (all.0, pairs_out cs all.1)

  pairs_in : (cs : Changes) → OfPairs cs → All OfValue (map (λ c. c.1) cs)
  pairs_in [] all = tt
  pairs_in (c ∷ cs) all = (all.0, pairs_in cs all.1)

  iters_out : (is : List (Option Iter)) → All C (snapshots is) → All C (buffered_arrays is) → All (λ i. IfSome i OfIter) is
  iters_out [] s b = tt
  iters_out (None ∷ is) s b = (tt, iters_out is s b)
  iters_out (Some r ∷ is) s b =
      let own = arrays_of (map (λ p. p.1) r.buffered) in
      (record { snapshot = s.0; buffered = pairs_out r.buffered (values_out (map (λ p. p.1) r.buffered) (all-first C own (buffered_arrays is) b)) }, iters_out is s.1 (all-second C own (buffered_arrays is) b))

  snapshots_in : (is : List (Option Iter)) → All (λ i. IfSome i OfIter) is → All C (snapshots is)
  snapshots_in [] all = tt
  snapshots_in (None ∷ is) all = snapshots_in is all.1
  snapshots_in (Some r ∷ is) all = (all.0.snapshot, snapshots_in is all.1)

  buffered_in : (is : List (Option Iter)) → All (λ i. IfSome i OfIter) is → All C (buffered_arrays is)
  buffered_in [] all = tt
  buffered_in (None ∷ is) all = buffered_in is all.1
  buffered_in (Some r ∷ is) all =
      all-append C (arrays_of (map (λ p. p.1) r.buffered)) (buffered_arrays is) (values_in (map (λ p. p.1) r.buffered) (pairs_in r.buffered all.0.buffered)) (buffered_in is all.1)

  pub task_out : (u : Task) → All C (held_by u) → OfTask u
  task_out u all =
      let iters = all-second C (arrays_of u.regs) (snapshots u.iters ++ buffered_arrays u.iters) all in
      record {
        regs = values_out u.regs (all-first C (arrays_of u.regs) (snapshots u.iters ++ buffered_arrays u.iters) all);
        iters = iters_out u.iters (all-first C (snapshots u.iters) (buffered_arrays u.iters) iters) (all-second C (snapshots u.iters) (buffered_arrays u.iters) iters);
      }

  pub task_in : (u : Task) → OfTask u → All C (held_by u)
  task_in u of =
      all-append C (arrays_of u.regs) (snapshots u.iters ++ buffered_arrays u.iters) (values_in u.regs of.regs)
      (all-append C (snapshots u.iters) (buffered_arrays u.iters) (snapshots_in u.iters of.iters) (buffered_in u.iters of.iters))

  pub tasks_at : (us : List Task) (t : ℕ) → All C (flat_map held_by us) → IfSome (slice_get us t) OfTask
  tasks_at [] t all = tt
  tasks_at (u ∷ us) zero all = task_out u (all-first C (held_by u) (flat_map held_by us) all)
  tasks_at (u ∷ us) (suc t) all = tasks_at us t (all-second C (held_by u) (flat_map held_by us) all)

  pub tasks_set : (us : List Task) (t : ℕ) (u : Task) → All C (flat_map held_by us) → All C (held_by u) → All C (flat_map held_by (slice_set us t u))
  tasks_set [] t u all new = tt
  tasks_set (v ∷ us) zero u all new = all-append C (held_by u) (flat_map held_by us) new (all-second C (held_by v) (flat_map held_by us) all)
  tasks_set (v ∷ us) (suc t) u all new =
      all-append C (held_by v) (flat_map held_by (slice_set us t u)) (all-first C (held_by v) (flat_map held_by us) all) (tasks_set us t u (all-second C (held_by v) (flat_map held_by us) all) new)

  abbrev pub OfSegments : List Segment → Type 0
  OfSegments ss = All C (map (λ s. s.array) ss)

  pub segment_at : (ss : List Segment) (k : ℕ) → OfSegments ss → IfSome (slice_get ss k) (λ s. C s.array)
  segment_at [] k all = tt
  segment_at (s ∷ ss) zero all = all.0
  segment_at (s ∷ ss) (suc k) all = segment_at ss k all.1

  segments_put : (ss : List Segment) (k : ℕ) (A : Array) → OfSegments ss → C A → OfSegments (put_array ss k A)
  segments_put [] k A all new = tt
  segments_put (s ∷ ss) zero A all new = (new, all.1)
  segments_put (s ∷ ss) (suc k) A all new = (all.0, segments_put ss k A all.1 new)

  pub segments_new : (ss : List Segment) (k : ℕ) (new : Option Array) → OfSegments ss → IfSome new C → OfSegments (put_new ss k new)
  segments_new ss k None all new = all
  segments_new ss k (Some A) all new = segments_put ss k A all new

  -- ---- what is read and made

  pub register_of : (vs : List Value) (r : ℕ) → All OfValue vs → OfValue (get_or vs r (Number 0))
  register_of [] r all = tt
  register_of (v ∷ vs) zero all = all.0
  register_of (v ∷ vs) (suc r) all = register_of vs r all.1

  pub reference_of : (A : Array) → C A → OfValue (Ref (pairs A))
  reference_of A of = subst C (sym (array-pairs A)) of

  pub pair_of : (cs : Changes) (o : ℕ) (v : Value) → OfPairs cs → OfValue v → OfPairs (with_pair cs o v)
  pair_of [] o v all of = (of, tt)
  pair_of (p ∷ cs) o v all of = pick (eqb p.0 o) (ltb p.0 o) (pair_of cs o v all.1 of)
    where
      pick : (same less : Bool) → OfPairs (with_pair cs o v) → OfPairs (if same then (o, v) ∷ cs else (if less then p ∷ with_pair cs o v else (o, v) ∷ p ∷ cs))
      pick true less later = (of, all.1)
      pick false true later = (all.0, later)
      pick false false later = (of, all)

  after_of : (cs : Changes) (i : ℕ) (v : Value) → OfPairs cs → OfValue v → OfValue (value_after cs i v)
  after_of [] i v all of = of
  after_of (c ∷ cs) i v all of = elim (eqb c.0 i) as (λ t. OfValue (cond t c.1 (value_after cs i v))) [ true ↦ all.0 | false ↦ after_of cs i v all.1 of ]

-- what holds of each array by one property holds by another that follows from it
module _ (C D : Array → Type 0) (each : (A : Array) → C A → D A) where
  pub value_more : (v : Value) → OfValue C v → OfValue D v
  value_more (Number n) of = tt
  value_more (Ref H) of = each (array H) of

  pub iter_more : (r : Iter) → OfIter C r → OfIter D r
  iter_more r of = record { snapshot = each r.snapshot of.snapshot; buffered = all-each (λ c. OfValue C c.1) (λ c. OfValue D c.1) (λ c. value_more c.1) r.buffered of.buffered }

  optional_more : (i : Option Iter) → IfSome i (OfIter C) → IfSome i (OfIter D)
  optional_more None of = tt
  optional_more (Some r) of = iter_more r of

  pub task_more : (u : Task) → OfTask C u → OfTask D u
  task_more u of = record {
    regs = all-each (OfValue C) (OfValue D) value_more u.regs of.regs;
    iters = all-each (λ i. IfSome i (OfIter C)) (λ i. IfSome i (OfIter D)) optional_more u.iters of.iters;
  }

-- a value of a view is in the buffer or in the snapshot
pub loaded_of : {w : ℕ} → IsWidth w → (R : List Array) (n : ℕ) (r : Iter) → IsIter n r → OfIter (Covered w R) r → OfValue (Covered w R) (loaded r)
loaded_of {w} width R n r is of =
    subst (OfValue (Covered w R)) (sym ((changes_are_made r.snapshot r.buffered is.snapshot is.buffered).1 r.position))
    (after_of (Covered w R) r.buffered r.position (at r.snapshot r.position) of.buffered (go (at r.snapshot r.position) refl))
  where
    go : (v : Value) → at r.snapshot r.position ≡ v → OfValue (Covered w R) v
    go (Number n) e = tt
    go (Ref H) e = λ L i. of.snapshot L (referenced_lines width r.snapshot r.position H is.snapshot e L i)
