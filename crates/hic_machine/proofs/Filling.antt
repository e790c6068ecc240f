-- The data of an object comes into the segments, one after another.
use Rattle.std.proofs.Common.{◌≡◌, ℕ, zero, suc, ◌+◌, ◌-◌, ◌*◌, ◌^◌, ◌<◌, ◌≤◌, Bool, true, false, eqb, if◌then◌else◌, List, [], ◌∷◌, ◌++◌, length, drop, take, get_or, Some, None, Result, Ok, Err, refl, sym, ◌∙◌, ap, subst, inl, inr, arith}
use Rattle.std.specs.Prelude.{◌⊎◌, OnErr, flat_map, map, option_map, slice_get}
use Rattle.std.specs.List.{AllByRecursion}
use Rattle.std.proofs.lemmas.Bool.{le-ltb, ne_eqb}
use Rattle.std.proofs.lemmas.List.{append-nil, drop-drop, length-map, take_all, take_more}
use Rattle.hic_isa.specs.declared.instr.SegKind.{SegKind}
use Rattle.hic_object.specs.declared.object.DataRec.{DataRec}
use Rattle.hic_object.specs.Parts.{AreRecords, IsAbove, IsObject, Parts}
use Rattle.hic_word.specs.declared.Word.{Word}
use Rattle.hic_word.specs.Changes.{AreChanges, placed, put_if, with, with_change}
use Rattle.hic_word.specs.Entries.{LineValue}
use Rattle.hic_word.specs.Exchanges.{Exchanges, HasRoomFor, Reshapes}
use Rattle.hic_word.specs.Holds.{Holds}
use Rattle.hic_word.specs.Heights.{height}
use Rattle.hic_word.specs.InMemory.{CanApply, ChangesFor, RootIn, WordIn}
use Rattle.hic_word.specs.Lines.{lines, visit}
use Rattle.hic_word.specs.Lists.{In, times}
use Rattle.hic_word.specs.Memory.{Memory, line_at, width}
use Rattle.hic_word.specs.Names.{named_id, names_in}
use Rattle.hic_word.specs.Stands.{IsEmpty, IsNumber, IsPacked, IsStored, Lookup}
use Rattle.hic_word.specs.Values.{ArePairs, Array, IsArray, NoPair, Number, Ref, arrays_of, pairs}
use Rattle.hic_word.proofs.callers.Holds.{is_there, counts_are_bounded, exchanges_nothing, exchanges_regrouped, holding_is_by_counts, names-none}
use Rattle.hic_word.proofs.callers.Lines.{Apart-distinct}
use Rattle.line_mem.specs.Sound.{IsSound}
use Rattle.line_room.specs.Room.{LacksRoomFor}
use Rattle.line_room.proofs.ArrayLines.{lines_are_of_each}
use Rattle.line_room.proofs.MemoryRoom.{stored_lines_had_room}
use Rattle.line_room.proofs.Pigeons.{distinct-length}
use Rattle.line_room.proofs.RoomByLines.{room_is_by_lines}
use Rattle.merge_update.proofs.Replacing.{former_given_up}
use Rattle.segment_map.specs.declared.Segment.{Segment as Stored}
use Rattle.segment_map.specs.Segments.{empty_of, roots, with_root}
use Rattle.hic_plain.specs.Machine.{Segment, array_of, segments_from}
use Rattle.hic_plain.proofs.StartValid.{start-valid}
use Rattle.hic_task.specs.Kept.{SegmentsFor}
use Rattle.hic_task.proofs.StandsOn.{rest_live, segments_on}
use Rattle.hic_machine.specs.Loads.{AreLeft, AscendFrom, CanFill, CanLoad, Filled, Overflows, filled_from, of_segment, run_of, write_of, writes_from}
use Rattle.hic_machine.proofs.Order.{references, references_valid, segments_arrays, segments_stand}
use Rattle.hic_machine.proofs.Reading.{as_many_segments}
use Rattle.hic_machine.proofs.Runs.{behind_run, front_run, later_run}

-- ---- the writes of a segment make its array of the empty one

whole_changes : (b : ℕ) (A : Array) → ArePairs b (pairs A) → AreChanges b A
unfolding ArePairs
whole_changes b [] h = tt
whole_changes b (p ∷ A) h = (h.0, h.1, h.3, whole_changes (suc p.0) A h.4)

whole_made : (b : ℕ) (A : Array) → ArePairs b (pairs A) → with [] A ≡ A
unfolding ArePairs
whole_made b [] h = refl
whole_made b (c ∷ []) h = ap (λ t. put_if t c []) h.2
whole_made b (c ∷ p ∷ A) h =
    ap (with_change c) (whole_made (suc c.0) (p ∷ A) h.4)
    ∙ ap (λ t. placed t (eqb p.0 c.0) c p A (with_change c A)) (le-ltb p.0 c.0 (let low = h.4.0 in omega (arith, low)))
    ∙ ap (λ t. placed false t c p A (with_change c A)) (ne_eqb p.0 c.0 (λ e. let low = h.4.0 in omega (arith, low, e)))
    ∙ ap (λ t. put_if t c (p ∷ A)) h.2

pub array_made : (A : Array) → IsArray A → with [] A ≡ A
array_made A valid = whole_made 0 A valid

empty_valid : IsArray []
unfolding ArePairs
empty_valid = tt

records_for : (w : ℕ) (m : Lookup) (ds : List DataRec) → ChangesFor w m (map write_of ds) (map (λ d. (d.offset, Number d.value)) ds)
records_for w m [] = tt
records_for w m (d ∷ ds) = (refl, IsNumber refl, records_for w m ds)

pub can_fill : (m : Memory) (root : Word) (s : ℕ) (ds : List DataRec) → WordIn m root (Ref NoPair) → IsArray (array_of s ds) → CanApply m root (map write_of (of_segment s ds)) [] (array_of s ds)
can_fill m root s ds none valid = record {
  root_for = record { valid = empty_valid; word = none };
  changes_for = records_for (width m) (line_at m) (of_segment s ds);
  ascend = whole_changes 0 (array_of s ds) valid;
}

-- ---- the records of one segment after another

above_ascends : (d e : DataRec) → IsAbove d e → d.segment ≤ e.segment
above_ascends d e (inl less) = omega (arith, less)
above_ascends d e (inr same) = let a = same.0 in omega (arith, a)

ascend_after : (n : ℕ) (d : DataRec) (ds : List DataRec) → AreRecords n (Some d) ds → AscendFrom d.segment ds
ascend_after n d [] are = tt
ascend_after n d (e ∷ ds) are = (above_ascends d e are.0.above, ascend_after n e ds are.1)

records_ascend : (n : ℕ) (ds : List DataRec) → AreRecords n None ds → AscendFrom 0 ds
records_ascend n [] are = tt
records_ascend n (d ∷ ds) are = (omega arith, ascend_after n d ds are.1)

-- the records from a place on, up to the end of the segment's run
pub run_of_records : (s from end : ℕ) (ds : List DataRec) → AreLeft ds s from → end ≡ from + run_of s (drop from ds) → take (end - from) (drop from ds) ≡ of_segment s ds
run_of_records s from end ds left behind =
    let long : end - from ≡ run_of s (drop from ds) = omega (arith, behind) in
    ap (λ n. take n (drop from ds)) long ∙ sym (front_run s (drop from ds) left.ascend) ∙ left.same s (omega arith)

-- behind the run the records of the next segments are left
pub left_behind : (s from end : ℕ) (ds : List DataRec) → AreLeft ds s from → end ≡ from + run_of s (drop from ds) → end ≤ length ds → AreLeft ds (s + 1) end
left_behind s from end ds left behind within =
    let onward : drop (run_of s (drop from ds)) (drop from ds) ≡ drop end ds = drop-drop (run_of s (drop from ds)) from ds ∙ ap (λ k. drop k ds) (sym behind) in
    let next : suc s ≡ s + 1 = omega arith in
    record {
      within = within;
      ascend = subst (λ n. AscendFrom n (drop end ds)) next (subst (AscendFrom (suc s)) onward (behind_run s (drop from ds) left.ascend));
      same = λ r low. ap (of_segment r) (sym onward) ∙ later_run s r (drop from ds) (omega (arith, low)) left.ascend ∙ left.same r (omega (arith, low));
    }

pub all_left : (n : ℕ) (ds : List DataRec) → AreRecords n None ds → AreLeft ds 0 0
all_left n ds are = record { within = omega arith; ascend = records_ascend n ds are; same = λ r low. refl }

-- ---- the writes of each segment

length-writes : (i : ℕ) (ks : List SegKind) (ds : List DataRec) → length (writes_from i ks ds) ≡ length ks
length-writes i [] ds = refl
length-writes i (k ∷ ks) ds = ap suc (length-writes (i + 1) ks ds)

writes_at : (i s : ℕ) (ks : List SegKind) (ds : List DataRec) (x : List (ℕ × Word)) → s < length ks → get_or (writes_from i ks ds) s x ≡ map write_of (of_segment (i + s) ds)
writes_at i s [] ds x low = absurd (omega (arith, low))
writes_at i zero (k ∷ ks) ds x low = ap (λ n. map write_of (of_segment n ds)) (omega arith)
writes_at i (suc s) (k ∷ ks) ds x low = writes_at (i + 1) s ks ds x (omega (arith, low)) ∙ ap (λ n. map write_of (of_segment n ds)) (omega arith)

-- one list of writes more
pub writes_more : (s : ℕ) (ks : List SegKind) (ds : List DataRec) → s < length ks → take (s + 1) (writes_from 0 ks ds) ≡ take s (writes_from 0 ks ds) ++ map write_of (of_segment s ds) ∷ []
writes_more s ks ds low =
    let long = length-writes 0 ks ds in
    take_more (writes_from 0 ks ds) s [] (omega (arith, long, low))
    ∙ ap (λ x. take s (writes_from 0 ks ds) ++ x ∷ []) (writes_at 0 s ks ds [] low ∙ ap (λ n. map write_of (of_segment n ds)) (omega arith))

pub all_writes : (s : ℕ) (ks : List SegKind) (ds : List DataRec) → length ks ≤ s → take s (writes_from 0 ks ds) ≡ writes_from 0 ks ds
all_writes s ks ds low = let long = length-writes 0 ks ds in take_all s (writes_from 0 ks ds) (omega (arith, long, low))

few_of : (s : ℕ) (ds : List DataRec) → length (of_segment s ds) ≤ length ds
few_of s [] = omega arith
few_of s (d ∷ ds) = go (eqb d.segment s) (few_of s ds)
  where
    go : (t : Bool) → length (of_segment s ds) ≤ length ds → length (if t then d ∷ of_segment s ds else of_segment s ds) ≤ suc (length ds)
    go true low = omega (arith, low)
    go false low = omega (arith, low)

pub few_writes : (s : ℕ) (ds : List DataRec) (writes : List (ℕ × Word)) → writes ≡ map write_of (of_segment s ds) → length writes ≤ length ds
few_writes s ds writes are = let a = ap length are in let b = length-map (of_segment s ds) write_of in let c = few_of s ds in omega (arith, a, b, c)

-- ---- the data of a segment is an array

arrays_at : (i s : ℕ) (ks : List SegKind) (ds : List DataRec) → s < length ks → AllByRecursion (λ S. IsArray S.array) (segments_from i ks ds) → IsArray (array_of (i + s) ds)
arrays_at i s [] ds low all = absurd (omega (arith, low))
arrays_at i zero (k ∷ ks) ds low all = subst (λ n. IsArray (array_of n ds)) (omega arith) all.0
arrays_at i (suc s) (k ∷ ks) ds low all = subst (λ n. IsArray (array_of n ds)) (omega arith) (arrays_at (i + 1) s ks ds (omega (arith, low)) all.1)

pub data_valid : (o : Parts) → IsObject o → AllByRecursion (λ S. IsArray S.array) (segments_from 0 o.kinds o.words)
data_valid o is = (start-valid o [] 0 is tt).segments

pub array_valid : (o : Parts) (s : ℕ) → IsObject o → s < length o.kinds → IsArray (array_of s o.words)
array_valid o s is low = subst (λ n. IsArray (array_of n o.words)) (omega arith) (arrays_at 0 s o.kinds o.words low (data_valid o is))

-- ---- counts have room

filled_length : (f i : ℕ) (ks : List SegKind) (ds : List DataRec) → length (filled_from f i ks ds) ≡ length ks
filled_length f i [] ds = refl
filled_length zero i (k ∷ ks) ds = ap suc (filled_length zero (i + 1) ks ds)
filled_length (suc f) i (k ∷ ks) ds = ap suc (filled_length f (i + 1) ks ds)

pub filled_count : (m : Memory) (ss : List Stored) (o : Parts) (s : ℕ) → Filled m ss o s → length ss ≡ length o.kinds
filled_count m ss o s d = as_many_segments m ss (filled_from s 0 o.kinds o.words) d.segments_for ∙ filled_length s 0 o.kinds o.words

pub room_to_fill : (m : Memory) (ss : List Stored) (o : Parts) (s n : ℕ) → IsSound m → IsObject o → Filled m ss o s → n ≤ length o.words → HasRoomFor (64 * (n + 1)) m
room_to_fill m ss o s n sound is d few id live =
    let (line, e) = is_there (line_at m id) live in
    let a = counts_are_bounded (width m) m (roots ss) id line (inr (inl refl)) d.holds.balanced sound.room e in
    let b = sound.most in
    let c = length-map ss (λ x. x.root) in
    let f = filled_count m ss o s d in
    let g = is.rules.segments in
    let h = is.rules.words_count in
    omega (arith, a, b, c, f, g, h, few)

-- ---- a segment gets its data

names_nothing : (m : Memory) (x : Word) → WordIn m x (Ref NoPair) → named_id x ≡ None
unfolding height
names_nothing m x (IsEmpty e) = ap named_id e
names_nothing m x (IsPacked r e) = ap named_id e
names_nothing m x (IsStored r i e) = cc

-- a segment that has no data yet has a root that names no line
former_empty : (m : Memory) (s i : ℕ) (ss : List Stored) (ks : List SegKind) (ds : List DataRec) (former : Word) → SegmentsFor m ss (filled_from s i ks ds) → option_map (λ (x : Stored). x.root) (slice_get ss s) ≡ Some former → WordIn m former (Ref NoPair)
former_empty m s i [] ks ds former d e = cc
former_empty m s i (x ∷ ss) [] ds former d e = absurd d
former_empty m zero i (x ∷ ss) (k ∷ ks) ds former d e = subst (λ w. WordIn m w (Ref NoPair)) (the_same e) d.0.root
  where
    the_same : Some x.root ≡ Some former → x.root ≡ former
    the_same f = cc
former_empty m (suc s) i (x ∷ ss) (k ∷ ks) ds former d e = former_empty m s (i + 1) ss ks ds former d.1 e

nothing_given_up : (m : Memory) (x : Word) → named_id x ≡ None → Exchanges m m (x ∷ []) []
nothing_given_up m x none = exchanges_regrouped (exchanges_nothing m []) (x ∷ []) [] (λ j. names-none j x [] none) (λ j. refl)

with_data : (m : Memory) (s i : ℕ) (ss : List Stored) (ks : List SegKind) (ds : List DataRec) (new : Word) → SegmentsFor m ss (filled_from s i ks ds) → WordIn m new (Ref (pairs (array_of (i + s) ds))) → SegmentsFor m (with_root ss s new) (filled_from (suc s) i ks ds)
with_data m s i [] [] ds new d e = tt
with_data m s i [] (k ∷ ks) ds new d e = absurd (no_more s d)
  where
    no_more : (f : ℕ) → SegmentsFor m [] (filled_from f i (k ∷ ks) ds) → ⊥
    no_more zero a = a
    no_more (suc f) a = a
with_data m s i (x ∷ ss) [] ds new d e = absurd d
with_data m zero i (x ∷ ss) (k ∷ ks) ds new d e = (record { kind = d.0.kind; root = subst (λ n. WordIn m new (Ref (pairs (array_of n ds)))) (omega arith) e }, d.1)
with_data m (suc s) i (x ∷ ss) (k ∷ ks) ds new d e = (d.0, with_data m s (i + 1) ss ks ds new d.1 (subst (λ n. WordIn m new (Ref (pairs (array_of n ds)))) (omega arith) e))

module _ (m n : Memory) (ss : List Stored) (o : Parts) (s : ℕ) (new former : Word) (d : Filled m ss o s) (made : Reshapes m n [] (new ∷ [])) (there : option_map (λ (x : Stored). x.root) (slice_get ss s) ≡ Some former) where
  -- beside the new root
  both_held : Holds (width n) n (new ∷ roots ss)
  both_held = made.holds (roots ss) d.holds

  segments_then : SegmentsFor n ss (filled_from s 0 o.kinds o.words)
  segments_then = segments_on m n (new ∷ roots ss) made.lines both_held ss (filled_from s 0 o.kinds o.words) (rest_live n (new ∷ []) (roots ss) both_held.named) d.segments_for

  root_held : Holds (width n) n (roots (with_root ss s new))
  root_held =
      let gone = nothing_given_up n former (names_nothing n former (former_empty n s 0 ss o.kinds o.words former segments_then there)) in
      subst (Holds (width n) n) (append-nil (roots (with_root ss s new))) ((former_given_up ss s new former there n n gone).holds [] (subst (Holds (width n) n) (sym (append-nil (new ∷ roots ss))) both_held))

  pub filled_more : RootIn n new (array_of s o.words) → Filled n (with_root ss s new) o (suc s)
  filled_more stands = record {
    holds = root_held;
    segments_for = with_data n s 0 ss o.kinds o.words new segments_then (subst (λ k. WordIn n new (Ref (pairs (array_of k o.words)))) (omega arith) stands.word);
  }

-- ---- the segments are empty at first, and have all data at last

first_for : (m : Memory) (i : ℕ) (ks : List SegKind) (ds : List DataRec) → SegmentsFor m (map empty_of ks) (filled_from 0 i ks ds)
first_for m i [] ds = tt
first_for m i (k ∷ ks) ds = (record { kind = refl; root = IsEmpty refl }, first_for m (i + 1) ks ds)

none_named : (ks : List SegKind) (j : ℕ) → times j (names_in []) ≡ times j (names_in (roots (map empty_of ks)))
none_named [] j = refl
none_named (k ∷ ks) j = none_named ks j

pub filled_first : (m : Memory) (ss : List Stored) (o : Parts) → Holds (width m) m [] → ss ≡ map empty_of o.kinds → Filled m ss o 0
filled_first m ss o held are = record {
  holds = subst (λ (xs : List Stored). Holds (width m) m (roots xs)) (sym are) (holding_is_by_counts (width m) m [] (roots (map empty_of o.kinds)) (none_named o.kinds) held);
  segments_for = subst (λ xs. SegmentsFor m xs (filled_from 0 0 o.kinds o.words)) (sym are) (first_for m 0 o.kinds o.words);
}

all_filled : (f i : ℕ) (ks : List SegKind) (ds : List DataRec) → length ks ≤ f → filled_from f i ks ds ≡ segments_from i ks ds
all_filled f i [] ds low = refl
all_filled zero i (k ∷ ks) ds low = absurd (omega (arith, low))
all_filled (suc f) i (k ∷ ks) ds low = ap (λ Ss. record { kind = k; array = array_of i ds } ∷ Ss) (all_filled f (i + 1) ks ds (omega (arith, low)))

pub filled_last : (m : Memory) (ss : List Stored) (o : Parts) (s : ℕ) → length o.kinds ≤ s → Filled m ss o s → SegmentsFor m ss (segments_from 0 o.kinds o.words)
filled_last m ss o s low d = subst (SegmentsFor m ss) (all_filled s 0 o.kinds o.words low) d.segments_for

in_front : {X : Type 0} (x : X) (xs ys : List X) → In x xs → In x (xs ++ ys)
in_front x [] ys there = absurd there
in_front x (z ∷ xs) ys (inl e) = inl e
in_front x (z ∷ xs) ys (inr there) = inr (in_front x xs ys there)

-- ---- there is no room exactly where the lines of the data are more than the capacity

abbrev arrays : List Segment → List Array
arrays Ss = map (λ s. s.array) Ss

-- the empty array has none
no_line : (m : Memory) (L : LineValue) → In L (lines (width m) ([] ∷ [])) → ⊥
unfolding height
no_line m L there = there

module _ (m : Memory) where
  of_member : (S : List Array) (A : Array) (L : LineValue) → In A S → In L (lines (width m) (A ∷ [])) → In L (lines (width m) S)
  of_member [] A L there i = absurd there
  of_member (B ∷ S) A L (inl same) i = (lines_are_of_each (width m) B S L).1 (inl (subst (λ C. In L (lines (width m) (C ∷ []))) (sym same) i))
  of_member (B ∷ S) A L (inr later) i = (lines_are_of_each (width m) B S L).1 (inr (of_member S A L later i))

  -- arrays that are empty or among others have no other lines
  no_other_line : (R S : List Array) (L : LineValue) → ((A : Array) → In A R → (A ≡ []) ⊎ In A S) → In L (lines (width m) R) → In L (lines (width m) S)
  no_other_line [] S L among i = absurd i
  no_other_line (B ∷ R) S L among i = elim ((lines_are_of_each (width m) B R L).0 i) [
    | inl first ↦ elim (among B (inl refl)) [ inl none ↦ absurd (no_line m L (subst (λ C. In L (lines (width m) (C ∷ []))) none first)) | inr there ↦ of_member S B L there first ]
    | inr rest ↦ no_other_line R S L (λ A j. among A (inr j)) rest
  ]

  no_more_lines : (R S : List Array) → ((A : Array) → In A R → (A ≡ []) ⊎ In A S) → length (lines (width m) R) ≤ length (lines (width m) S)
  no_more_lines R S among = distinct-length (lines (width m) R) (lines (width m) S) (Apart-distinct (flat_map (visit (width m)) R)) (λ L i. no_other_line R S L among i)

filled_among : (f i : ℕ) (ks : List SegKind) (ds : List DataRec) (A : Array) → In A (arrays (filled_from f i ks ds)) → (A ≡ []) ⊎ In A (arrays (segments_from i ks ds))
filled_among f i [] ds A there = absurd there
filled_among zero i (k ∷ ks) ds A (inl e) = inl (sym e)
filled_among zero i (k ∷ ks) ds A (inr later) = elim (filled_among zero (i + 1) ks ds A later) [ inl none ↦ inl none | inr there ↦ inr (inr there) ]
filled_among (suc f) i (k ∷ ks) ds A (inl e) = inr (inl e)
filled_among (suc f) i (k ∷ ks) ds A (inr later) = elim (filled_among f (i + 1) ks ds A later) [ inl none ↦ inl none | inr there ↦ inr (inr there) ]

array_there : (i s : ℕ) (ks : List SegKind) (ds : List DataRec) → s < length ks → In (array_of (i + s) ds) (arrays (segments_from i ks ds))
array_there i s [] ds low = absurd (omega (arith, low))
array_there i zero (k ∷ ks) ds low = inl (ap (λ n. array_of n ds) (omega arith))
array_there i (suc s) (k ∷ ks) ds low = inr (subst (λ n. In (array_of n ds) (arrays (segments_from (i + 1) ks ds))) (omega arith) (array_there (i + 1) s ks ds (omega (arith, low))))

in_either : (A B : Array) (R : List Array) → In A (R ++ B ∷ []) → In A R ⊎ (B ≡ A)
in_either A B [] (inl e) = inr e
in_either A B [] (inr later) = absurd later
in_either A B (C ∷ R) (inl e) = inl (inl e)
in_either A B (C ∷ R) (inr later) = elim (in_either A B R later) [ inl there ↦ inl (inr there) | inr e ↦ inr e ]

all_among : (o : Parts) (s : ℕ) → s < length o.kinds → (A : Array) → In A (arrays (filled_from s 0 o.kinds o.words) ++ array_of s o.words ∷ []) → (A ≡ []) ⊎ In A (arrays (segments_from 0 o.kinds o.words))
all_among o s low A there = elim (in_either A (array_of s o.words) (arrays (filled_from s 0 o.kinds o.words)) there) [
  | inl before ↦ filled_among s 0 o.kinds o.words A before
  | inr e ↦ inr (subst (λ B. In B (arrays (segments_from 0 o.kinds o.words))) e (subst (λ n. In (array_of n o.words) (arrays (segments_from 0 o.kinds o.words))) (omega arith) (array_there 0 s o.kinds o.words low)))
]

filled_valid : (f i : ℕ) (ks : List SegKind) (ds : List DataRec) → AllByRecursion (λ S. IsArray S.array) (segments_from i ks ds) → AllByRecursion (λ S. IsArray S.array) (filled_from f i ks ds)
filled_valid f i [] ds all = tt
filled_valid zero i (k ∷ ks) ds all = (empty_valid, filled_valid zero (i + 1) ks ds all.1)
filled_valid (suc f) i (k ∷ ks) ds all = (all.0, filled_valid f (i + 1) ks ds all.1)

module _ (m : Memory) (ss : List Stored) (o : Parts) (is : IsObject o) where
  pub no_room_overflows : (s : ℕ) → s < length o.kinds → Filled m ss o s → LacksRoomFor m (array_of s o.words ∷ []) → Overflows m o
  no_room_overflows s low d lacks =
      let Ss = filled_from s 0 o.kinds o.words in
      let valid = references_valid Ss (filled_valid s 0 o.kinds o.words (data_valid o is)) in
      let more = (room_is_by_lines (width m) m (roots ss) (references Ss) (array_of s o.words) (inr (inl refl)) d.holds.balanced (segments_stand m ss Ss d.segments_for) valid).0 lacks in
      let same : length (lines (width m) (arrays_of (references Ss) ++ array_of s o.words ∷ [])) ≡ length (lines (width m) (arrays Ss ++ array_of s o.words ∷ [])) = ap (λ R. length (lines (width m) (R ++ array_of s o.words ∷ []))) (segments_arrays Ss) in
      let fewer = no_more_lines m (arrays Ss ++ array_of s o.words ∷ []) (arrays (segments_from 0 o.kinds o.words)) (all_among o s low) in
      omega (arith, more, same, fewer)

  pub filled_fits : IsSound m → Holds (width m) m (roots ss) → SegmentsFor m ss (segments_from 0 o.kinds o.words) → Overflows m o → ⊥
  filled_fits sound held d more =
      let Ss = segments_from 0 o.kinds o.words in
      let law = room_is_by_lines (width m) m (roots ss) (references Ss) [] (inr (inl refl)) held.balanced (segments_stand m ss Ss d) (references_valid Ss (data_valid o is)) in
      let same : length (lines (width m) (arrays_of (references Ss) ++ [] ∷ [])) ≡ length (lines (width m) (arrays Ss ++ [] ∷ [])) = ap (λ R. length (lines (width m) (R ++ [] ∷ []))) (segments_arrays Ss) in
      let fewer = no_more_lines m (arrays Ss) (arrays Ss ++ [] ∷ []) (λ A there. inr (in_front A (arrays Ss) ([] ∷ []) there)) in
      stored_lines_had_room (width m) m m (roots ss) ([] ∷ []) (inr (inl refl)) held.balanced sound.room refl (λ id line e. e) (λ L there. absurd (no_line m L there)) (law.1 (omega (arith, more, same, fewer)))

pub always_err : {X E : Type 0} (r : Result X E) {P : Type 0} → P → OnErr r P
always_err (Ok x) d = tt
always_err (Err e) d = d

pub overflows_alike : (m n : Memory) (o : Parts) → n.layout ≡ m.layout → Overflows m o → Overflows n o
overflows_alike m n o same more = subst (λ l. l.cap < length (lines (width m) (arrays (segments_from 0 o.kinds o.words)))) (sym same) more

-- ---- a call that puts a segment's data in

module _ (m : Memory) (ss : List Stored) (o : Parts) (s : ℕ) (writes : List (ℕ × Word)) (root : Word) (can : CanFill m ss o s writes) (none : WordIn m root (Ref NoPair)) where
  number_there : s < length o.kinds
  number_there = let a = filled_count m ss o s can.filled in let low = can.there in omega (arith, low, a)

  pub can_apply : CanApply m root writes [] (array_of s o.words)
  can_apply = subst (λ ws. CanApply m root ws [] (array_of s o.words)) (sym can.writes_are) (can_fill m root s o.words none (array_valid o s can.object number_there))

  run_few : length writes ≤ length o.words
  run_few = few_writes s o.words writes can.writes_are

  pub has_room : IsSound m → HasRoomFor (64 * (length writes + 1)) m
  has_room sound = room_to_fill m ss o s (length writes) sound can.object can.filled run_few

  pub has_few : length writes < 2 ^ 26 - 1
  has_few = let a = run_few in let b = can.object.rules.words_count in omega (arith, a, b)

  pub overflows : LacksRoomFor m (with [] (array_of s o.words) ∷ []) → Overflows m o
  overflows lacks = no_room_overflows m ss o can.object s number_there can.filled (subst (λ A. LacksRoomFor m (A ∷ [])) (array_made (array_of s o.words) (array_valid o s can.object number_there)) lacks)

  pub filled_next : (n : Memory) (new former : Word) → Reshapes m n [] (new ∷ []) → option_map (λ (x : Stored). x.root) (slice_get ss s) ≡ Some former → RootIn n new (with [] (array_of s o.words)) → Filled n (with_root ss s new) o (s + 1)
  filled_next n new former made there stands = subst (λ k. Filled n (with_root ss s new) o k) (omega arith) (filled_more m n ss o s new former can.filled made there (subst (RootIn n new) (array_made (array_of s o.words) (array_valid o s can.object number_there)) stands))

-- ---- a call that puts all data in

module _ (m0 m : Memory) (ss0 ss : List Stored) (o : Parts) (lists : List (List (ℕ × Word))) (can : CanLoad m0 ss0 o lists) (s : ℕ) (d : Filled m ss o s) where
  pub lists_long : length lists ≡ length o.kinds
  lists_long = ap length can.writes_are ∙ length-writes 0 o.kinds o.words

  pub lists_few : length lists ≤ 256
  lists_few = let long = lists_long in let few = can.object.rules.segments in omega (arith, long, few)

  -- the next list is that of the next segment
  pub fills_next : (list : List (ℕ × Word)) → s < length lists → list ≡ get_or lists s list → CanFill m ss o s list
  fills_next list low is =
      let long = lists_long in
      let count = filled_count m ss o s d in
      record {
        object = can.object;
        there = omega (arith, low, long, count);
        filled = d;
        writes_are = is ∙ ap (λ xs. get_or xs s list) can.writes_are ∙ writes_at 0 s o.kinds o.words list (omega (arith, low, long)) ∙ ap (λ n. map write_of (of_segment n o.words)) (omega arith);
      }
