-- What a call of a host in memory does is what a call of any host does.
use Rattle.std.proofs.Common.{◌≡◌, ℕ, ◌<◌, ◌≤◌, ◌^◌, min, Bool, true, false, List, [], ◌∷◌, ◌++◌, length, take, drop, refl, sym, ◌∙◌, ap, subst, arith, IsTrue, Option, Some, None, Result, Ok, Err, take-append-drop}
use Rattle.std.specs.Prelude.{IsOk, IsErr, IsSome, MatchOption}
use Rattle.std.specs.List.{list_any}
use Rattle.std.specs.FinMap as map
use Rattle.std.proofs.lemmas.List.{nil_from_length}
use Rattle.std.proofs.lemmas.Grind.{common_steps}
use Rattle.hic_io.specs.HostState.{one_more}
use Rattle.hic_io.specs.Counts.{with_call}
use Rattle.hic_io.specs.Calls.{Rose, IsCall, IsQuiet, Took, Opened, FailsToRead, Opens, Reads}
use Rattle.hic_io.specs.MemState.{MemState, is_empty, host_state, is_listed, counted, read_fault, unless, opened_bytes, read_count, MemOpens, MemReads, IsInRange}
use Rattle.hic_io.proofs.CallLaws.{late-calm}

-- a sound host has no call listed
none_listed : (xs : List ℕ) (p : ℕ → Bool) → IsTrue (is_empty xs) → list_any p xs ≡ false
none_listed [] p is = refl
none_listed (x ∷ xs) p is = absurd (cc)

some_given : (b : Bool) (n k : ℕ) → unless b (Some n) ≡ Some k → k ≡ n
some_given true n k is = absurd (cc)
some_given false n k is = cc

-- an answer comes only where the call is not to fail
answer_given : {A : Type 0} (b : Bool) (answer : Option A) (x : A) → unless b answer ≡ Some x → answer ≡ Some x
answer_given true answer x is = absurd (cc)
answer_given false answer x is = is

-- the front of what was put before something is what was put
take-front : (n : ℕ) (xs ys : List ℕ) → n ≤ length xs → take n (take n xs ++ ys) ≡ take n xs
take-front n xs ys fits = grind (arith, common_steps)

rose-one_more : (n : ℕ) → n < 2 ^ 64 → Rose n (one_more n)
rose-one_more n small = grind arith

module _ (m : MemState) (range : IsInRange m) where
  -- a counted call, whatever bytes, room and counts of faults it leaves
  call-to : (left out err : List ℕ) (room reads writes : ℕ)
      → IsCall (host_state m) (host_state (record m { left = left; out = out; err = err; room = room; counts = record (with_call m.counts) { read_faults = reads; write_faults = writes } }))
  call-to left out err room reads writes = record { files = refl; calls = refl; late = refl; sound = refl; told = record { files = refl; left = refl; out = refl; err = refl } }

  -- a counted call without a fault
  quiet-to : (left out err : List ℕ) (room : ℕ) → IsQuiet (host_state m) (host_state (record (counted m) { left = left; out = out; err = err; room = room }))
  quiet-to left out err room = record {
    files = refl;
    read_faults = refl;
    write_faults = refl;
    sound = refl;
    in_time = λ calm. late-calm (call-to left out err room m.counts.read_faults m.counts.write_faults) calm;
  }

  read_fault-call : IsCall (host_state m) (host_state (read_fault m))
  read_fault-call = call-to m.left m.out m.err m.room (one_more m.counts.read_faults) m.counts.write_faults

  read_fault-fails : FailsToRead (host_state m) (host_state (read_fault m))
  read_fault-fails = record {
    bytes = record { left = refl; out = refl; err = refl; room = refl };
    later = omega (arith, range.counts.reads);
    rose = rose-one_more m.counts.read_faults range.counts.reads;
    write_faults = refl;
  }

  not_listed : IsTrue (is_empty m.failing) → is_listed m ≡ false
  not_listed sound = none_listed m.failing _ sound

  module _ (name : List ℕ) where
    opens-fails : opened_bytes m name ≡ None → FailsToRead (host_state m) (host_state (read_fault m)) × (IsTrue (is_empty m.failing) → map.get m.files name ≡ None)
    opens-fails is = (read_fault-fails, λ sound. subst (λ b. unless b (map.get m.files name) ≡ None) (not_listed sound) is)

    opens-finds : (bytes : List ℕ) → opened_bytes m name ≡ Some bytes → Opened (host_state m) (host_state (record (counted m) { left = bytes })) name
    opens-finds bytes is =
        let found = answer_given (is_listed m) (map.get m.files name) bytes is in
        record {
          quiet = quiet-to bytes m.out m.err m.room;
          left = sym found;
          found = subst IsSome (sym found) refl;
          out = refl;
          err = refl;
          room = refl;
        }

    opens-by : {E : Type 0} (new : MemState) (r : Result (Unit {0}) E) (found : Option (List ℕ)) → opened_bytes m name ≡ found
        → MatchOption found (IsErr r × (new ≡ read_fault m)) (λ bytes. IsOk r × (new ≡ record (counted m) { left = bytes }))
        → Opens (host_state m) (host_state new) name r
    opens-by {E = E} new (Ok u) None is (bad, same) = absurd (cc (bad))
    opens-by {E = E} new (Err e) None is (bad, same) =
        subst (λ t. Opens {E = E} (host_state m) (host_state t) name (Err e)) (sym same) (record { call = read_fault-call; gives = opens-fails is })
    opens-by {E = E} new (Ok u) (Some bytes) is (good, same) =
        subst (λ t. Opens {E = E} (host_state m) (host_state t) name (Ok u)) (sym same)
        (record { call = call-to bytes m.out m.err m.room m.counts.read_faults m.counts.write_faults; gives = opens-finds bytes is })
    opens-by {E = E} new (Err e) (Some bytes) is (good, same) = absurd (cc (good))

    pub opens-as-host : {E : Type 0} (new : MemState) (r : Result (Unit {0}) E) → MemOpens m new name r → Opens (host_state m) (host_state new) name r
    opens-as-host new r gives = opens-by new r (opened_bytes m name) refl gives.exact

  module _ (before buf : List ℕ) where
    reads-fails : read_count m (length buf) ≡ None → IsTrue (is_empty m.failing) → ⊥
    reads-fails is sound =
        let none : Some (min (length buf) (min (length m.left) m.most)) ≡ None = subst (λ b. unless b (Some (min (length buf) (min (length m.left) m.most))) ≡ None) (not_listed sound) is in
        cc

    reads-takes : (n : ℕ) → take n buf ≡ take n m.left → Took (host_state m) (host_state (record (counted m) { left = drop n m.left })) (take n buf)
    reads-takes n same = record {
      quiet = quiet-to (drop n m.left) m.out m.err m.room;
      left = ap Some (sym (ap (λ (xs : List ℕ). xs ++ drop n m.left) same ∙ take-append-drop n m.left));
      out = refl;
      err = refl;
      room = refl;
    }

    reads-by : {E : Type 0} (new : MemState) (r : Result ℕ E) (count : Option ℕ) → read_count m (length buf) ≡ count
        → MatchOption count (IsErr r × (new ≡ read_fault m) × (buf ≡ before)) (λ n. (r ≡ Ok n) × (buf ≡ take n m.left ++ drop n before) × (new ≡ record (counted m) { left = drop n m.left }))
        → Reads (host_state m) (host_state new) r buf
    reads-by {E = E} new (Ok k) None is (bad, same, kept) = absurd (cc (bad))
    reads-by {E = E} new (Err e) None is (bad, same, kept) =
        subst (λ t. Reads {E = E} (host_state m) (host_state t) (Err e) buf) (sym same)
        (record { call = read_fault-call; gives = (read_fault-fails, reads-fails is) })
    reads-by {E = E} new r (Some n) is (ok, moved, then) =
        let count : n ≡ min (length buf) (min (length m.left) m.most) = some_given (is_listed m) _ n is in
        let same : take n buf ≡ take n m.left = ap (λ (xs : List ℕ). take n xs) moved ∙ take-front n m.left (drop n before) (omega (arith, count)) in
        let takes : 0 < m.most = range.takes in
        let given : Reads {E = E} (host_state m) (host_state (record (counted m) { left = drop n m.left })) (Ok n) buf = record {
          call = call-to (drop n m.left) m.out m.err m.room m.counts.read_faults m.counts.write_faults;
          gives = (omega (arith, count), reads-takes n same, λ zero room. nil_from_length m.left (omega (arith, count, takes, zero, room)));
        } in
        subst (λ t. Reads {E = E} (host_state m) (host_state t) r buf) (sym then)
        (subst (λ (t : Result ℕ E). Reads {E = E} (host_state m) (host_state (record (counted m) { left = drop n m.left })) t buf) (sym ok) given)

    pub reads-as-host : {E : Type 0} (new : MemState) (r : Result ℕ E) → MemReads m new before r buf → Reads (host_state m) (host_state new) r buf
    reads-as-host new r gives = reads-by new r (read_count m (length buf)) refl gives.exact
