-- What the rows of instructions come to: a valid machine with room for what it holds, or the former one after a trap.
use Rattle.std.proofs.Common.{◌≡◌, ℕ, zero, suc, ◌+◌, ◌^◌, ◌<◌, ◌≤◌, Bool, true, false, List, [], ◌∷◌, ◌++◌, length, map, Option, Some, None, refl, sym, ◌∙◌, ap, subst, arith, inl, inr}
use Rattle.std.specs.Prelude.{IfSome, flat_map, option_to_list, slice_get, slice_set}
use Rattle.std.specs.List.{AllByRecursion}
use Rattle.std.proofs.lemmas.Bool.Decides.{nat_tests}
use Rattle.std.proofs.lemmas.List.{append-nil, length-set}
use Rattle.std.proofs.lemmas.Option.{slice_get_within}
use Rattle.hic_object.specs.Parts.{most_instructions}
use Rattle.hic_word.specs.Width.{IsWidth}
use Rattle.hic_word.specs.Lists.{In}
use Rattle.hic_word.specs.Lines.{lines}
use Rattle.hic_word.specs.Values.{Value, Number, Ref, Array, IsArray, IsValue, array}
use Rattle.segment_map.specs.Merging.{number_of}
use Rattle.segment_map.specs.declared.merged.Merged.{Merged}
use Rattle.segment_map.specs.declared.merged.Merged.TheVariants as answer
use Rattle.hic_plain.specs.declared.turn.Trap.{Trap}
use Rattle.hic_plain.specs.declared.turn.Trap.TheVariants as trap
use Rattle.hic_plain.specs.declared.turn.Turn.{Turn}
use Rattle.hic_plain.specs.declared.turn.Turn.TheVariants.{Went, Trapped}
use Rattle.hic_plain.specs.Machine.{Iter, Machine, Segment, Task, held, held_by, width_of}
use Rattle.hic_plain.specs.Full.{IsWithinCapacity, full_with}
use Rattle.hic_plain.specs.Turns.{after, goes_on, halted, iter, next, put_array, put_new, segment, sets, traps, traps_if, with_array, with_iter, with_number, with_own, with_reg, with_segment}
use Rattle.hic_plain.specs.Valid.{IsIter, IsMachine, IsTask, HoldsNothing}
use Rattle.hic_plain.proofs.Covering.{All, Covered, OfIter, OfSegments, OfTask, OfValue, all-append, all-each, all-first, all-second, covered_beside, no_more_lines, own_covered, segment_at, segments_new, task_in, task_more, tasks_set}
use Rattle.hic_plain.proofs.Fits.{all-get, all-optional, all-set, number-fits, referenced-fits, values-set, zeros-fit}

-- ---- a task at an instruction

-- a task that runs where there are so many segments, and holds arrays of which C is true
pub record IsGoing (n : ℕ) (C : Array → Type 0) (u : Task) : Type 0 where
  pub valid : IsTask n u
  pub runs : u.runs ≡ true
  pub here : u.pc < most_instructions
  pub of : OfTask C u

-- a task that runs is not one that has halted
not_halted : {u : Task} → u.runs ≡ true → u.runs ≡ false → HoldsNothing u
not_halted runs ended = absurd (cc (sym runs ∙ ended))

module _ {n : ℕ} {C : Array → Type 0} {u : Task} (is : IsGoing n C u) where
  pub going_reg : (r : ℕ) (v : Value) → IsValue v → OfValue C v → IsGoing n C (with_reg u r v)
  going_reg r v fits of = record {
    valid = record {
      pc = is.valid.pc;
      eight = length-set u.regs r v ∙ is.valid.eight;
      regs = values-set u.regs r v is.valid.regs fits;
      four = is.valid.four;
      iters = is.valid.iters;
      halted = λ ended. not_halted is.runs ended;
    };
    runs = is.runs;
    here = is.here;
    of = record { regs = all-set (OfValue C) u.regs r v is.of.regs of; iters = is.of.iters };
  }

  pub going_iter : (i : ℕ) (r : Option Iter) → IfSome r (IsIter n) → IfSome r (OfIter C) → IsGoing n C (record u { iters = slice_set u.iters i r })
  going_iter i r fits of = record {
    valid = record {
      pc = is.valid.pc;
      eight = is.valid.eight;
      regs = is.valid.regs;
      four = length-set u.iters i r ∙ is.valid.four;
      iters = all-set (λ x. IfSome x (IsIter n)) u.iters i r is.valid.iters fits;
      halted = λ ended. not_halted is.runs ended;
    };
    runs = is.runs;
    here = is.here;
    of = record { regs = is.of.regs; iters = all-set (λ x. IfSome x (OfIter C)) u.iters i r is.of.iters of };
  }

  pub at_pc : (pc : ℕ) → pc < 2 ^ 32 → IsTask n (record u { pc = pc })
  at_pc pc fits = record { pc = fits; eight = is.valid.eight; regs = is.valid.regs; four = is.valid.four; iters = is.valid.iters; halted = λ ended. not_halted is.runs ended }

  pub next_valid : IsTask n (next u)
  next_valid = at_pc (u.pc + 1) (omega (arith, is.here))

  pub halted_valid : IsTask n (halted u)
  halted_valid = record {
    pc = omega (arith, is.here);
    eight = refl;
    regs = zeros-fit;
    four = refl;
    iters = (tt, (tt, (tt, (tt, tt))));
    halted = λ ended. record { regs = refl; iters = refl };
  }

-- ---- what a turn leaves

-- A valid machine with room for what it holds, if there was room before; the former machine after a trap, which is one of
-- these.
pub record Lands (m : Machine) (listed : List Trap) (x : Machine × Turn) : Type 0 where
  pub valid : IsMachine x.0
  pub room : IsWithinCapacity m → IsWithinCapacity x.0
  pub trapped : (trap : Trap) → x.1 ≡ Trapped trap → (x.0 ≡ m) × In trap listed

pub the_trap : {a b : Trap} → Trapped a ≡ Trapped b → a ≡ b
the_trap e = cc

pub lands_trapped : {m : Machine} {listed : List Trap} (trap : Trap) → IsMachine m → In trap listed → Lands m listed (traps m trap)
lands_trapped {listed = listed} trap valid among = record { valid = valid; room = λ fits. fits; trapped = λ other e. (refl, subst (λ k. In k listed) (the_trap e) among) }

-- the arrays whose lines are among those of some arrays
abbrev pub Of : Machine → List Array → Array → Type 0
Of m R A = Covered (width_of m) R A

-- a machine with the tasks of m: it holds nothing past some arrays for which there is room
pub record Ground (m : Machine) (R : List Array) (o : Machine) : Type 0 where
  pub valid : IsMachine o
  pub segments : OfSegments (Of m R) o.segments
  pub tasks : All (Of m R) (flat_map held_by o.tasks)
  pub room : IsWithinCapacity m → length (lines (width_of m) R) ≤ o.capacity

module _ (m : Machine) (t : ℕ) (listed : List Trap) (R : List Array) (o : Machine) (ground : Ground m R o) where
  pub after_valid : (u : Task) (turn : Turn) → IsTask (length o.segments) u → IsMachine (after o t u turn).0
  after_valid u turn is = record {
    code_count = ground.valid.code_count;
    code = ground.valid.code;
    segment_count = ground.valid.segment_count;
    segments = ground.valid.segments;
    task_count = omega (arith, ground.valid.task_count, length-set o.tasks t u);
    tasks = all-set (IsTask (length o.segments)) o.tasks t u ground.valid.tasks is;
    input = ground.valid.input;
  }

  pub after_fits : (u : Task) (turn : Turn) → All (Of m R) (held_by u) → IsWithinCapacity m → IsWithinCapacity (after o t u turn).0
  after_fits u turn all fits =
      let few = no_more_lines (width_of m) R (held (after o t u turn).0)
      (all-append (Of m R) (map (λ s. s.array) o.segments) (flat_map held_by (slice_set o.tasks t u)) ground.segments (tasks_set (Of m R) o.tasks t u ground.tasks all)) in
      omega (arith, few, ground.room fits)

  pub lands_went : (u : Task) → IsTask (length o.segments) u → All (Of m R) (held_by u) → Lands m listed (after o t u Went)
  lands_went u is all = record { valid = after_valid u Went is; room = after_fits u Went all; trapped = λ trap e. absurd cc }

  pub lands_on : (u : Task) → IsGoing (length o.segments) (Of m R) u → Lands m listed (goes_on o t u)
  lands_on u is = lands_went (next u) (next_valid is) (task_in (Of m R) u is.of)

  pub lands_set : (u : Task) (r : ℕ) (v : Value) → IsGoing (length o.segments) (Of m R) u → IsValue v → OfValue (Of m R) v → Lands m listed (sets o t u r v)
  lands_set u r v is fits of = lands_on (with_reg u r v) (going_reg is r v fits of)

  pub lands_number : (u : Task) (r n : ℕ) → IsGoing (length o.segments) (Of m R) u → n < 2 ^ 64 → Lands m listed (sets o t u r (Number n))
  lands_number u r n is fits = lands_set u r (Number n) is (number-fits n fits) tt

-- a machine stands on what it holds
pub own_ground : (m : Machine) → IsMachine m → Ground m (held m) m
own_ground m valid =
    let arrays = map (λ s. s.array) m.segments in
    let own = own_covered (width_of m) (held m) in
    record {
      valid = valid;
      segments = all-first (Of m (held m)) arrays (flat_map held_by m.tasks) own;
      tasks = all-second (Of m (held m)) arrays (flat_map held_by m.tasks) own;
      room = λ fits. fits;
    }

-- ---- checks

is_there : {X : Type 0} (xs : List X) (i : ℕ) → i < length xs → slice_get xs i ≡ None → ⊥
is_there [] i low none = absurd (omega (arith, low))
is_there (x ∷ xs) zero low none = cc
is_there (x ∷ xs) (suc i) low none = is_there xs i (omega (arith, low)) none

module _ (m : Machine) (listed : List Trap) (valid : IsMachine m) (C : Array → Type 0) where
  abbrev pub Here : Machine × Turn → Type 0
  Here x = Lands m listed x

  pub on_number : (v : Value) (does : ℕ → Machine × Turn) → IsValue v → In trap.BadType listed → ((n : ℕ) → n < 2 ^ 64 → Here (does n)) → Here (with_number m v does)
  unfolding IsValue
  on_number (Number n) does fits among each = each n fits
  on_number (Ref H) does fits among each = lands_trapped trap.BadType valid among

  pub on_array : (v : Value) (does : Array → Machine × Turn) → IsValue v → OfValue C v → In trap.BadType listed → ((A : Array) → IsArray A → C A → Here (does A)) → Here (with_array m v does)
  on_array (Number n) does fits of among each = lands_trapped trap.BadType valid among
  on_array (Ref H) does fits of among each = each (array H) (referenced-fits H fits) of

  pub on_segment : (k : ℕ) (does : Segment → Machine × Turn) → OfSegments C m.segments → In trap.Segment listed → ((s : Segment) → k < length m.segments → IsArray s.array → C s.array → Here (does s)) → Here (with_segment m (segment m k) does)
  on_segment k does of among each = go (segment m k) refl (all-get (λ s. IsArray s.array) m.segments k valid.segments) (segment_at C m.segments k of)
    where
      go : (s : Option Segment) → segment m k ≡ s → IfSome s (λ s. IsArray s.array) → IfSome s (λ s. C s.array) → Here (with_segment m s does)
      go None none is of = lands_trapped trap.Segment valid among
      go (Some s) some is of = each s (slice_get_within m.segments k s some) is of

  -- a segment that is there
  pub on_known : (k : ℕ) (does : Segment → Machine × Turn) → k < length m.segments → OfSegments C m.segments → ((s : Segment) → IsArray s.array → C s.array → Here (does s)) → Here (with_segment m (segment m k) does)
  on_known k does low of each = go (segment m k) refl (all-get (λ s. IsArray s.array) m.segments k valid.segments) (segment_at C m.segments k of)
    where
      go : (s : Option Segment) → segment m k ≡ s → IfSome s (λ s. IsArray s.array) → IfSome s (λ s. C s.array) → Here (with_segment m s does)
      go None none is of = absurd (is_there m.segments k low none)
      go (Some s) some is of = each s is of

  pub on_iter : (n : ℕ) (u : Task) (i : ℕ) (does : Iter → Machine × Turn) → IsGoing n C u → In trap.Closed listed → ((r : Iter) → IsIter n r → OfIter C r → Here (does r)) → Here (with_iter m (iter u i) does)
  on_iter n u i does is among each = go (iter u i) (all-optional (IsIter n) u.iters i is.valid.iters) (all-optional (OfIter C) u.iters i is.of.iters)
    where
      go : (r : Option Iter) → IfSome r (IsIter n) → IfSome r (OfIter C) → Here (with_iter m r does)
      go None fits of = lands_trapped trap.Closed valid among
      go (Some r) fits of = each r fits of

  pub on_own : (k : ℕ) (n : Option ℕ) (does : ℕ → Machine × Turn) → IfSome n (λ n. n < k) → In trap.Detached listed → ((n : ℕ) → n < k → Here (does n)) → Here (with_own m n does)
  on_own k None does fits among each = lands_trapped trap.Detached valid among
  on_own k (Some n) does fits among each = each n fits

  pub unless_trap : (b : Bool) (trap : Trap) (done : Machine × Turn) → In trap listed → (b ≡ false → Here done) → Here (traps_if b m trap done)
  unless_trap true trap done among each = lands_trapped trap valid among
  unless_trap false trap done among each = each refl

-- ---- segments

put_array-all : (ss : List Segment) (n : ℕ) (A : Array) → IsArray A → AllByRecursion (λ s. IsArray s.array) ss → AllByRecursion (λ s. IsArray s.array) (put_array ss n A)
put_array-all [] n A valid all = tt
put_array-all (s ∷ ss) zero A valid all = (valid, all.1)
put_array-all (s ∷ ss) (suc n) A valid all = (all.0, put_array-all ss n A valid all.1)

put_array-length : (ss : List Segment) (n : ℕ) (A : Array) → length (put_array ss n A) ≡ length ss
put_array-length [] n A = refl
put_array-length (s ∷ ss) zero A = refl
put_array-length (s ∷ ss) (suc n) A = ap suc (put_array-length ss n A)

put_new-all : (ss : List Segment) (n : ℕ) (new : Option Array) → IfSome new IsArray → AllByRecursion (λ s. IsArray s.array) ss → AllByRecursion (λ s. IsArray s.array) (put_new ss n new)
put_new-all ss n None valid all = all
put_new-all ss n (Some A) valid all = put_array-all ss n A valid all

pub put_new-length : (ss : List Segment) (n : ℕ) (new : Option Array) → length (put_new ss n new) ≡ length ss
put_new-length ss n None = refl
put_new-length ss n (Some A) = put_array-length ss n A

pub new_valid : (m : Machine) (n : ℕ) (new : Option Array) → IsMachine m → IfSome new IsArray → IsMachine (record m { segments = put_new m.segments n new })
new_valid m n new valid fits =
    let same = put_new-length m.segments n new in
    record {
      code_count = valid.code_count;
      code = valid.code;
      segment_count = omega (arith, same, valid.segment_count);
      segments = put_new-all m.segments n new fits valid.segments;
      task_count = valid.task_count;
      tasks = subst (λ (k : ℕ). AllByRecursion (IsTask k) m.tasks) (sym same) valid.tasks;
      input = valid.input;
    }

pub number_of-fits : (a : Merged) → number_of a < 2 ^ 64
number_of-fits answer.Swapped = omega arith
number_of-fits answer.Merged = omega arith
number_of-fits answer.Conflict = omega arith
number_of-fits answer.Wide = omega arith

-- ---- a new array

pub is_width : (m : Machine) → IsWidth (width_of m)
is_width m = inr (inl refl)

-- what is held, and a new array if there is one
abbrev pub held_with : Machine → Option Array → List Array
held_with m new = held m ++ option_to_list new

room_with : (m : Machine) (new : Option Array) → full_with m new ≡ false → IsWithinCapacity m → length (lines (width_of m) (held_with m new)) ≤ m.capacity
room_with m None room fits = subst (λ R. length (lines (width_of m) R) ≤ m.capacity) (sym (append-nil (held m))) fits
room_with m (Some A) room fits = grind (arith, nat_tests, room)

module _ (m : Machine) (new : Option Array) where
  pub beside : (A : Array) → Of m (held m) A → Of m (held_with m new) A
  beside A = covered_beside (width_of m) (held m) (option_to_list new) A

  -- the new array is one of them
  pub new_of : IfSome new (Of m (held_with m new))
  new_of = go new
    where
      go : (o : Option Array) → IfSome o (Of m (held_with m o))
      go None = tt
      go (Some A) = (all-second (Of m (held m ++ A ∷ [])) (held m) (A ∷ []) (own_covered (width_of m) (held m ++ A ∷ []))).0

  pub going_more : {n : ℕ} {u : Task} → IsGoing n (Of m (held m)) u → IsGoing n (Of m (held_with m new)) u
  going_more {u = u} is = record { valid = is.valid; runs = is.runs; here = is.here; of = task_more (Of m (held m)) (Of m (held_with m new)) beside u is.of }

  -- the machine that has it in a segment stands on what is held and the new array
  pub new_ground : (k : ℕ) → IsMachine m → IfSome new IsArray → full_with m new ≡ false → Ground m (held_with m new) (record m { segments = put_new m.segments k new })
  new_ground k valid fits room =
      let own = own_ground m valid in
      record {
        valid = new_valid m k new valid fits;
        segments = segments_new (Of m (held_with m new)) m.segments k new (all-each (Of m (held m)) (Of m (held_with m new)) beside (map (λ s. s.array) m.segments) own.segments) new_of;
        tasks = all-each (Of m (held m)) (Of m (held_with m new)) beside (flat_map held_by m.tasks) own.tasks;
        room = room_with m new room;
      }

  -- so does the machine itself
  pub same_ground : IsMachine m → full_with m new ≡ false → Ground m (held_with m new) m
  same_ground valid room =
      let own = own_ground m valid in
      record {
        valid = valid;
        segments = all-each (Of m (held m)) (Of m (held_with m new)) beside (map (λ s. s.array) m.segments) own.segments;
        tasks = all-each (Of m (held m)) (Of m (held_with m new)) beside (flat_map held_by m.tasks) own.tasks;
        room = room_with m new room;
      }
