-- The row of each instruction by case, for the proofs of a machine that makes it.
use Rattle.std.proofs.Common.{◌≡◌, ℕ, ◌+◌, ◌*◌, ◌%◌, ◌^◌, true, false, List, [], ◌∷◌, Option, Some, None, refl, sym, ◌∙◌, ap}
use Rattle.std.specs.Prelude.{decimal, nat_le, slice_get, slice_set}
use Rattle.std.proofs.lemmas.List.{set-get_or}
use Rattle.std.proofs.lemmas.Option.{get_or_from_slice_get}
use Rattle.hic_isa.specs.declared.instr.AluOp.{AluOp}
use Rattle.hic_isa.specs.declared.instr.Instr.{Instr}
use Rattle.hic_isa.specs.declared.instr.Instr.TheVariants.{Lih, Addi, Alu, Getb, Putb, Putn, Open, Openr, Seek, Pos, Load, Store, Find, Next, Commit, Abort, Close, Root, Snap, Seal, Mcas}
use Rattle.hic_exec.specs.Outcome.{of_numbers}
use Rattle.hic_word.specs.Values.{Value, Number, Ref, Pairs, Array, array, pairs}
use Rattle.segment_map.specs.Merging.{Updated, commit, mcas, number_of}
use Rattle.hic_plain.specs.declared.turn.Trap.TheVariants as trap
use Rattle.hic_plain.specs.declared.turn.Turn.{Turn}
use Rattle.hic_plain.specs.Limits.{end_of_input, offset_count}
use Rattle.hic_plain.specs.Machine.{Iter, Machine, Segment, Task}
use Rattle.hic_plain.specs.Full.{full, full_with}
use Rattle.hic_plain.specs.Iters.{attached, committed, emptied, found_from, is_full, loaded, renewed, sought, stored, view}
use Rattle.hic_plain.specs.Turns.{closes, iter, opens, prints, put_array, put_new, reg, segment, sets, traps, traps_if, with_array, with_iter, with_number, with_open, with_own, with_segment}
use Rattle.hic_plain.specs.Step.{act, act_if, answers, commits, computes, finds, is_reference, sign_extended, step, step_task, takes}

-- ---- tests

pub reference_or_number : (v : Value) → is_reference v ≡ false → (n : ℕ) × (v ≡ Number n)
reference_or_number (Number n) e = (n, refl)
reference_or_number (Ref H) e = cc

pub number_or_reference : (v : Value) → is_reference v ≡ true → (H : Pairs) × (v ≡ Ref H)
number_or_reference (Number n) e = cc
number_or_reference (Ref H) e = (H, refl)

-- ---- checks

module _ (m : Machine) where
  pub a_number : {v : Value} (does : ℕ → Machine × Turn) (n : ℕ) → v ≡ Number n → with_number m v does ≡ does n
  a_number does n is = ap (λ v. with_number m v does) is

  pub no_number : {v : Value} (does : ℕ → Machine × Turn) (H : Pairs) → v ≡ Ref H → with_number m v does ≡ traps m trap.BadType
  no_number does H is = ap (λ v. with_number m v does) is

  pub an_array : {v : Value} (does : Array → Machine × Turn) (H : Pairs) → v ≡ Ref H → with_array m v does ≡ does (array H)
  an_array does H is = ap (λ v. with_array m v does) is

  pub no_array : {v : Value} (does : Array → Machine × Turn) (n : ℕ) → v ≡ Number n → with_array m v does ≡ traps m trap.BadType
  no_array does n is = ap (λ v. with_array m v does) is

  pub a_segment : {o : Option Segment} (does : Segment → Machine × Turn) (s : Segment) → o ≡ Some s → with_segment m o does ≡ does s
  a_segment does s is = ap (λ o. with_segment m o does) is

  pub no_segment : {o : Option Segment} (does : Segment → Machine × Turn) → o ≡ None → with_segment m o does ≡ traps m trap.Segment
  no_segment does is = ap (λ o. with_segment m o does) is

  pub an_iter : {o : Option Iter} (does : Iter → Machine × Turn) (r : Iter) → o ≡ Some r → with_iter m o does ≡ does r
  an_iter does r is = ap (λ o. with_iter m o does) is

  pub no_iter : {o : Option Iter} (does : Iter → Machine × Turn) → o ≡ None → with_iter m o does ≡ traps m trap.Closed
  no_iter does is = ap (λ o. with_iter m o does) is

  pub its_own : {o : Option ℕ} (does : ℕ → Machine × Turn) (n : ℕ) → o ≡ Some n → with_own m o does ≡ does n
  its_own does n is = ap (λ o. with_own m o does) is

  pub none_its_own : {o : Option ℕ} (does : ℕ → Machine × Turn) → o ≡ None → with_own m o does ≡ traps m trap.Detached
  none_its_own does is = ap (λ o. with_own m o does) is

-- ---- the step

pub step-acts : (m : Machine) (t : ℕ) (task : Task) (i : Instr) → slice_get m.tasks t ≡ Some task → slice_get m.code task.pc ≡ Some i → step m t ≡ act m t task i
step-acts m t task i there next = ap (step_task m t) there ∙ ap (act_if m t task) next

pub step-past : (m : Machine) (t : ℕ) (task : Task) → slice_get m.tasks t ≡ Some task → slice_get m.code task.pc ≡ None → step m t ≡ traps m trap.End
step-past m t task there next = ap (step_task m t) there ∙ ap (act_if m t task) next

-- a task that is left as it was changes nothing
pub left_alone : (m : Machine) (t : ℕ) (task : Task) → slice_get m.tasks t ≡ Some task → record m { tasks = slice_set m.tasks t task } ≡ m
left_alone m t task there =
    ap (λ (tasks : List Task). record m { tasks = tasks }) (ap (slice_set m.tasks t) (sym (get_or_from_slice_get m.tasks t task task there)) ∙ set-get_or m.tasks t task)

-- so does an iterator register that is left as it was
pub left_open : (task : Task) (i : ℕ) (r : Iter) → iter task i ≡ Some r → with_open task i r ≡ task
left_open task i r there = ap (λ (is : List (Option Iter)). record task { iters = is }) (ap (slice_set task.iters i) (sym there) ∙ set-get_or task.iters i None)

module _ (m : Machine) (t : ℕ) (task : Task) where
  -- ---- numbers

  pub lih_of : (a imm n : ℕ) → reg task a ≡ Number n → act m t task (Lih a imm) ≡ sets m t task a (Number (n % 2 ^ 32 + imm * 2 ^ 32))
  lih_of a imm n is = a_number m _ n is

  pub lih_type : (a imm : ℕ) (H : Pairs) → reg task a ≡ Ref H → act m t task (Lih a imm) ≡ traps m trap.BadType
  lih_type a imm H is = no_number m _ H is

  pub addi_of : (a b imm n : ℕ) → reg task b ≡ Number n → act m t task (Addi a b imm) ≡ sets m t task a (Number ((n + sign_extended imm) % 2 ^ 64))
  addi_of a b imm n is = a_number m _ n is

  pub addi_type : (a b imm : ℕ) (H : Pairs) → reg task b ≡ Ref H → act m t task (Addi a b imm) ≡ traps m trap.BadType
  addi_type a b imm H is = no_number m _ H is

  pub alu_of : (op : AluOp) (a b c x y : ℕ) → reg task b ≡ Number x → reg task c ≡ Number y → act m t task (Alu op a b c) ≡ computes m t task a (of_numbers op x y)
  alu_of op a b c x y first second = a_number m _ x first ∙ a_number m _ y second

  pub alu_first_type : (op : AluOp) (a b c : ℕ) (H : Pairs) → reg task b ≡ Ref H → act m t task (Alu op a b c) ≡ traps m trap.BadType
  alu_first_type op a b c H is = no_number m _ H is

  pub alu_second_type : (op : AluOp) (a b c x : ℕ) (H : Pairs) → reg task b ≡ Number x → reg task c ≡ Ref H → act m t task (Alu op a b c) ≡ traps m trap.BadType
  alu_second_type op a b c x H first second = a_number m _ x first ∙ no_number m _ H second

  pub getb_byte : (a byte : ℕ) (rest : List ℕ) → m.input ≡ byte ∷ rest → act m t task (Getb a) ≡ sets (record m { input = rest }) t task a (Number byte)
  getb_byte a byte rest is = ap (takes m t task a) is

  pub getb_end : (a : ℕ) → m.input ≡ [] → act m t task (Getb a) ≡ sets m t task a (Number end_of_input)
  getb_end a is = ap (takes m t task a) is

  pub putb_of : (a n : ℕ) → reg task a ≡ Number n → act m t task (Putb a) ≡ prints m t task (n % 256 ∷ [])
  putb_of a n is = a_number m _ n is

  pub putb_type : (a : ℕ) (H : Pairs) → reg task a ≡ Ref H → act m t task (Putb a) ≡ traps m trap.BadType
  putb_type a H is = no_number m _ H is

  pub putn_of : (a n : ℕ) → reg task a ≡ Number n → act m t task (Putn a) ≡ prints m t task (decimal n)
  putn_of a n is = a_number m _ n is

  pub putn_type : (a : ℕ) (H : Pairs) → reg task a ≡ Ref H → act m t task (Putn a) ≡ traps m trap.BadType
  putn_type a H is = no_number m _ H is

  -- ---- iterator registers: `of` where one is open

  pub openr_of : (a b : ℕ) (H : Pairs) → reg task b ≡ Ref H → act m t task (Openr a b) ≡ opens m t task a (attached None (array H))
  openr_of a b H is = an_array m _ H is

  pub openr_type : (a b n : ℕ) → reg task b ≡ Number n → act m t task (Openr a b) ≡ traps m trap.BadType
  openr_type a b n is = no_array m _ n is

  pub seek_of : (a b : ℕ) (r : Iter) (n : ℕ) → iter task a ≡ Some r → reg task b ≡ Number n → nat_le offset_count n ≡ false → act m t task (Seek a b) ≡ opens m t task a (sought r n)
  seek_of a b r n there is low = an_iter m _ r there ∙ a_number m _ n is ∙ ap (λ x. traps_if x m trap.Offset (opens m t task a (sought r n))) low

  pub seek_past : (a b : ℕ) (r : Iter) (n : ℕ) → iter task a ≡ Some r → reg task b ≡ Number n → nat_le offset_count n ≡ true → act m t task (Seek a b) ≡ traps m trap.Offset
  seek_past a b r n there is high = an_iter m _ r there ∙ a_number m _ n is ∙ ap (λ x. traps_if x m trap.Offset (opens m t task a (sought r n))) high

  pub seek_type : (a b : ℕ) (r : Iter) (H : Pairs) → iter task a ≡ Some r → reg task b ≡ Ref H → act m t task (Seek a b) ≡ traps m trap.BadType
  seek_type a b r H there is = an_iter m _ r there ∙ no_number m _ H is

  pub seek_closed : (a b : ℕ) → iter task a ≡ None → act m t task (Seek a b) ≡ traps m trap.Closed
  seek_closed a b none = no_iter m _ none

  pub pos_of : (a b : ℕ) (r : Iter) → iter task b ≡ Some r → act m t task (Pos a b) ≡ sets m t task a (Number r.position)
  pos_of a b r there = an_iter m _ r there

  pub pos_closed : (a b : ℕ) → iter task b ≡ None → act m t task (Pos a b) ≡ traps m trap.Closed
  pos_closed a b none = no_iter m _ none

  pub load_of : (a b : ℕ) (r : Iter) → iter task b ≡ Some r → act m t task (Load a b) ≡ sets m t task a (loaded r)
  load_of a b r there = an_iter m _ r there

  pub load_closed : (a b : ℕ) → iter task b ≡ None → act m t task (Load a b) ≡ traps m trap.Closed
  load_closed a b none = no_iter m _ none

  pub store_of : (a b : ℕ) (r : Iter) → iter task a ≡ Some r → is_full r ≡ false → act m t task (Store a b) ≡ opens m t task a (stored r (reg task b))
  store_of a b r there room = an_iter m _ r there ∙ ap (λ x. traps_if x m trap.Buffer (opens m t task a (stored r (reg task b)))) room

  pub store_buffer : (a b : ℕ) (r : Iter) → iter task a ≡ Some r → is_full r ≡ true → act m t task (Store a b) ≡ traps m trap.Buffer
  store_buffer a b r there none = an_iter m _ r there ∙ ap (λ x. traps_if x m trap.Buffer (opens m t task a (stored r (reg task b)))) none

  pub store_closed : (a b : ℕ) → iter task a ≡ None → act m t task (Store a b) ≡ traps m trap.Closed
  store_closed a b none = no_iter m _ none

  pub find_of : (a b : ℕ) (r : Iter) → iter task b ≡ Some r → act m t task (Find a b) ≡ finds m t task a b r (found_from r r.position)
  find_of a b r there = an_iter m _ r there

  -- where nothing is found the register stays
  pub finds_none : (a b : ℕ) (r : Iter) (found : Option ℕ) → iter task b ≡ Some r → found ≡ None → finds m t task a b r found ≡ sets m t task a (Number 0)
  finds_none a b r found there none = ap (finds m t task a b r) none ∙ ap (λ left. sets m t left a (Number 0)) (left_open task b r there)

  pub finds_some : (a b : ℕ) (r : Iter) (found : Option ℕ) (o : ℕ) → found ≡ Some o → finds m t task a b r found ≡ sets m t (with_open task b (sought r o)) a (Number 1)
  finds_some a b r found o some = ap (finds m t task a b r) some

  pub find_closed : (a b : ℕ) → iter task b ≡ None → act m t task (Find a b) ≡ traps m trap.Closed
  find_closed a b none = no_iter m _ none

  pub next_of : (a b : ℕ) (r : Iter) → iter task b ≡ Some r → act m t task (Next a b) ≡ finds m t task a b r (found_from r (r.position + 1))
  next_of a b r there = an_iter m _ r there

  pub next_closed : (a b : ℕ) → iter task b ≡ None → act m t task (Next a b) ≡ traps m trap.Closed
  next_closed a b none = no_iter m _ none

  pub abort_of : (a : ℕ) (r : Iter) → iter task a ≡ Some r → act m t task (Abort a) ≡ opens m t task a (emptied r)
  abort_of a r there = an_iter m _ r there

  pub abort_closed : (a : ℕ) → iter task a ≡ None → act m t task (Abort a) ≡ traps m trap.Closed
  abort_closed a none = no_iter m _ none

  pub close_of : (a : ℕ) (r : Iter) → iter task a ≡ Some r → act m t task (Close a) ≡ closes m t task a
  close_of a r there = an_iter m _ r there

  pub close_closed : (a : ℕ) → iter task a ≡ None → act m t task (Close a) ≡ traps m trap.Closed
  close_closed a none = no_iter m _ none

  pub snap_of : (a b : ℕ) (r : Iter) → iter task b ≡ Some r → act m t task (Snap a b) ≡ sets m t task a (Ref (pairs r.snapshot))
  snap_of a b r there = an_iter m _ r there

  pub snap_closed : (a b : ℕ) → iter task b ≡ None → act m t task (Snap a b) ≡ traps m trap.Closed
  snap_closed a b none = no_iter m _ none

  pub seal_of : (a b : ℕ) (r : Iter) → iter task b ≡ Some r → full m (view r) ≡ false → act m t task (Seal a b) ≡ sets m t task a (Ref (pairs (view r)))
  seal_of a b r there room = an_iter m _ r there ∙ ap (λ x. traps_if x m trap.Full (sets m t task a (Ref (pairs (view r))))) room

  pub seal_full : (a b : ℕ) (r : Iter) → iter task b ≡ Some r → full m (view r) ≡ true → act m t task (Seal a b) ≡ traps m trap.Full
  seal_full a b r there none = an_iter m _ r there ∙ ap (λ x. traps_if x m trap.Full (sets m t task a (Ref (pairs (view r))))) none

  pub seal_closed : (a b : ℕ) → iter task b ≡ None → act m t task (Seal a b) ≡ traps m trap.Closed
  seal_closed a b none = no_iter m _ none

  -- ---- segments

  pub open_of : (a b n : ℕ) (s : Segment) → reg task b ≡ Number n → segment m n ≡ Some s → act m t task (Open a b) ≡ opens m t task a (attached (Some n) s.array)
  open_of a b n s is there = a_number m _ n is ∙ a_segment m _ s there

  pub open_nowhere : (a b n : ℕ) → reg task b ≡ Number n → segment m n ≡ None → act m t task (Open a b) ≡ traps m trap.Segment
  open_nowhere a b n is none = a_number m _ n is ∙ no_segment m _ none

  pub open_type : (a b : ℕ) (H : Pairs) → reg task b ≡ Ref H → act m t task (Open a b) ≡ traps m trap.BadType
  open_type a b H is = no_number m _ H is

  pub root_of : (a b n : ℕ) (s : Segment) → reg task b ≡ Number n → segment m n ≡ Some s → act m t task (Root a b) ≡ sets m t task a (Ref (pairs s.array))
  root_of a b n s is there = a_number m _ n is ∙ a_segment m _ s there

  pub root_nowhere : (a b n : ℕ) → reg task b ≡ Number n → segment m n ≡ None → act m t task (Root a b) ≡ traps m trap.Segment
  root_nowhere a b n is none = a_number m _ n is ∙ no_segment m _ none

  pub root_type : (a b : ℕ) (H : Pairs) → reg task b ≡ Ref H → act m t task (Root a b) ≡ traps m trap.BadType
  root_type a b H is = no_number m _ H is

  -- an answer without a new array changes the register alone; a new array is in the segment, or finds no room
  module _ (left : Task) (a n : ℕ) (u : Updated) where
    abbrev with_answer : Option Array → Machine × Turn
    with_answer new = sets (record m { segments = put_new m.segments n new }) t left a (Number (number_of u.answer))

    abbrev by_new : Option Array → Machine × Turn
    by_new new = traps_if (full_with m new) m trap.Full (with_answer new)

    pub answers_refused : u.array ≡ None → answers m t left a n u ≡ sets m t left a (Number (number_of u.answer))
    answers_refused none = ap by_new none

    pub answers_new : (A : Array) → u.array ≡ Some A → full m A ≡ false → answers m t left a n u ≡ sets (record m { segments = put_array m.segments n A }) t left a (Number (number_of u.answer))
    answers_new A new room = ap by_new new ∙ ap (λ x. traps_if x m trap.Full (with_answer (Some A))) room

    pub answers_full : (A : Array) → u.array ≡ Some A → full m A ≡ true → answers m t left a n u ≡ traps m trap.Full
    answers_full A new none = ap by_new new ∙ ap (λ x. traps_if x m trap.Full (with_answer (Some A))) none

  pub commit_of : (a b : ℕ) (r : Iter) (n : ℕ) (s : Segment) → iter task b ≡ Some r → r.segment ≡ Some n → segment m n ≡ Some s → act m t task (Commit a b) ≡ commits m t task a b r n (commit s.kind r.snapshot r.buffered s.array)
  commit_of a b r n s there own is = an_iter m _ r there ∙ its_own m _ n own ∙ a_segment m _ s is

  module _ (a b : ℕ) (r : Iter) (n : ℕ) (s : Segment) (there : iter task b ≡ Some r) (own : r.segment ≡ Some n) (is : segment m n ≡ Some s) where
    abbrev update : Updated
    update = commit s.kind r.snapshot r.buffered s.array

    pub commit_refused : update.array ≡ None → act m t task (Commit a b) ≡ sets m t task a (Number (number_of update.answer))
    commit_refused none =
        commit_of a b r n s there own is
        ∙ ap (λ new. answers m t (with_open task b (committed r new)) a n update) none
        ∙ ap (λ left. answers m t left a n update) (left_open task b r there)
        ∙ answers_refused task a n update none

    pub commit_new : (A : Array) → update.array ≡ Some A → full m A ≡ false
        → act m t task (Commit a b) ≡ sets (record m { segments = put_array m.segments n A }) t (with_open task b (renewed r A)) a (Number (number_of update.answer))
    commit_new A new room =
        commit_of a b r n s there own is
        ∙ ap (λ x. answers m t (with_open task b (committed r x)) a n update) new
        ∙ answers_new (with_open task b (renewed r A)) a n update A new room

    pub commit_full : (A : Array) → update.array ≡ Some A → full m A ≡ true → act m t task (Commit a b) ≡ traps m trap.Full
    commit_full A new none =
        commit_of a b r n s there own is
        ∙ ap (λ x. answers m t (with_open task b (committed r x)) a n update) new
        ∙ answers_full (with_open task b (renewed r A)) a n update A new none

  pub commit_detached : (a b : ℕ) (r : Iter) → iter task b ≡ Some r → r.segment ≡ None → act m t task (Commit a b) ≡ traps m trap.Detached
  commit_detached a b r there none = an_iter m _ r there ∙ none_its_own m _ none

  pub commit_closed : (a b : ℕ) → iter task b ≡ None → act m t task (Commit a b) ≡ traps m trap.Closed
  commit_closed a b none = no_iter m _ none

  pub mcas_of : (a b c n : ℕ) (base mine : Pairs) (s : Segment) → reg task a ≡ Number n → reg task b ≡ Ref base → reg task c ≡ Ref mine → segment m n ≡ Some s → act m t task (Mcas a b c) ≡ answers m t task a n (mcas s.kind (array base) (array mine) s.array)
  mcas_of a b c n base mine s is first second there = a_number m _ n is ∙ an_array m _ base first ∙ an_array m _ mine second ∙ a_segment m _ s there

  pub mcas_nowhere : (a b c n : ℕ) (base mine : Pairs) → reg task a ≡ Number n → reg task b ≡ Ref base → reg task c ≡ Ref mine → segment m n ≡ None → act m t task (Mcas a b c) ≡ traps m trap.Segment
  mcas_nowhere a b c n base mine is first second none = a_number m _ n is ∙ an_array m _ base first ∙ an_array m _ mine second ∙ no_segment m _ none

  pub mcas_type : (a b c : ℕ) (H : Pairs) → reg task a ≡ Ref H → act m t task (Mcas a b c) ≡ traps m trap.BadType
  mcas_type a b c H is = no_number m _ H is

  pub mcas_base_type : (a b c n k : ℕ) → reg task a ≡ Number n → reg task b ≡ Number k → act m t task (Mcas a b c) ≡ traps m trap.BadType
  mcas_base_type a b c n k is first = a_number m _ n is ∙ no_array m _ k first

  pub mcas_mine_type : (a b c n : ℕ) (base : Pairs) (k : ℕ) → reg task a ≡ Number n → reg task b ≡ Ref base → reg task c ≡ Number k → act m t task (Mcas a b c) ≡ traps m trap.BadType
  mcas_mine_type a b c n base k is first second = a_number m _ n is ∙ an_array m _ base first ∙ no_array m _ k second
