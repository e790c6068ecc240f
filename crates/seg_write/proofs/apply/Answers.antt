use Rattle.std.proofs.Common.{◌≡◌, ◌≢◌, ◌+◌, ◌-◌, ◌*◌, ◌^◌, ◌≤◌, ◌<◌, [], ◌∷◌, length, max, take, sym, ◌∙◌, ap, subst, arith}
use Rattle.std.proofs.lemmas.Result.{IfOk-weaker, on_err_weaker}
use Rattle.hic_word.specs.Canon.{IsPart}
use Rattle.hic_word.specs.Changes.{with}
use Rattle.hic_word.specs.Heights.{height}
use Rattle.hic_word.specs.InMemory.{CanApply, RootIn}
use Rattle.hic_word.specs.Memory.{line_at}
use Rattle.hic_word.specs.declared.Kind.TheVariants.{Num}
use Rattle.hic_word.specs.Stands.{word_of}
use Rattle.hic_word.specs.declared.Kind.TheVariants.{Num}
use Rattle.hic_word.specs.Stands.{word_of}
use Rattle.hic_word.specs.Values.{Array, IsBelow}
use Rattle.hic_word.proofs.callers.Holds.{more_keep}
use Rattle.line_room.specs.Room.{LacksRoom}
use Rattle.seg_read.proofs.Rooting.{root_low}
use Rattle.seg_write.specs.Charges.{LooksFew}
use Rattle.seg_write.specs.Puts.{IsLast, put_at}
use Rattle.seg_write.proofs.Applying.{IsReady, full_exactly, grown_few, grows, grows_all, had_room, kept_or_same, looks_few, puts, puts_all, ready, room_each, room_few, tall_whole}
use Rattle.seg_write.proofs.Rooted.{root_in, same_held, tall_rooted}
use Rattle.seg_write.proofs.Taller.{tall_part}
use Rattle.seg_write.proofs.Tops.{top_named}
use Rattle.seg_write.proofs.Trimming.{told_height}
use Rattle.seg_write.proofs.apply.Given.{Over}
use Rattle.seg_write.proofs.apply.Goals as goal
use Rattle.seg_write.proofs.apply.Goals.{After-height_for-top}

-- the array at its height, with the changes that it needs
prepared : (g : Over) (c : After-height_for-top g) (A L : Array) → CanApply (g.M.HoldCounts.memory c.args.mem.now) c.args.root c.args.changes.now A L
    → IsReady (g.M.HoldCounts.memory c.args.mem.now) c.max-height.result c.part_of.result.entry c.needed.result c.split_at.result.0.now A L
prepared g c A L can = ready c.max-height.result c.needed.result c.part_of.result (omega (arith, c.max-height.ensures)) c.part_of.ensures.top (c.part_of.ensures.at ∙ omega (arith, c.max-height.ensures)) c.split_at.ensures.front (c.part_of.ensures.part (line_at (g.M.HoldCounts.memory c.args.mem.now))) can

below : (g : Over) (c : After-height_for-top g) (A L : Array) → CanApply (g.M.HoldCounts.memory c.args.mem.now) c.args.root c.args.changes.now A L → IsBelow (4 ^ c.height_for-top.result) (take c.needed.result L)
below g c A L can = let r = prepared g c A L can in c.height_for-top.ensures.below (line_at (g.M.HoldCounts.memory c.args.mem.now)) (take c.needed.result L) r.changes r.ascend

-- they make the same array of it
same : (g : Over) (c : After-height_for-top g) (A L : Array) → CanApply (g.M.HoldCounts.memory c.args.mem.now) c.args.root c.args.changes.now A L → with A (take c.needed.result L) ≡ with A L
same g c A L can = c.needed.ensures.same (line_at (g.M.HoldCounts.memory c.args.mem.now)) A L (prepared g c A L can).part.is_part can.changes_for can.ascend

fewer : (g : Over) (c : After-height_for-top g) → length c.split_at.result.0.now ≤ length c.args.changes.now
fewer g c = omega arith

-- where some lie past the array, the last of them tells the new height
tall_array : (g : Over) (c : After-height_for-top g) (A L : Array) → CanApply (g.M.HoldCounts.memory c.args.mem.now) c.args.root c.args.changes.now A L → c.max-height.result < c.height_for-top.result
    → IsPart 4 c.height_for-top.result (put_at c.height_for-top.result 0 A (take c.needed.result L)) → height 4 (put_at c.height_for-top.result 0 A (take c.needed.result L)) ≡ c.height_for-top.result
tall_array g c A L can past whole =
    let r = prepared g c A L can in
    let top = c.height_for-top.result in
    let some = r.part.is_part.positive in
    let high : 2 ≤ top = omega (arith, some, past) in
    let a : IsPart 4 top A = tall_whole r.part.is_part (omega (arith, past)) c.height_for-top.ensures.low in
    let with_all = grows_all c.height_for-top.result r (below g c A L can) in
    let last = c.height_for-top.ensures.past (top - 1) (omega (arith, high)) (omega (arith, high)) in
    let over = c.height_for-top.ensures.past c.max-height.result some past in
    let nonzero = subst (λ cs. IsLast cs (λ l. 4 ^ c.max-height.result ≤ l.0) → IsLast cs (λ l. l.1 ≢ word_of Num 0 0)) (sym c.split_at.ensures.front) c.needed.ensures.last over in
    ap (height 4) with_all ∙ told_height (line_at (g.M.HoldCounts.memory c.args.mem.now)) c.split_at.result.0.now A (take c.needed.result L) top a r.changes r.ascend (subst (IsPart 4 top) with_all whole) high last nonzero

pub part_of-requires-clause-low : goal.part_of-requires-clause-low
part_of-requires-clause-low g c =
    let (A, L, can) = c.requires.apply in
    let low = root_low can.root_for in
    let most = c.max-height.ensures in
    omega (arith, low, most)

pub put_root-requires-clause-put : goal.put_root-requires-clause-put
put_root-requires-clause-put g c =
    let (A, L, can) = c.requires.apply in
    let d = (goal.at.put_root-requires-clause-put g c).After-height_for-top in
    (A, take c.needed.result L, puts c.height_for-top.result (prepared g d A L can) (below g d A L can) c.if-top-height.true)

pub put_root-requires-clause-room : goal.put_root-requires-clause-room
put_root-requires-clause-room g c = λ id.
    let (A, L, can) = c.requires.apply in
    let n = length c.args.changes.now in
    let room = room_each (g.M.HoldCounts.memory c.args.mem.now) (64 * (n + 1)) (g.met.M.LineMem.sound c.args.mem.now) (omega (arith, c.requires.few)) c.requires.room id in
    let low = (prepared g (goal.at.put_root-requires-clause-room g c).After-height_for-top A L can).part.low in
    let all = room_few n (length c.split_at.result.0.now) c.max-height.result _ (omega arith) low room in
    omega (arith, all)

pub returns-then-top-height-clause-stands : goal.returns-then-top-height-clause-stands
returns-then-top-height-clause-stands g c = IfOk-weaker c.put_root.result _ _ (λ root stands A L can.
    let d = (goal.at.returns-then-top-height-clause-stands g c).After-height_for-top in
    let r = prepared g d A L can in
    let low = below g d A L can in
    subst (RootIn (g.M.HoldCounts.memory c.put_root.new.mem) root) (puts_all c.height_for-top.result r low c.if-top-height.true ∙ same g d A L can) (stands A (take c.needed.result L) (puts c.height_for-top.result r low c.if-top-height.true))) c.put_root.ensures.stands

pub returns-then-top-height-clause-reshapes : goal.returns-then-top-height-clause-reshapes
returns-then-top-height-clause-reshapes g c = IfOk-weaker c.put_root.result _ _ (λ root taken. record {
  holds = taken.holds;
  lines = more_keep (g.M.HoldCounts.memory c.args.mem.now) (g.M.HoldCounts.memory c.put_root.new.mem) taken.lines;
  layout = taken.layout;
}) c.put_root.ensures.passes

pub returns-then-top-height-clause-lines : goal.returns-then-top-height-clause-lines
returns-then-top-height-clause-lines g c = kept_or_same (g.M.HoldCounts.memory c.args.mem.now) (g.M.HoldCounts.memory c.put_root.new.mem) c.put_root.result (IfOk-weaker c.put_root.result _ _ (λ root taken. taken.lines) c.put_root.ensures.passes) c.put_root.ensures.unchanged

pub returns-then-top-height-clause-full : goal.returns-then-top-height-clause-full
returns-then-top-height-clause-full g c = λ A L can.
    let d = (goal.at.returns-then-top-height-clause-full g c).After-height_for-top in
    let r = prepared g d A L can in
    let low = below g d A L can in
    let (held, h) = c.requires.held in
    full_exactly (g.M.HoldCounts.memory c.args.mem.now) (g.M.HoldCounts.memory c.put_root.new.mem) held (with A L) c.put_root.result h (g.met.M.LineMem.sound c.put_root.new.mem).room c.put_root.ensures.passes
    (IfOk-weaker c.put_root.result _ _ (λ root stands. subst (RootIn (g.M.HoldCounts.memory c.put_root.new.mem) root) (puts_all c.height_for-top.result r low c.if-top-height.true ∙ same g d A L can) (stands A (take c.needed.result L) (puts c.height_for-top.result r low c.if-top-height.true))) c.put_root.ensures.stands)
    (on_err_weaker c.put_root.result (λ lacks. subst (λ B. LacksRoom 4 (g.M.HoldCounts.memory c.args.mem.now) (B ∷ [])) (puts_all c.height_for-top.result r low c.if-top-height.true ∙ same g d A L can) (lacks A (take c.needed.result L) (puts c.height_for-top.result r low c.if-top-height.true))) c.put_root.ensures.full)

pub returns-then-top-height-clause-looks : goal.returns-then-top-height-clause-looks
returns-then-top-height-clause-looks g c = λ A L can.
    let d = (goal.at.returns-then-top-height-clause-looks g c).After-height_for-top in
    let r = prepared g d A L can in
    let low = below g d A L can in
    subst (λ B. LooksFew (length c.args.changes.now) (max (height 4 A) (height 4 B)) (g.M.HoldCounts.memory c.args.mem.now).layout.probe c.args.steps.now c.put_root.new.steps) (puts_all c.height_for-top.result r low c.if-top-height.true ∙ same g d A L can)
    (looks_few _ _ _ _ _ _ _ _ (omega arith) r.levels (c.put_root.ensures.looks A (take c.needed.result L) (puts c.height_for-top.result r low c.if-top-height.true)))

pub grow-requires-clause-grow : goal.grow-requires-clause-grow
grow-requires-clause-grow g c =
    let (A, L, can) = c.requires.apply in
    let d = (goal.at.grow-requires-clause-grow g c).After-height_for-top in
    let r = prepared g d A L can in
    let low = below g d A L can in
    let grow = grows c.height_for-top.result r low (let past = c.if-top-height.false in omega (arith, past)) c.height_for-top.ensures.low in
    (A, (take c.needed.result L), grow)

pub grow-requires-clause-room : goal.grow-requires-clause-room
grow-requires-clause-room g c = λ id.
    let n = length c.args.changes.now in
    let room = room_each (g.M.HoldCounts.memory c.args.mem.now) (64 * (n + 1)) (g.met.M.LineMem.sound c.args.mem.now) (omega (arith, c.requires.few)) c.requires.room id in
    room_few n (length c.split_at.result.0.now) c.height_for-top.result _ (omega arith) c.height_for-top.ensures.low room

pub returns-clause-stands : goal.returns-clause-stands
returns-clause-stands g c = λ A L can.
    let d = (goal.at.returns-clause-stands g c).After-height_for-top in
    let r = prepared g d A L can in
    let low = below g d A L can in
    let grow = grows c.height_for-top.result r low (let past = c.if-top-height.false in omega (arith, past)) c.height_for-top.ensures.low in
    let stands = c.in_ok-entry.ensures.stands A (take c.needed.result L) grow in
    let high : 2 ≤ c.height_for-top.result = (let some = r.part.is_part.positive in let past = c.if-top-height.false in omega (arith, some, past)) in
    let reach = tall_array g d A L can (let past = c.if-top-height.false in omega (arith, past)) (tall_part grow) in
    let rooted = tall_rooted stands reach high c.root_with.ensures in
    let all = grows_all c.height_for-top.result r low ∙ same g d A L can in
    subst (RootIn (g.M.HoldCounts.memory c.grow.new.mem) c.root_with.result) all (root_in rooted.root)

pub returns-clause-lines : goal.returns-clause-lines
returns-clause-lines g c =
    c.in_ok-entry.ensures.trades.passes.lines

pub returns-clause-reshapes : goal.returns-clause-reshapes
returns-clause-reshapes g c =
    let (A, L, can) = c.requires.apply in
    let d = (goal.at.returns-clause-reshapes g c).After-height_for-top in
    let r = prepared g d A L can in
    let low = below g d A L can in
    let grow = grows c.height_for-top.result r low (let past = c.if-top-height.false in omega (arith, past)) c.height_for-top.ensures.low in
    let stands = c.in_ok-entry.ensures.stands A (take c.needed.result L) grow in
    let high : 2 ≤ c.height_for-top.result = (let some = r.part.is_part.positive in let past = c.if-top-height.false in omega (arith, some, past)) in
    let reach = tall_array g d A L can (let past = c.if-top-height.false in omega (arith, past)) (tall_part grow) in
    let rooted = tall_rooted stands reach high c.root_with.ensures in
    let taken = c.in_ok-entry.ensures.trades.passes in
    record { holds = λ held h. same_held held (sym rooted.names) (taken.holds held h); lines = more_keep (g.M.HoldCounts.memory c.args.mem.now) (g.M.HoldCounts.memory c.grow.new.mem) taken.lines; layout = taken.layout }

pub returns-clause-full : goal.returns-clause-full
returns-clause-full g c = λ A L can.
    let (held, h) = c.requires.held in
    let now = (returns-clause-reshapes g c).holds held h in
    (λ e. cc, λ lacks. absurd (had_room (g.M.HoldCounts.memory c.args.mem.now) (g.M.HoldCounts.memory c.grow.new.mem) held c.root_with.result _ now (returns-clause-stands g c A L can) (g.met.M.LineMem.sound c.grow.new.mem).room c.in_ok-entry.ensures.trades.passes.layout c.in_ok-entry.ensures.trades.passes.lines lacks))

pub returns-clause-looks : goal.returns-clause-looks
returns-clause-looks g c = λ A L can.
    let d = (goal.at.returns-clause-looks g c).After-height_for-top in
    let r = prepared g d A L can in
    let low = below g d A L can in
    let grow = grows c.height_for-top.result r low (let past = c.if-top-height.false in omega (arith, past)) c.height_for-top.ensures.low in
    let high : 2 ≤ c.height_for-top.result = (let some = r.part.is_part.positive in let past = c.if-top-height.false in omega (arith, some, past)) in
    let reach = tall_array g d A L can (let past = c.if-top-height.false in omega (arith, past)) (tall_part grow) in
    let all = grows_all c.height_for-top.result r low ∙ same g d A L can in
    subst (λ B. LooksFew (length c.args.changes.now) (max (height 4 A) (height 4 B)) (g.M.HoldCounts.memory c.args.mem.now).layout.probe c.args.steps.now c.grow.new.steps) all (subst (λ t. LooksFew (length c.args.changes.now) (max (height 4 A) t) (g.M.HoldCounts.memory c.args.mem.now).layout.probe c.args.steps.now c.grow.new.steps) (sym reach) (grown_few _ _ _ _ _ _ _ _ (omega arith) r.levels (c.grow.ensures.looks A (take c.needed.result L) grow)))

pub returns-in_err-entry-clause-full : goal.returns-in_err-entry-clause-full
returns-in_err-entry-clause-full g c = λ A L can.
    let d = (goal.at.returns-in_err-entry-clause-full g c).After-height_for-top in
    let r = prepared g d A L can in
    let low = below g d A L can in
    let grow = grows c.height_for-top.result r low (let past = c.if-top-height.false in omega (arith, past)) c.height_for-top.ensures.low in
    let high : 2 ≤ c.height_for-top.result = (let some = r.part.is_part.positive in let past = c.if-top-height.false in omega (arith, some, past)) in
    let reach = tall_array g d A L can (let past = c.if-top-height.false in omega (arith, past)) (tall_part grow) in
    let all = grows_all c.height_for-top.result r low ∙ same g d A L can in
    let lacks = c.in_err-entry.ensures.full A (take c.needed.result L) (put_at c.height_for-top.result 0 A (take c.needed.result L)) grow (tall_part grow).valid (top_named c.height_for-top.result (put_at c.height_for-top.result 0 A (take c.needed.result L)) high (tall_part grow) reach) in
    (λ e. subst (λ B. LacksRoom 4 (g.M.HoldCounts.memory c.args.mem.now) (B ∷ [])) all lacks, λ l. c.from_residual.ensures.0)

pub returns-in_err-entry-clause-looks : goal.returns-in_err-entry-clause-looks
returns-in_err-entry-clause-looks g c = λ A L can.
    let d = (goal.at.returns-in_err-entry-clause-looks g c).After-height_for-top in
    let r = prepared g d A L can in
    let low = below g d A L can in
    let grow = grows c.height_for-top.result r low (let past = c.if-top-height.false in omega (arith, past)) c.height_for-top.ensures.low in
    let high : 2 ≤ c.height_for-top.result = (let some = r.part.is_part.positive in let past = c.if-top-height.false in omega (arith, some, past)) in
    let reach = tall_array g d A L can (let past = c.if-top-height.false in omega (arith, past)) (tall_part grow) in
    let all = grows_all c.height_for-top.result r low ∙ same g d A L can in
    subst (λ B. LooksFew (length c.args.changes.now) (max (height 4 A) (height 4 B)) (g.M.HoldCounts.memory c.args.mem.now).layout.probe c.args.steps.now c.grow.new.steps) all (subst (λ t. LooksFew (length c.args.changes.now) (max (height 4 A) t) (g.M.HoldCounts.memory c.args.mem.now).layout.probe c.args.steps.now c.grow.new.steps) (sym reach) (grown_few _ _ _ _ _ _ _ _ (omega arith) r.levels (c.grow.ensures.looks A (take c.needed.result L) grow)))
