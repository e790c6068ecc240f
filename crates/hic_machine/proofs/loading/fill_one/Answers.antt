use Rattle.std.proofs.Common.{◌≡◌, ◌+◌, ℕ, List, [], refl, sym, subst}
use Rattle.hic_object.specs.Parts.{Parts}
use Rattle.hic_word.specs.declared.Word.{Word}
use Rattle.hic_word.specs.Memory.{Memory, line_at, width}
use Rattle.segment_map.specs.declared.Segment.{Segment as Stored}
use Rattle.hic_plain.specs.Machine.{array_of}
use Rattle.hic_machine.specs.Loads.{CanFill, Filled}
use Rattle.hic_machine.proofs.Filling.{always_err, can_apply, filled_next, has_few, has_room, overflows}
use Rattle.hic_machine.proofs.loading.fill_one.Goals as goal

-- the writes that are handed on
handed : (m : Memory) (ss : List Stored) (o : Parts) (s : ℕ) (xs ys : List (ℕ × Word)) → ys ≡ xs → CanFill m ss o s xs → CanFill m ss o s ys
handed m ss o s xs ys is can = subst (CanFill m ss o s) (sym is) can

pub apply-requires-clause-apply : goal.apply-requires-clause-apply
apply-requires-clause-apply g c =
    let m = g.M.HoldCounts.memory c.args.mem.now in
    let (o, can) = c.requires in
    ([], array_of c.args.vsid o.words, can_apply m c.args.segments.now o c.args.vsid c.as_slice.result.now c.empty.result (handed m c.args.segments.now o c.args.vsid c.args.writes.now c.as_slice.result.now c.as_slice.ensures can) (c.empty.ensures.stands (width m) (line_at m)))

pub apply-requires-clause-room : goal.apply-requires-clause-room
apply-requires-clause-room g c =
    let m = g.M.HoldCounts.memory c.args.mem.now in
    let (o, can) = c.requires in
    has_room m c.args.segments.now o c.args.vsid c.as_slice.result.now c.empty.result (handed m c.args.segments.now o c.args.vsid c.args.writes.now c.as_slice.result.now c.as_slice.ensures can) (c.empty.ensures.stands (width m) (line_at m)) (g.met.M.LineMem.sound c.args.mem.now)

pub apply-requires-clause-few : goal.apply-requires-clause-few
apply-requires-clause-few g c =
    let m = g.M.HoldCounts.memory c.args.mem.now in
    let (o, can) = c.requires in
    has_few m c.args.segments.now o c.args.vsid c.as_slice.result.now c.empty.result (handed m c.args.segments.now o c.args.vsid c.args.writes.now c.as_slice.result.now c.as_slice.ensures can) (c.empty.ensures.stands (width m) (line_at m))

pub set-requires : goal.set-requires
set-requires g c = let (o, can) = c.requires in can.there

pub returns-in_err-root-clause-full : goal.returns-in_err-root-clause-full
returns-in_err-root-clause-full g c = λ o can.
    let m = g.M.HoldCounts.memory c.args.mem.now in
    let handed_on = handed m c.args.segments.now o c.args.vsid c.args.writes.now c.as_slice.result.now c.as_slice.ensures can in
    let none = c.empty.ensures.stands (width m) (line_at m) in
    always_err c.from_residual.result (overflows m c.args.segments.now o c.args.vsid c.as_slice.result.now c.empty.result handed_on none
    ((c.in_err-root.ensures.full [] (array_of c.args.vsid o.words) (can_apply m c.args.segments.now o c.args.vsid c.as_slice.result.now c.empty.result handed_on none)).0 refl))

pub returns-in_err-root-clause-looks : goal.returns-in_err-root-clause-looks
returns-in_err-root-clause-looks g c =
    let m = g.M.HoldCounts.memory c.args.mem.now in
    let (o, can) = c.requires in
    (c.in_err-root.ensures.looks [] (array_of c.args.vsid o.words) (can_apply m c.args.segments.now o c.args.vsid c.as_slice.result.now c.empty.result (handed m c.args.segments.now o c.args.vsid c.args.writes.now c.as_slice.result.now c.as_slice.ensures can) (c.empty.ensures.stands (width m) (line_at m)))).0

pub returns-clause-filled : goal.returns-clause-filled
returns-clause-filled g c = λ o can.
    let m = g.M.HoldCounts.memory c.args.mem.now in
    let handed_on = handed m c.args.segments.now o c.args.vsid c.args.writes.now c.as_slice.result.now c.as_slice.ensures can in
    let none = c.empty.ensures.stands (width m) (line_at m) in
    subst (λ ss. Filled (g.M.HoldCounts.memory c.apply.new.mem) ss o (c.args.vsid + 1)) (sym c.set.ensures.segments)
    (filled_next m c.args.segments.now o c.args.vsid c.as_slice.result.now c.empty.result handed_on none (g.M.HoldCounts.memory c.apply.new.mem) c.in_ok-root.root c.set.result c.in_ok-root.ensures.reshapes c.set.ensures.former
    (c.in_ok-root.ensures.stands [] (array_of c.args.vsid o.words) (can_apply m c.args.segments.now o c.args.vsid c.as_slice.result.now c.empty.result handed_on none)))

pub returns-clause-looks : goal.returns-clause-looks
returns-clause-looks g c =
    let m = g.M.HoldCounts.memory c.args.mem.now in
    let (o, can) = c.requires in
    (c.in_ok-root.ensures.looks [] (array_of c.args.vsid o.words) (can_apply m c.args.segments.now o c.args.vsid c.as_slice.result.now c.empty.result (handed m c.args.segments.now o c.args.vsid c.args.writes.now c.as_slice.result.now c.as_slice.ensures can) (c.empty.ensures.stands (width m) (line_at m)))).0
