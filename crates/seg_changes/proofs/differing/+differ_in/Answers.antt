use Rattle.std.proofs.Common.{rules, ◌+◌, ◌*◌, ◌^◌, ◌≤◌, length, refl, sym, ◌∙◌, subst, arith}
use Rattle.std.proofs.lemmas.Result.{MatchResult-from_err}
use Rattle.hic_word.specs.Memory.{line_at}
use Rattle.seg_changes.specs.ChangeList.{most_changes}
use Rattle.seg_changes.specs.Differing.{Adds, differ_from, raised_at}
use Rattle.seg_changes.proofs.EqualParts.{told_not}
use Rattle.seg_changes.proofs.NodeLooks.{higher_looks, lowest_looks, visited}
use Rattle.seg_changes.proofs.QuarterParts.{have_quarters}
use Rattle.seg_changes.proofs.Turns.{KeptLooks, finished, same_added, same_looks, stopped, turn, turn_added, turn_fits, turn_looks, turn_wide, whole_range}
use Rattle.seg_changes.proofs.differing.«+differ_in».Goals as goal
use Rattle.seg_changes.proofs.differing.«+differ_in».Goals.{then-not-same_entry+in_ok-differ_in, else-not-same_entry}

pub returns-then-before-eq1-clause-looks : goal.returns-then-before-eq1-clause-looks
returns-then-before-eq1-clause-looks g t c = λ A B f d.
    let n = visited (g.met.M.LineMem.sound c.args.mem.now).unique f d c.requires.height c.requires.other (c.look_inside-old.ensures.looks A f) (c.look_inside-new.ensures.looks B d) in
    lowest_looks (length c.args.out.now) n c.requires.few

pub loop-place-init : goal.loop-place-init
loop-place-init g t c = record {
  differences = search rules;
  few = search rules;
  looks = λ A B f d. record { more = omega arith; most = omega arith };
}

pub differ_in-requires : goal.differ_in-requires
differ_in-requires g t c κs within =
    let A = c.requires.before.0 in
    let f = c.requires.before.1 in
    let B = c.requires.after.0 in
    let d = c.requires.after.1 in
    let w = have_quarters c.args.before c.args.before.top c.span-size.result f refl c.if-before-eq1.false c.span-size.ensures (c.look_inside-old.ensures.within A f) in
    let v = have_quarters c.args.after c.args.before.top c.span-size.result d c.requires.height c.if-before-eq1.false c.span-size.ensures (c.look_inside-new.ensures.within B d) in
    let x = turn w v c.loop-place-test.true c.quarter-left.ensures c.quarter-right.ensures in
    let high = w.high in
    let top = x.top in
    let other = told_not c.same_entry.result c.same_entry.ensures c.if-not-same_entry.true in
    (search rules, (search rules, (search rules, (x.top ∙ sym x.also, ((λ at entry. other (at, entry)), ((_, x.left), ((_, x.right), (turn_fits x c.args.base (2 ^ 32) c.requires.fits, c.loop-place.invariant.few))))))))

-- no room in the quarter
pub returns-in_err-differ_in-clause-wide : goal.returns-in_err-differ_in-clause-wide
returns-in_err-differ_in-clause-wide g t c = MatchResult-from_err c.from_residual.result _ _ c.from_residual.ensures.0 (λ _ A B f d.
    let w = have_quarters c.args.before c.args.before.top c.span-size.result f refl c.if-before-eq1.false c.span-size.ensures (c.look_inside-old.ensures.within A f) in
    let v = have_quarters c.args.after c.args.before.top c.span-size.result d c.requires.height c.if-before-eq1.false c.span-size.ensures (c.look_inside-new.ensures.within B d) in
    let x = turn w v c.loop-place-test.true c.quarter-left.ensures c.quarter-right.ensures in
    turn_wide x c.args.base (c.loop-place.invariant.differences A B f d) (c.in_err-differ_in.ensures.wide _ _ x.left x.right))

pub returns-in_err-differ_in-clause-looks : goal.returns-in_err-differ_in-clause-looks
returns-in_err-differ_in-clause-looks g t c = λ A B f d.
    let n = visited (g.met.M.LineMem.sound c.args.mem.now).unique f d c.requires.height c.requires.other (c.look_inside-old.ensures.looks A f) (c.look_inside-new.ensures.looks B d) in
    let w = have_quarters c.args.before c.args.before.top c.span-size.result f refl c.if-before-eq1.false c.span-size.ensures (c.look_inside-old.ensures.within A f) in
    let v = have_quarters c.args.after c.args.before.top c.span-size.result d c.requires.height c.if-before-eq1.false c.span-size.ensures (c.look_inside-new.ensures.within B d) in
    let x = turn w v c.loop-place-test.true c.quarter-left.ensures c.quarter-right.ensures in
    let (found, all, more, most) = stopped x c.args.base c.look_inside-new.new.steps c.loop-place.steps c.differ_in.new.steps c.requires.few c.loop-place.invariant.few (c.loop-place.invariant.differences A B f d) (c.loop-place.invariant.looks A B f d)
    (c.in_err-differ_in.ensures.wide _ _ x.left x.right) (c.in_err-differ_in.ensures.looks _ _ x.left x.right) in
    higher_looks found (length c.args.out.now) c.differ_in.new.steps n c.requires.few w v (c.look_inside-old.ensures.raises A f) (c.look_inside-new.ensures.raises B d) all more most

-- the pairs of the quarter, or none where both quarters have one entry
pub loop-place-preserved : goal.loop-place-preserved
loop-place-preserved g t c = elim c.if-not-same_entry.branch [
  | then-not-same_entry+in_ok-differ_in y ↦ record {
    differences = λ A B f d.
        let w = have_quarters c.args.before c.args.before.top c.span-size.result f refl c.if-before-eq1.false c.span-size.ensures (c.look_inside-old.ensures.within A f) in
        let v = have_quarters c.args.after c.args.before.top c.span-size.result d c.requires.height c.if-before-eq1.false c.span-size.ensures (c.look_inside-new.ensures.within B d) in
        let x = turn w v c.loop-place-test.true c.quarter-left.ensures c.quarter-right.ensures in
        subst (λ now. Adds (line_at (g.M.HoldCounts.memory c.args.mem.now)) c.args.out.now now (raised_at c.args.base B (differ_from 0 ((c.loop-place.place + 1) * c.span-size.result) A B))) (sym y.out-is)
        (turn_added x c.args.base (c.loop-place.invariant.differences A B f d) (y.in_ok-differ_in.ensures.differences _ _ x.left x.right));
    few = subst (λ now. length now ≤ most_changes) (sym y.out-is) y.in_ok-differ_in.ensures.few;
    looks = λ A B f d.
        let w = have_quarters c.args.before c.args.before.top c.span-size.result f refl c.if-before-eq1.false c.span-size.ensures (c.look_inside-old.ensures.within A f) in
        let v = have_quarters c.args.after c.args.before.top c.span-size.result d c.requires.height c.if-before-eq1.false c.span-size.ensures (c.look_inside-new.ensures.within B d) in
        let x = turn w v c.loop-place-test.true c.quarter-left.ensures c.quarter-right.ensures in
        subst (KeptLooks c.args.before.top c.span-size.result (c.loop-place.place + 1) A B c.look_inside-old.result c.look_inside-new.result c.look_inside-new.new.steps) (sym y.steps-is)
        (turn_looks x (c.args.base + c.loop-place.place * c.span-size.result) c.look_inside-new.new.steps c.loop-place.steps y.differ_in.new.steps (c.loop-place.invariant.looks A B f d) (y.in_ok-differ_in.ensures.looks _ _ x.left x.right)
        (y.in_ok-differ_in.ensures.differences _ _ x.left x.right) y.in_ok-differ_in.ensures.few);
  }
  | else-not-same_entry y ↦ record {
    differences = λ A B f d.
        let w = have_quarters c.args.before c.args.before.top c.span-size.result f refl c.if-before-eq1.false c.span-size.ensures (c.look_inside-old.ensures.within A f) in
        let v = have_quarters c.args.after c.args.before.top c.span-size.result d c.requires.height c.if-before-eq1.false c.span-size.ensures (c.look_inside-new.ensures.within B d) in
        let x = turn w v c.loop-place-test.true c.quarter-left.ensures c.quarter-right.ensures in
        let told = c.same_entry.ensures.0 y.if-not-same_entry.false in
        subst (λ now. Adds (line_at (g.M.HoldCounts.memory c.args.mem.now)) c.args.out.now now (raised_at c.args.base B (differ_from 0 ((c.loop-place.place + 1) * c.span-size.result) A B))) (sym y.out-is)
        (turn_added x c.args.base (c.loop-place.invariant.differences A B f d) (same_added x c.args.base c.loop-place.out (g.met.M.LineMem.sound c.args.mem.now).unique told.0 told.1));
    few = subst (λ now. length now ≤ most_changes) (sym y.out-is) c.loop-place.invariant.few;
    looks = λ A B f d.
        let w = have_quarters c.args.before c.args.before.top c.span-size.result f refl c.if-before-eq1.false c.span-size.ensures (c.look_inside-old.ensures.within A f) in
        let v = have_quarters c.args.after c.args.before.top c.span-size.result d c.requires.height c.if-before-eq1.false c.span-size.ensures (c.look_inside-new.ensures.within B d) in
        let x = turn w v c.loop-place-test.true c.quarter-left.ensures c.quarter-right.ensures in
        let told = c.same_entry.ensures.0 y.if-not-same_entry.false in
        subst (KeptLooks c.args.before.top c.span-size.result (c.loop-place.place + 1) A B c.look_inside-old.result c.look_inside-new.result c.look_inside-new.new.steps) (sym y.steps-is)
        (same_looks x c.look_inside-new.new.steps c.loop-place.steps (c.loop-place.invariant.looks A B f d) (g.met.M.LineMem.sound c.args.mem.now).unique told.0 told.1);
  }
]

-- all four quarters
pub returns-clause-differences : goal.returns-clause-differences
returns-clause-differences g t c = λ A B f d.
    let w = have_quarters c.args.before c.args.before.top c.span-size.result f refl c.if-before-eq1.false c.span-size.ensures (c.look_inside-old.ensures.within A f) in
    let all = whole_range c.loop-place.place w c.loop-place-test.false c.loop-place.auto.place-end in
    subst (λ k. Adds (line_at (g.M.HoldCounts.memory c.args.mem.now)) c.args.out.now c.loop-place.out (raised_at c.args.base B (differ_from 0 k A B))) all (c.loop-place.invariant.differences A B f d)

pub returns-clause-looks : goal.returns-clause-looks
returns-clause-looks g t c = λ A B f d.
    let n = visited (g.met.M.LineMem.sound c.args.mem.now).unique f d c.requires.height c.requires.other (c.look_inside-old.ensures.looks A f) (c.look_inside-new.ensures.looks B d) in
    let w = have_quarters c.args.before c.args.before.top c.span-size.result f refl c.if-before-eq1.false c.span-size.ensures (c.look_inside-old.ensures.within A f) in
    let v = have_quarters c.args.after c.args.before.top c.span-size.result d c.requires.height c.if-before-eq1.false c.span-size.ensures (c.look_inside-new.ensures.within B d) in
    let all = whole_range c.loop-place.place w c.loop-place-test.false c.loop-place.auto.place-end in
    let (found, each, more, most) = finished c.args.base c.loop-place.place all (c.loop-place.invariant.differences A B f d) c.loop-place.invariant.few (c.loop-place.invariant.looks A B f d) in
    higher_looks found (length c.args.out.now) c.loop-place.steps n c.requires.few w v (c.look_inside-old.ensures.raises A f) (c.look_inside-new.ensures.raises B d) each more most
