use Rattle.std.proofs.Common.{◌≡◌, ℕ, Some, ◌∙◌, ap, subst, sym, arith}
use Rattle.seg_cursor.specs.Trails.{JoinLooks}
use Rattle.iter_regs.specs.Iters.{ForOpen, LoadLooks, ReadsBy, Stays, iter_words}
use Rattle.form_rows.specs.OneLine.{IsOneLine}
use Rattle.form_rows.proofs.Loading.{line_at_offset, loaded_last, loaded_line, loaded_looks, loaded_near, loaded_words, sought_at, words_at_offset, if_ok}
use Rattle.form_rows.proofs.Using.{usable_after_load, usable_after_seek}
use Rattle.form_rows.proofs.loads.load_at.Goals as goal

pub returns-in_err-seek-clause-usable : goal.returns-in_err-seek-clause-usable
returns-in_err-seek-clause-usable g c = usable_after_seek (g.M.HoldCounts.memory c.args.mem.now) c.args.reg.now c.seek.new.self c.args.offset c.seek.result c.seek.ensures c.requires.usable

pub returns-in_err-seek-clause-line : goal.returns-in_err-seek-clause-line
returns-in_err-seek-clause-line g c = subst IsOneLine (sym (sought_at c.args.reg.now c.seek.new.self c.args.offset c.seek.result c.seek.ensures (omega arith))) (line_at_offset c.args.reg.now c.args.offset c.requires.line)

pub returns-in_err-seek-clause-words : goal.returns-in_err-seek-clause-words
returns-in_err-seek-clause-words g c = ap iter_words (sought_at c.args.reg.now c.seek.new.self c.args.offset c.seek.result c.seek.ensures (omega arith)) ∙ words_at_offset c.args.reg.now c.args.offset

pub load-requires : goal.load-requires
load-requires g c = (usable_after_seek (g.M.HoldCounts.memory c.args.mem.now) c.args.reg.now c.seek.new.self c.args.offset c.seek.result c.seek.ensures c.requires.usable).1

pub returns-clause-usable : goal.returns-clause-usable
returns-clause-usable g c =
    let m = g.M.HoldCounts.memory c.args.mem.now in
    usable_after_load m c.seek.new.self c.load.new.self c.load.ensures.same (usable_after_seek m c.args.reg.now c.seek.new.self c.args.offset c.seek.result c.seek.ensures c.requires.usable)

pub returns-clause-line : goal.returns-clause-line
returns-clause-line g c =
    let m = g.M.HoldCounts.memory c.args.mem.now in
    let e = sought_at c.args.reg.now c.seek.new.self c.args.offset c.seek.result c.seek.ensures (omega arith) in
    loaded_line m c.args.offset c.load.new.self c.args.reg.now (subst (λ b. Stays m b c.load.new.self) e c.load.ensures.same) c.requires.line

pub returns-clause-words : goal.returns-clause-words
returns-clause-words g c =
    let m = g.M.HoldCounts.memory c.args.mem.now in
    let e = sought_at c.args.reg.now c.seek.new.self c.args.offset c.seek.result c.seek.ensures (omega arith) in
    loaded_words m c.args.offset c.load.new.self c.args.reg.now (subst (λ b. Stays m b c.load.new.self) e c.load.ensures.same)

pub returns-clause-last : goal.returns-clause-last
returns-clause-last g c =
    let m = g.M.HoldCounts.memory c.args.mem.now in
    let e = sought_at c.args.reg.now c.seek.new.self c.args.offset c.seek.result c.seek.ensures (omega arith) in
    if_ok c.load.result (loaded_last m c.args.offset c.load.new.self c.args.reg.now (subst (λ b. Stays m b c.load.new.self) e c.load.ensures.same) (subst (λ b. ReadsBy b c.load.new.self) e c.load.ensures.cursor) c.requires.line)

pub returns-clause-looks : goal.returns-clause-looks
returns-clause-looks g c =
    let e = sought_at c.args.reg.now c.seek.new.self c.args.offset c.seek.result c.seek.ensures (omega arith) in
    loaded_looks c.args.reg.now c.args.offset c.args.steps.now c.load.new.steps (subst (λ b. LoadLooks b c.args.steps.now c.load.new.steps) e c.load.ensures.looks) c.requires.line

pub returns-clause-near : goal.returns-clause-near
returns-clause-near g c = λ p small last.
    let e = sought_at c.args.reg.now c.seek.new.self c.args.offset c.seek.result c.seek.ensures (omega arith) in
    loaded_near c.args.reg.now c.args.offset c.args.steps.now c.load.new.steps (subst (λ b. LoadLooks b c.args.steps.now c.load.new.steps) e c.load.ensures.looks)
    (subst (λ b. ForOpen b (λ r. (p : ℕ) → r.cursor.last ≡ Some p → JoinLooks p r.position c.args.steps.now c.load.new.steps)) e c.load.ensures.near) c.requires.offset p small last
