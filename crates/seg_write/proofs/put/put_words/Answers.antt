use Rattle.std.proofs.Common.{[], ◌∷◌, ◌*◌, length, subst, arith}
use Rattle.std.proofs.lemmas.Result.{IfOk-weaker, on_err_weaker}
use Rattle.hic_word.specs.Canon.{enc}
use Rattle.hic_word.specs.Memory.{line_at}
use Rattle.hic_word.specs.Values.{Array}
use Rattle.line_mem.specs.Looks.{LooksUpTo}
use Rattle.seg_read.specs.Levels.{own_line}
use Rattle.seg_write.specs.Puts.{CanPutWords, put_at}
use Rattle.seg_write.specs.Trades.{Trades}
use Rattle.seg_write.proofs.Composing.{gains_after, gains_nothing, lacks_before, same_probe}
use Rattle.seg_write.proofs.Leaves.{LeafFor, leaf_for, words_live}
use Rattle.seg_write.proofs.Trading.{trades_held, trades_then}
use Rattle.seg_write.proofs.put.put_words.Given.{Over}
use Rattle.seg_write.proofs.put.put_words.Goals as goal
use Rattle.seg_write.proofs.put.put_words.Goals.{After-hold_each}

-- the changed words, after their holds
leaf : (g : Over) (c : After-hold_each g) (A L : Array) → CanPutWords (line_at (g.M.HoldCounts.memory c.args.mem.now)) c.args.words c.args.base c.args.changes.now A L
    → LeafFor (line_at (g.M.HoldCounts.memory c.hold_each.new.mem)) c.words_after-words.result (put_at 1 c.args.base A L)
leaf g c A L can = leaf_for (g.M.HoldCounts.memory c.args.mem.now) (g.M.HoldCounts.memory c.hold_each.new.mem) c.words_after-words.result can c.words_after-words.ensures c.hold_each.ensures.lines

taken : (g : Over) (c : After-hold_each g) → Trades (g.M.HoldCounts.memory c.args.mem.now) (g.M.HoldCounts.memory c.hold_each.new.mem) [] c.words_after-words.result 4
taken g c = trades_held (g.M.HoldCounts.memory c.args.mem.now) (g.M.HoldCounts.memory c.hold_each.new.mem) c.words_after-words.result (length c.words_after-words.result) 4 c.hold_each.ensures.exchanges c.hold_each.ensures.lines c.hold_each.ensures.counts (omega arith)

pub words_after-words-requires : goal.words_after-words-requires
words_after-words-requires g c = let (A, L, f) = c.requires.words in (line_at (g.M.HoldCounts.memory c.args.mem.now), L, f.changes)

pub hold_each-requires-clause-live : goal.hold_each-requires-clause-live
hold_each-requires-clause-live g c =
    let (A, L, can) = c.requires.words in
    let old = g.M.HoldCounts.memory c.args.mem.now in
    words_live old (c.words_after-words.ensures (line_at old) A L can.is_part.valid can.changes can.words_for)

pub store_held-requires-clause-held : goal.store_held-requires-clause-held
store_held-requires-clause-held g c = let (held, h) = c.requires.held in (held, c.hold_each.ensures.exchanges.holds held h)

pub store_held-requires-clause-part : goal.store_held-requires-clause-part
store_held-requires-clause-part g c =
    let (A, L, can) = c.requires.words in
    let f = leaf g (goal.at.store_held-requires-clause-part g c).After-hold_each A L can in
    (put_at 1 c.args.base A L, f.is_part, f.words_for)

pub returns-clause-trades : goal.returns-clause-trades
returns-clause-trades g c = IfOk-weaker c.store_held.result _ _ (λ x t.
    trades_then (g.M.HoldCounts.memory c.args.mem.now) (g.M.HoldCounts.memory c.hold_each.new.mem) (g.M.HoldCounts.memory c.store_held.new.mem) c.words_after-words.result (x ∷ []) 4 1 5 (taken g (goal.at.returns-clause-trades g c).After-hold_each) t (omega arith)) c.store_held.ensures.trades

pub returns-clause-stands : goal.returns-clause-stands
returns-clause-stands g c = IfOk-weaker c.store_held.result _ _ (λ x stands A L can. let f = leaf g (goal.at.returns-clause-stands g c).After-hold_each A L can in stands (put_at 1 c.args.base A L) f.is_part f.words_for) c.store_held.ensures.stands

pub returns-clause-gains : goal.returns-clause-gains
returns-clause-gains g c = IfOk-weaker c.store_held.result _ _ (λ x gains A L R can named.
    let old = g.M.HoldCounts.memory c.args.mem.now in
    let m = g.M.HoldCounts.memory c.hold_each.new.mem in
    let f = leaf g (goal.at.returns-clause-gains g c).After-hold_each A L can in
    gains_after old m (g.M.HoldCounts.memory c.store_held.new.mem) R (gains_nothing old m R c.hold_each.ensures.lines) (gains (put_at 1 c.args.base A L) R f.is_part f.words_for named)) c.store_held.ensures.gains

pub returns-clause-full : goal.returns-clause-full
returns-clause-full g c = on_err_weaker c.store_held.result (λ lacks A L R can named.
    let old = g.M.HoldCounts.memory c.args.mem.now in
    let m = g.M.HoldCounts.memory c.hold_each.new.mem in
    let f = leaf g (goal.at.returns-clause-full g c).After-hold_each A L can in
    lacks_before old m R (gains_nothing old m R c.hold_each.ensures.lines) c.hold_each.ensures.exchanges.layout (lacks (put_at 1 c.args.base A L) R f.is_part f.words_for named)) c.store_held.ensures.full

pub returns-clause-unchanged : goal.returns-clause-unchanged
returns-clause-unchanged g c =
    let (held, h) = c.requires.held in
    on_err_weaker c.store_held.result (λ back. back (g.M.HoldCounts.memory c.args.mem.now) held 4 (g.met.M.LineMem.sound c.args.mem.now).keys h (taken g (goal.at.returns-clause-unchanged g c).After-hold_each)) c.store_held.ensures.given_back

pub returns-clause-looks : goal.returns-clause-looks
returns-clause-looks g c = λ A L can.
    let f = leaf g (goal.at.returns-clause-looks g c).After-hold_each A L can in
    subst (λ n. LooksUpTo (own_line (enc 4 1 (put_at 1 c.args.base A L)) * n) c.args.steps.now c.store_held.new.steps) (same_probe c.hold_each.ensures.exchanges.layout) (c.store_held.ensures.looks (put_at 1 c.args.base A L) f.is_part f.words_for)
