use Rattle.std.proofs.Common.{[], ◌∷◌, sym, subst, arith}
use Rattle.hic_word.specs.Exchanges.{Exchanges}
use Rattle.hic_word.proofs.callers.Holds.{freeing_gives_up}
use Rattle.ref_counts.proofs.GivenUp.{first, round, round_enough, round_fewer}
use Rattle.line_rows.proofs.walks.give_up.Goals as goal

pub loop-line-init : goal.loop-line-init
loop-line-init g c = first (g.M.HoldCounts.memory c.args.mem.now) (g.M.HoldCounts.memory c.sink_word.new.mem) c.args.word c.sink_word.ensures

pub sink_line-requires : goal.sink_line-requires
sink_line-requires g c = (omega arith, round_enough (g.M.HoldCounts.memory c.args.mem.now) (g.M.HoldCounts.memory c.loop-line.mem) (g.M.HoldCounts.memory c.pop_dead.new.self) c.args.word c.in-Some.line.w c.loop-line.invariant c.in-Some.ensures.some c.requires)

pub loop-line-smaller : goal.loop-line-smaller
loop-line-smaller g c =
    round_fewer (g.M.HoldCounts.memory c.args.mem.now) (g.M.HoldCounts.memory c.loop-line.mem) (g.M.HoldCounts.memory c.pop_dead.new.self) c.args.word c.in-Some.line.w c.loop-line.invariant c.in-Some.ensures.some
    (g.M.HoldCounts.memory c.sink_line.new.mem) c.requires c.sink_line.ensures

pub loop-line-preserved : goal.loop-line-preserved
loop-line-preserved g c =
    round (g.M.HoldCounts.memory c.args.mem.now) (g.M.HoldCounts.memory c.loop-line.mem) (g.M.HoldCounts.memory c.pop_dead.new.self) c.args.word c.in-Some.line.w c.loop-line.invariant c.in-Some.ensures.some
    (g.M.HoldCounts.memory c.sink_line.new.mem) c.sink_line.ensures

pub returns : goal.returns
returns g c =
    subst (λ m. Exchanges (g.M.HoldCounts.memory c.args.mem.now) m (c.args.word ∷ []) []) (sym c.in_default.ensures.none.1)
    (freeing_gives_up (g.M.HoldCounts.memory c.args.mem.now) (g.M.HoldCounts.memory c.loop-line.mem) (c.args.word ∷ []) c.requires c.loop-line.invariant c.in_default.ensures.none.0)
