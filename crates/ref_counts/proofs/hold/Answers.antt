use Rattle.std.proofs.Common.{◌+◌, ◌≤◌, [], ◌∷◌, sym, subst}
use Rattle.hic_word.specs.Memory.{count_at}
use Rattle.hic_word.proofs.callers.Holds.{hold_raises, hold_takes_word, nothing_takes_word}
use Rattle.hic_word.specs.Exchanges.{Exchanges}
use Rattle.ref_counts.proofs.hold.Goals as goal

pub returns-in-Some-clause-exchanges : goal.returns-in-Some-clause-exchanges
returns-in-Some-clause-exchanges g c =
    subst (λ m. Exchanges (g.M.HoldCounts.memory c.args.mem.now) m [] (c.args.word ∷ [])) (sym c.hold.ensures)
    (hold_takes_word (g.M.HoldCounts.memory c.args.mem.now) c.args.word c.in-Some.id c.requires.live (sym c.in-Some.ensures))

pub returns-in-None-clause-exchanges : goal.returns-in-None-clause-exchanges
returns-in-None-clause-exchanges g c = nothing_takes_word (g.M.HoldCounts.memory c.args.mem.now) c.args.word (sym c.in-None.ensures)

pub returns-in-Some-clause-counts : goal.returns-in-Some-clause-counts
returns-in-Some-clause-counts g c = λ id.
    subst (λ m. count_at m id ≤ count_at (g.M.HoldCounts.memory c.args.mem.now) id + 1) (sym c.hold.ensures)
    (hold_raises (g.M.HoldCounts.memory c.args.mem.now) c.in-Some.id id)
