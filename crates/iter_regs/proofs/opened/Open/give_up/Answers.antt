use Rattle.std.proofs.Common.{[], ◌∷◌, subst, sym}
use Rattle.hic_word.specs.Exchanges.{Exchanges, HoldsAmong}
use Rattle.iter_regs.specs.Iters.{buffered_words}
use Rattle.iter_regs.proofs.Holding.{all_given_up, buffered_held_after, snapshot_held}
use Rattle.iter_regs.proofs.opened.Open.give_up.Goals as goal

pub release-requires : goal.release-requires
release-requires g c = subst (λ x. HoldsAmong (g.M.HoldCounts.memory c.args.mem.now) (x ∷ [])) (sym c.root.ensures) (snapshot_held c.args.self.now.cursor.root (buffered_words c.args.self.now) c.requires)

pub empty-requires : goal.empty-requires
empty-requires g c =
    let gone = subst (λ x. Exchanges (g.M.HoldCounts.memory c.args.mem.now) (g.M.HoldCounts.memory c.release.new.mem) (x ∷ []) []) c.root.ensures c.release.ensures.exchanges in
    buffered_held_after c.args.self.now.cursor.root (buffered_words c.args.self.now) gone c.requires

pub returns-clause-exchanges : goal.returns-clause-exchanges
returns-clause-exchanges g c =
    let gone = subst (λ x. Exchanges (g.M.HoldCounts.memory c.args.mem.now) (g.M.HoldCounts.memory c.release.new.mem) (x ∷ []) []) c.root.ensures c.release.ensures.exchanges in
    all_given_up c.args.self.now.cursor.root (buffered_words c.args.self.now) gone c.empty.ensures.exchanges
