use Rattle.std.proofs.Common.{◌∷◌, sym, ap, subst}
use Rattle.hic_word.specs.Exchanges.{Exchanges}
use Rattle.segment_map.specs.Segments.{roots}
use Rattle.merge_update.proofs.Replacing.{former_given_up, former_held}
use Rattle.merge_update.proofs.install.replace.Goals as goal

pub release-requires : goal.release-requires
release-requires g c = former_held c.args.segments.now c.args.vsid c.args.root c.set-former.result c.set-former.ensures.former (g.M.HoldCounts.memory c.args.mem.now) c.requires.held

pub returns-clause-exchanges : goal.returns-clause-exchanges
returns-clause-exchanges g c =
    subst (λ ws. Exchanges (g.M.HoldCounts.memory c.args.mem.now) (g.M.HoldCounts.memory c.release.new.mem) (c.args.root ∷ roots c.args.segments.now) ws) (ap roots (sym c.set-former.ensures.segments))
    (former_given_up c.args.segments.now c.args.vsid c.args.root c.set-former.result c.set-former.ensures.former (g.M.HoldCounts.memory c.args.mem.now) (g.M.HoldCounts.memory c.release.new.mem) c.release.ensures.exchanges)
