use Rattle.std.proofs.Common.{refl}
use Rattle.merge_update.proofs.Replacing.{new_held, new_installed, new_stands}
use Rattle.merge_update.proofs.install.install.Goals as goal

pub replace-requires-clause-held : goal.replace-requires-clause-held
replace-requires-clause-held g c = new_held c.args.segments.now c.args.vsid c.in_ok-new.new c.in_ok-new.ensures.reshapes c.requires.held

pub returns-clause-updates : goal.returns-clause-updates
returns-clause-updates g c = λ A L can. record {
  tells = refl;
  has = (
    c.in_ok-new.new,
    c.replace.ensures.segments,
    new_stands c.args.segments.now c.args.vsid c.in_ok-new.new c.in_ok-new.ensures.reshapes (g.M.HoldCounts.memory c.replace.new.mem) c.replace.new.segments c.requires.there c.replace.ensures.segments c.replace.ensures.exchanges c.requires.held _ (c.in_ok-new.ensures.stands A L can),
  );
}

pub returns-clause-reshapes : goal.returns-clause-reshapes
returns-clause-reshapes g c = new_installed c.args.segments.now c.args.vsid c.in_ok-new.new c.in_ok-new.ensures.reshapes _ c.replace.new.segments c.replace.ensures.exchanges

pub returns-clause-looks : goal.returns-clause-looks
returns-clause-looks g c = λ A L can. rw c.replace.ensures.looks (c.apply.ensures.looks A L can)
