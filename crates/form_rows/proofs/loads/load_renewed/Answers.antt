use Rattle.std.proofs.Common.{subst, sym}
use Rattle.form_rows.specs.OneLine.{IsOneLine}
use Rattle.form_rows.proofs.Loading.{renewed_line, renewed_usable}
use Rattle.form_rows.proofs.loads.load_renewed.Goals as goal

pub renew-requires-clause-held : goal.renew-requires-clause-held
renew-requires-clause-held g c = c.requires.usable.0

pub load_at-requires-clause-usable : goal.load_at-requires-clause-usable
load_at-requires-clause-usable g c =
    let (A, stands) = c.requires.root in
    renewed_usable (g.M.HoldCounts.memory c.args.mem.now) (g.M.HoldCounts.memory c.renew.new.mem) c.args.root A stands c.args.reg.now c.renew.new.self c.renew.ensures.open c.renew.ensures.exchanges c.requires.usable

pub load_at-requires-clause-line : goal.load_at-requires-clause-line
load_at-requires-clause-line g c = subst IsOneLine (sym c.renew.ensures.open) (renewed_line c.args.reg.now c.args.root c.requires.height)
