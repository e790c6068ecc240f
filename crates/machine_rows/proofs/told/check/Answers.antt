use Rattle.std.proofs.Common.{refl, arith}
use Rattle.machine_rows.proofs.told.check.Goals as goal

pub run-requires-clause-blank : goal.run-requires-clause-blank
run-requires-clause-blank g c = record { named = refl; whole = refl; some = (let one = c.new.ensures in omega (arith, one)) }
