use Rattle.std.proofs.Common.{refl, arith}
use Rattle.hicamp.proofs.top.run_demo.Goals as goal

pub run_object-requires-clause-blank : goal.run_object-requires-clause-blank
run_object-requires-clause-blank g c = record { named = refl; whole = refl; some = (let one = c.new.ensures in omega (arith, one)) }
