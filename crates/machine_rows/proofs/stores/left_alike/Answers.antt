use Rattle.std.proofs.Common.{refl, arith}
use Rattle.machine_rows.proofs.stores.left_alike.Goals as goal

pub left_in_slots-requires-clause-blank : goal.left_in_slots-requires-clause-blank
left_in_slots-requires-clause-blank g c = record { named = refl; whole = refl; some = (let one = c.new.ensures in omega (arith, one)) }

pub left_in_buckets-requires-clause-blank : goal.left_in_buckets-requires-clause-blank
left_in_buckets-requires-clause-blank g c = record { named = refl; whole = refl; some = (let one = c.new-2.ensures in omega (arith, one)) }
