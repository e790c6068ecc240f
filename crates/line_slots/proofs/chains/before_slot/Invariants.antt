use Rattle.std.proofs.Common.{◌≡◌, ℕ, List, ◌∷◌, ◌++◌, length}
use Rattle.hic_word.specs.Lists.{In}
use Rattle.line_slots.specs.ChainLinks.{members, Ends}
use Rattle.line_slots.proofs.chains.before_slot.Given as goal

abbrev pub invariant-loop-at : goal.invariant-loop-at
invariant-loop-at l = record {
  split : (xs : List ℕ) × (members l.links l.first ≡ xs ++ l.before ∷ members l.links l.at);
  ends : Ends l.links l.at;
  there : In l.slot (members l.links l.at);
}

abbrev pub decreases-loop-at : goal.decreases-loop-at
decreases-loop-at l = length (members l.links l.at)
