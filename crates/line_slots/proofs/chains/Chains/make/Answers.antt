use Rattle.std.proofs.Common.{◌≡◌, ℕ, List, [], map, ap}
use Rattle.line_slots.specs.declared.chains.Link.{Link}
use Rattle.line_slots.specs.ChainLists.{empty_chains}
use Rattle.line_slots.specs.ChainLinks.{chains_of, first_in}
use Rattle.line_slots.proofs.chains.Chains.make.Goals as goal

seen : (heads : List ℕ) (links : List Link) (slots : ℕ) → heads ≡ [] → chains_of (map first_in heads) links slots ≡ empty_chains slots
seen heads links slots h = ap (λ hs. chains_of (map first_in hs) links slots) h

pub returns : goal.returns
returns c = seen c.in_ok-heads.heads.items c.in_ok-links.links.items c.args.slots c.in_ok-heads.ensures.items
