use Rattle.std.proofs.Common.{length}
use Rattle.line_store.specs.Entries.{rest_from}
use Rattle.line_store.specs.Index.{chain_for}
use Rattle.line_store.proofs.Searching.{Searches}
use Rattle.line_store.proofs.search.find_line.Given as goal

abbrev pub invariant-loop-next : goal.invariant-loop-next
invariant-loop-next g l = Searches l.slots (chain_for l.index.bits l.index.chains l.key) l.key l.line l.next l.initial.steps l.steps

abbrev pub decreases-loop-next : goal.decreases-loop-next
decreases-loop-next g l = length (rest_from l.next (chain_for l.index.bits l.index.chains l.key))
