use Rattle.hic_list.specs.UnderWay.{lines_from, text_of}
use Rattle.hicamp.proofs.PieceLaws.{PutSoFar}
use Rattle.hicamp.proofs.telling.put_listing.Given as goal

abbrev pub invariant-loop-number : goal.invariant-loop-number
invariant-loop-number g l = PutSoFar (g.H.Host.state l.fn.host) (g.H.Host.state l.host) l.out (text_of l.machine.plain l.listing) (lines_from l.machine.plain l.number)
