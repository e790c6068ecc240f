use Rattle.std.proofs.Common.{arith, ◌∷◌}
use Rattle.std.proofs.lemmas.Result.{IfOk-weaker}
use Rattle.ref_counts.specs.Links.{leaf_of}
use Rattle.ref_counts.proofs.Linked.{leaf_held, leaf_made, leaf_stands, room_of}
use Rattle.line_rows.proofs.holds.leaf.Goals as goal

pub keep_line-requires-clause-held : goal.keep_line-requires-clause-held
keep_line-requires-clause-held g c = let (held, h, few) = c.requires.held in (held, leaf_held (g.M.HoldCounts.memory c.args.mem.now) held c.args.word _ _ _ c.num.ensures.value c.num-2.ensures.value c.num-3.ensures.value h)

pub keep_line-requires-clause-made : goal.keep_line-requires-clause-made
keep_line-requires-clause-made g c = (leaf_of c.requires.link.value, (leaf_stands _ c.args.word _ _ _ c.requires.link c.num.ensures.value c.num-2.ensures.value c.num-3.ensures.value, leaf_made _ c.args.word c.requires.link))

pub keep_line-requires-clause-room : goal.keep_line-requires-clause-room
keep_line-requires-clause-room g c = λ id e. let (held, h, few) = c.requires.held in room_of (g.M.HoldCounts.memory c.args.mem.now) (c.args.word ∷ held) (g.met.M.LineMem.sound c.args.mem.now) h (omega arith) id _ e

pub returns-clause-held : goal.returns-clause-held
returns-clause-held g c = IfOk-weaker c.keep_line.result _ _ (λ id kept held h. kept.holds held (leaf_held (g.M.HoldCounts.memory c.args.mem.now) held c.args.word _ _ _ c.num.ensures.value c.num-2.ensures.value c.num-3.ensures.value h)) c.keep_line.ensures.reshapes

pub returns-clause-stands : goal.returns-clause-stands
returns-clause-stands g c = IfOk-weaker c.keep_line.result _ _ (λ id stands link. stands (leaf_of link.value) (leaf_stands _ c.args.word _ _ _ link c.num.ensures.value c.num-2.ensures.value c.num-3.ensures.value, leaf_made _ c.args.word link)) c.keep_line.ensures.stands
