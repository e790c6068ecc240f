use Rattle.std.proofs.Common.{[], arith}
use Rattle.hic_word.specs.Memory.{line_at}
use Rattle.ref_counts.proofs.Linked.{number_held, number_links, reference_held, reference_links}
use Rattle.line_rows.proofs.holds.chain.Goals as goal

pub loop-init : goal.loop-init
loop-init g c = record {
  held = number_held (g.M.HoldCounts.memory c.args.mem.now) c.num-word.result c.num-word.ensures.value c.requires;
  link = number_links (line_at (g.M.HoldCounts.memory c.args.mem.now)) c.num-word.result c.num-word.ensures.value;
}

pub leaf-requires-clause-held : goal.leaf-requires-clause-held
leaf-requires-clause-held g c = ([], c.loop.invariant.held, omega arith)

pub leaf-requires-clause-link : goal.leaf-requires-clause-link
leaf-requires-clause-link g c = c.loop.invariant.link

pub loop-preserved : goal.loop-preserved
loop-preserved g c = record {
  held = reference_held (g.M.HoldCounts.memory c.leaf.new.mem) [] c.reference-word.result 1 c.in_ok-leaf.field-0 c.reference-word.ensures (c.in_ok-leaf.ensures.held [] c.loop.invariant.held);
  link = reference_links (line_at (g.M.HoldCounts.memory c.loop.mem)) (line_at (g.M.HoldCounts.memory c.leaf.new.mem)) c.loop.word c.in_ok-leaf.field-0 c.loop.invariant.link (c.in_ok-leaf.ensures.stands c.loop.invariant.link) c.reference-word.result c.reference-word.ensures;
}

pub release-requires : goal.release-requires
release-requires g c = ([], c.loop.invariant.held)
