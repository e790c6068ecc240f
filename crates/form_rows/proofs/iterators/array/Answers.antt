use Rattle.std.proofs.Common.{[], ap, arith}
use Rattle.hic_word.specs.declared.Kind.TheVariants.{RefNode}
use Rattle.hic_word.specs.Memory.{line_at}
use Rattle.hic_word.specs.Stands.{word_of}
use Rattle.ref_counts.specs.Links.{leaf_of}
use Rattle.ref_counts.proofs.Linked.{leaf_held, leaf_made, leaf_stands, number_held, number_links, reference_held, room_of}
use Rattle.form_rows.proofs.iterators.array.Goals as goal

pub keep_line-requires-clause-held : goal.keep_line-requires-clause-held
keep_line-requires-clause-held g c = ([], leaf_held (g.M.HoldCounts.memory c.args.mem.now) [] c.num.result _ _ _ c.num-2.ensures.value c.num-3.ensures.value c.num-4.ensures.value (number_held (g.M.HoldCounts.memory c.args.mem.now) c.num.result c.num.ensures.value c.requires))

pub keep_line-requires-clause-made : goal.keep_line-requires-clause-made
keep_line-requires-clause-made g c =
    let link = number_links (line_at (g.M.HoldCounts.memory c.args.mem.now)) c.num.result c.num.ensures.value in
    (leaf_of link.value, (leaf_stands (line_at (g.M.HoldCounts.memory c.args.mem.now)) c.num.result _ _ _ link c.num-2.ensures.value c.num-3.ensures.value c.num-4.ensures.value, leaf_made (line_at (g.M.HoldCounts.memory c.args.mem.now)) c.num.result link))

pub keep_line-requires-clause-room : goal.keep_line-requires-clause-room
keep_line-requires-clause-room g c = λ id e. room_of (g.M.HoldCounts.memory c.args.mem.now) [] (g.met.M.LineMem.sound c.args.mem.now) c.requires (omega arith) id _ e

pub returns : goal.returns
returns g c = reference_held (g.M.HoldCounts.memory c.keep_line.new.mem) [] _ 1 c.in_ok-id.id (ap (λ n. word_of RefNode 1 n) c.get.ensures.value)
    (c.in_ok-id.ensures.reshapes.holds [] (leaf_held (g.M.HoldCounts.memory c.args.mem.now) [] c.num.result _ _ _ c.num-2.ensures.value c.num-3.ensures.value c.num-4.ensures.value (number_held (g.M.HoldCounts.memory c.args.mem.now) c.num.result c.num.ensures.value c.requires)))
