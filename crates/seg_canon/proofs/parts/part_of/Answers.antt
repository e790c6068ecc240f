use Rattle.std.proofs.Common.{◌≤◌, ap, sym, ◌∙◌, arith}
use Rattle.hic_word.specs.Names.{named_id}
use Rattle.seg_canon.proofs.RootParts.{empty_root, empty_root_part, root_part}
use Rattle.seg_canon.proofs.parts.part_of.Goals as goal

pub returns-then-root-eq0-clause-part : goal.returns-then-root-eq0-clause-part
returns-then-root-eq0-clause-part g c = λ m H v f. empty_root_part c.requires.wide c.args.top c.num.result f c.if-root-eq0.true c.requires.positive c.requires.low c.num.ensures.value

pub returns-then-root-eq0-clause-names : goal.returns-then-root-eq0-clause-names
returns-then-root-eq0-clause-names g c = λ m H f. ap named_id c.num.ensures.value ∙ sym (empty_root f c.if-root-eq0.true).1

pub returns-else-root-eq0-clause-part : goal.returns-else-root-eq0-clause-part
returns-else-root-eq0-clause-part g c = λ m H v f.
    let some : 1 ≤ c.args.root.height = omega arith in
    root_part c.requires.wide c.args.top c.entry_of.result v f some c.requires.high c.requires.low (c.entry_of.ensures.entry m H some f)

pub returns-else-root-eq0-clause-names : goal.returns-else-root-eq0-clause-names
returns-else-root-eq0-clause-names g c = λ m H f. let some : 1 ≤ c.args.root.height = omega arith in c.entry_of.ensures.names m H some f
