use Rattle.std.proofs.Common.{is_some, sym, ap, ◌∙◌}
use Rattle.hic_asm.specs.Assembly.{in_line}
use Rattle.hic_asm.specs.Seen.{seen_of}
use Rattle.hic_asm.proofs.LabelLaws.{labels_of, labels_of-insert, defined_by-label, label_absent}
use Rattle.hic_asm.proofs.assembler.Assembler.define_label.Goals as goal

pub returns : goal.returns
returns c =
    let s = seen_of c.args.self.now in
    let new = sym c.is_some.ensures ∙ c.if-is_some.false in
    let absent = label_absent s.labels c.args.name.now c.index_of.result c.index_of.ensures new in
    let entries = ap labels_of c.in_ok-insert.ensures.entries ∙ labels_of-insert c.args.self.now.labels.entries c.args.name c.args.self.now.code absent in
    ap (in_line c.args.number) (defined_by-label s c.args.name (labels_of c.insert.new.self.entries) (ap is_some (sym c.index_of.ensures) ∙ new) entries)
