use Rattle.std.proofs.Common.{◌/◌, ◌%◌, ◌*◌, ◌^◌, ◌∙◌, ap}
use Rattle.hic_word.specs.declared.Kind.TheVariants.{Num}
use Rattle.hic_word.specs.Stands.{word_of}
use Rattle.seg_canon.proofs.Packing.{packed_number}
use Rattle.seg_canon.proofs.packed.number_at.Goals as goal

pub returns : goal.returns
returns g c = λ m ns small is. packed_number c.requires.wide m c.args.entry.bits c.args.place ns _ small is (c.num.ensures.value ∙ ap (λ l. word_of Num 0 (c.args.entry.bits / 2 ^ (64 / g.row.W * c.args.place) % l)) c.first_large.ensures)
