use Rattle.std.proofs.Common.{sym, ◌∙◌, refl, arith}
use Rattle.seg_canon.proofs.Filling.{names_nowhere, place_below}
use Rattle.seg_canon.proofs.Folding.{alone_form, empty_form, longer_names, path_form, several_form}
use Rattle.seg_canon.proofs.folded.fold_entries.Goals as goal

pub offset_bounds-entries-place : goal.offset_bounds-entries-place
offset_bounds-entries-place g c = let (zs, t, f) = c.filled_in.ensures in let below = place_below c.args.entries.now zs c.in-At.place t (sym f ∙ c.in-At.is) in omega (arith, below)

pub bounds-entries-place : goal.bounds-entries-place
bounds-entries-place g c = let (zs, t, f) = c.filled_in.ensures in let below = place_below c.args.entries.now zs c.in-At.place t (sym f ∙ c.in-At.is) in omega (arith, below)

pub returns-in-Nowhere-clause-form : goal.returns-in-Nowhere-clause-form
returns-in-Nowhere-clause-form g c = let (zs, t, f) = c.filled_in.ensures in λ m h A high a p. empty_form c.requires.wide m c.args.entries.now zs high a p t (sym f ∙ c.in-Nowhere.is)

pub returns-in-Nowhere-clause-names : goal.returns-in-Nowhere-clause-names
returns-in-Nowhere-clause-names g c = let (zs, t, f) = c.filled_in.ensures in names_nowhere c.args.entries.now zs t (sym f ∙ c.in-Nowhere.is)

pub returns-in-Node-clause-form : goal.returns-in-Node-clause-form
returns-in-Node-clause-form g c =
    let (zs, t, f) = c.filled_in.ensures in
    let at = sym f ∙ c.in-At.is in
    λ m h A high a p. path_form c.requires.wide m c.args.entries.now zs high a p t c.in-At.place _ c.longer.result at (place_below c.args.entries.now zs c.in-At.place t at) c.in-Node.is c.longer.ensures.value

pub returns-in-Node-clause-names : goal.returns-in-Node-clause-names
returns-in-Node-clause-names g c = let (zs, t, f) = c.filled_in.ensures in longer_names g.row.W c.args.entries.now zs c.in-At.place _ c.longer.result t (sym f ∙ c.in-At.is) c.in-Node.is c.longer.ensures.value

pub returns-in_default : goal.returns-in_default
returns-in_default g c =
    let (zs, t, f) = c.filled_in.ensures in
    let at = sym f ∙ c.in-At.is in
    record {
      form = λ m h A high a p. alone_form c.requires.wide m c.args.entries.now zs high a p t c.in-At.place _ at (place_below c.args.entries.now zs c.in-At.place t at) (λ k. c.in_default.not-Node k);
      names = refl;
    }

pub returns-in-Several-clause-form : goal.returns-in-Several-clause-form
returns-in-Several-clause-form g c = let (zs, t, f) = c.filled_in.ensures in λ m h A high a p. several_form c.requires.wide m c.args.entries.now zs high a p t (sym f ∙ c.in-Several.is)
