use Rattle.std.proofs.Common.{[], ◌∷◌, sym, ap, ◌∙◌, refl}
use Rattle.hic_word.specs.Names.{names_in}
use Rattle.seg_canon.proofs.Filling.{names_nowhere}
use Rattle.seg_canon.proofs.Folding.{empty_words, leaf_form, pack_form}
use Rattle.seg_canon.proofs.folded.fold_words.Goals as goal

pub returns-in-Nowhere-clause-form : goal.returns-in-Nowhere-clause-form
returns-in-Nowhere-clause-form g c = let (zs, t, f) = c.filled_in.ensures in λ m A a w. empty_words m c.args.words.now A zs a w t (sym f ∙ c.in-Nowhere.is)

pub returns-in-Nowhere-clause-names : goal.returns-in-Nowhere-clause-names
returns-in-Nowhere-clause-names g c = let (zs, t, f) = c.filled_in.ensures in names_nowhere c.args.words.now zs t (sym f ∙ c.in-Nowhere.is)

pub returns-in-Some : goal.returns-in-Some
returns-in-Some g c =
    let (zs, t, f) = c.filled_in.ensures in
    record {
      form = λ m A a w. pack_form m c.args.words.now A zs _ c.in-Some.bits w t (λ n. c.in_default.not-Nowhere (f ∙ n)) c.pack.ensures (c.in-Some.ensures.numbers m _ w);
      names = c.in-Some.ensures.names ∙ sym (ap (λ x. names_in (x ∷ [])) c.pack.ensures);
    }

pub returns-in-None : goal.returns-in-None
returns-in-None g c =
    let (zs, t, f) = c.filled_in.ensures in
    record {
      form = λ m A a w. leaf_form m c.args.words.now A zs w t (λ n. c.in_default.not-Nowhere (f ∙ n)) (c.in-None.ensures.numbers m _ w);
      names = refl;
    }
