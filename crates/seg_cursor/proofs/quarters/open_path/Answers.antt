use Rattle.std.proofs.Common.{◌%◌, sym, ap, ◌∙◌, subst, refl, true, arith}
use Rattle.hic_word.specs.declared.Word.{Word}
use Rattle.seg_read.specs.Founds.{IsFirst, word_in}
use Rattle.seg_cursor.specs.Pieces.{AreReached, OpensTo}
use Rattle.seg_cursor.proofs.Opening.{path_opens, path_reached}
use Rattle.seg_cursor.proofs.Words.{first_alone, word_alone}
use Rattle.seg_cursor.proofs.quarters.open_path.Goals as goal

pub returns-clause-opens : goal.returns-clause-opens
returns-clause-opens c = λ m k A n f. subst (λ words. OpensTo m true words k A n) (sym c.set_alone.ensures)
    (path_opens k A n c.path_of.result _ c.shorter-below.result f c.requires.0 c.path_of.ensures refl c.requires.1 c.shorter-below.ensures)

pub returns-clause-reached : goal.returns-clause-reached
returns-clause-reached c = λ m root k A n f r. subst (AreReached m root) (sym c.set_alone.ensures)
    (path_reached k A n c.path_of.result _ c.shorter-below.result f c.requires.0 c.path_of.ensures refl c.requires.1 c.shorter-below.ensures r)

pub returns-clause-first : goal.returns-clause-first
returns-clause-first c = subst (λ words. IsFirst words 0 (c.path_of.result % 4)) (sym c.set_alone.ensures)
    (first_alone (c.path_of.result % 4) c.shorter-below.result (omega arith) (λ none. let node = ap (λ (w : Word). w.kind) (sym c.shorter-below.ensures ∙ none) in cc))

pub returns-clause-word : goal.returns-clause-word
returns-clause-word c = word_alone (c.path_of.result % 4) c.shorter-below.result (omega arith) ∙ ap (λ words. word_in words (c.path_of.result % 4)) (sym c.set_alone.ensures)
