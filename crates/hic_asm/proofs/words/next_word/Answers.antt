use Rattle.std.proofs.Common.{take, drop, ap, sym, ◌∙◌, ◌∷◌, ◌≡◌}
use Rattle.std.proofs.lemmas.Bool.{eqb-true, eqb-false}
use Rattle.hic_asm.specs.Words.{words}
use Rattle.hic_asm.proofs.WordLaws.{words-next, words-end, words-shorter}
use Rattle.hic_asm.proofs.words.next_word.Goals as goal

pub returns-then-is_empty-clause-word : goal.returns-then-is_empty-clause-word
returns-then-is_empty-clause-word c =
    words-end c.args.text.now c.after_blanks-left.result.now c.after_blanks-left.ensures (eqb-true _ 0 (sym c.is_empty.ensures ∙ c.if-is_empty.true))

pub returns-clause-word : goal.returns-clause-word
returns-clause-word c =
    let left = c.after_blanks-left.result.now in
    let cut : words c.args.text.now ≡ take c.word_len.result left ∷ words (drop c.word_len.result left) = words-next c.args.text.now left c.word_len.result c.after_blanks-left.ensures c.word_len.ensures.len (eqb-false _ 0 (sym c.is_empty.ensures ∙ c.if-is_empty.false)) in
    cut ∙ ap (λ word. word ∷ words (drop c.word_len.result left)) (sym c.split_at.ensures.front) ∙ ap (λ rest. c.split_at.result.0.now ∷ words rest) (sym c.split_at.ensures.back)

pub returns-clause-shorter : goal.returns-clause-shorter
returns-clause-shorter c =
    words-shorter c.args.text.now c.after_blanks-left.result.now c.split_at.result.1.now c.word_len.result c.after_blanks-left.ensures c.word_len.ensures.len c.split_at.ensures.back (eqb-false _ 0 (sym c.is_empty.ensures ∙ c.if-is_empty.false))
