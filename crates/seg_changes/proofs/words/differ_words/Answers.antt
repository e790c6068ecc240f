use Rattle.std.proofs.Common.{◌≡◌, ◌+◌, ◌≤◌, length, refl, sym, ◌∙◌, subst, arith}
use Rattle.std.proofs.lemmas.Result.{MatchResult-from_err}
use Rattle.seg_changes.specs.ChangeList.{most_changes}
use Rattle.seg_changes.specs.Differing.{Adds, differ_from, raised_at}
use Rattle.seg_changes.proofs.EqualParts.{told_not}
use Rattle.seg_changes.proofs.LowestParts.{have_words, word_added, word_passed, word_wide}
use Rattle.seg_changes.proofs.words.differ_words.Goals as goal
use Rattle.seg_changes.proofs.words.differ_words.Goals.{then-not-same_word+in_ok-push, else-not-same_word}

-- another word, and no room for it
pub returns-in_err-push-clause-wide : goal.returns-in_err-push-clause-wide
returns-in_err-push-clause-wide c = MatchResult-from_err c.from_residual.result _ _ c.from_residual.ensures.0 (λ _ m A B u a b f g.
    let low = c.loop-place-test.true in
    let words = have_words c.loop-place.place u a b f g low c.word.ensures c.word-word.ensures in
    word_wide c.args.base words (told_not c.same_word.result c.same_word.ensures c.if-not-same_word.true) low (c.loop-place.invariant.differences m A B u a b f g) (c.in_err-push.ensures.wide.0 refl))

-- another word, which is put behind, or one and the same
pub loop-place-preserved : goal.loop-place-preserved
loop-place-preserved c = elim c.if-not-same_word.branch [
  | then-not-same_word+in_ok-push w ↦ record {
    differences = λ m A B u a b f g.
        let words = have_words c.loop-place.place u a b f g c.loop-place-test.true c.word.ensures c.word-word.ensures in
        subst (λ now. Adds m c.args.out.now now (raised_at c.args.base B (differ_from 0 (c.loop-place.place + 1) A B))) (sym (w.out-is ∙ w.in_ok-push.ensures.pairs))
        (word_added c.args.base words (told_not c.same_word.result c.same_word.ensures w.if-not-same_word.true) (c.loop-place.invariant.differences m A B u a b f g));
    few = subst (λ now. length now ≤ most_changes) (sym w.out-is) w.in_ok-push.ensures.few;
  }
  | else-not-same_word w ↦ record {
    differences = λ m A B u a b f g.
        let words = have_words c.loop-place.place u a b f g c.loop-place-test.true c.word.ensures c.word-word.ensures in
        subst (λ now. Adds m c.args.out.now now (raised_at c.args.base B (differ_from 0 (c.loop-place.place + 1) A B))) (sym w.out-is)
        (word_passed c.args.base words (c.same_word.ensures.0 w.if-not-same_word.false) (c.loop-place.invariant.differences m A B u a b f g));
    few = subst (λ now. length now ≤ most_changes) (sym w.out-is) c.loop-place.invariant.few;
  }
]

-- all four places
pub returns-clause-differences : goal.returns-clause-differences
returns-clause-differences c = λ m A B u a b f g.
    let past = c.loop-place-test.false in
    let end = c.loop-place.auto.place-end in
    let all : c.loop-place.place ≡ 4 = omega (arith, past, end) in
    subst (λ n. Adds m c.args.out.now c.loop-place.out (raised_at c.args.base B (differ_from 0 n A B))) all (c.loop-place.invariant.differences m A B u a b f g)
