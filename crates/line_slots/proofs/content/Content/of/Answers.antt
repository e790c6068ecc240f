use Rattle.std.proofs.Common.{sym, ◌∙◌, arith}
use Rattle.std.proofs.lemmas.List.{length-set}
use Rattle.line_slots.specs.Tags.{length-words, words_of}
use Rattle.line_slots.proofs.Filling.{filled_all, same_words, word_filled}
use Rattle.line_slots.proofs.content.Content.of.Goals as goal

pub loop-place-preserved : goal.loop-place-preserved
loop-place-preserved g c =
    let bits = c.loop-place.invariant.long in
    let tags = c.loop-place.invariant.tagged in
    let words = length-words c.loop-place.bits c.loop-place.tags bits tags in
    let line = c.args.line.now.long in
    record {
      long = length-set c.loop-place.bits _ _ ∙ bits;
      tagged = length-set c.loop-place.tags _ _ ∙ tags;
      done = word_filled c.loop-place.bits c.loop-place.tags c.args.line.now.w c.loop-place.place _ _ c.tag_of.ensures (omega (arith, words)) (omega (arith, line)) c.loop-place.invariant.done;
    }

pub returns : goal.returns
returns g c =
    let words = length-words c.loop-place.bits c.loop-place.tags c.loop-place.invariant.long c.loop-place.invariant.tagged in
    same_words _ c.args.line.now (filled_all (words_of c.loop-place.bits c.loop-place.tags) c.args.line.now.w (words ∙ sym c.args.line.now.long) (λ j h. c.loop-place.invariant.done j (omega (arith, words))))
