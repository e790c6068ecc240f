use Rattle.std.proofs.Common.{Some, sym, ap, ◌∙◌, arith}
use Rattle.std.proofs.lemmas.List.{length-set}
use Rattle.hic_word.specs.declared.Word.{Word}
use Rattle.line_slots.specs.Contents.{line_of}
use Rattle.line_slots.specs.Tags.{words_of}
use Rattle.line_slots.proofs.Filling.{filled_all, filled_more, same_words, word_there}
use Rattle.line_slots.proofs.content.Content.line.Goals as goal

pub loop-place-preserved : goal.loop-place-preserved
loop-place-preserved g c =
    let long = c.loop-place.invariant.long in
    let bits = c.args.self.now.long in
    let tags = c.args.self.now.tagged in
    record {
      long = length-set c.loop-place.w _ _ ∙ long;
      done = filled_more c.loop-place.w (words_of c.args.self.now.bits c.args.self.now.tags) c.loop-place.place c.word_of.result (omega (arith, long))
          (word_there c.args.self.now.bits c.args.self.now.tags c.loop-place.place _ _ (omega (arith, bits)) (omega (arith, tags)) ∙ ap (λ (word : Word). Some word) (sym c.word_of.ensures))
          c.loop-place.invariant.done;
    }

pub returns : goal.returns
returns g c =
    let long = c.loop-place.invariant.long in
    same_words _ (line_of c.args.self.now) (filled_all c.loop-place.w (words_of c.args.self.now.bits c.args.self.now.tags) (long ∙ sym (line_of c.args.self.now).long) (λ j h. c.loop-place.invariant.done j (omega (arith, long))))
