use Rattle.std.proofs.Common.{ℕ, ◌+◌, ◌-◌, ◌∷◌, ◌++◌, decimal, arith}
use Rattle.hic_word.specs.Width.{pack_limit}
use Rattle.hic_list.specs.Texts.{separated}
use Rattle.hic_list.specs.Words.{digits_in, word_count}
use Rattle.hic_list.proofs.Appending.{digits-turn}
use Rattle.hic_list.proofs.writing.put_packed.Goals as goal

pub loop-preserved : goal.loop-preserved
loop-preserved c = record {
  items = digits-turn (λ (n : ℕ). 44 ∷ decimal n) (pack_limit word_count) (word_count - c.loop.counter) (word_count - (c.loop.counter + 1)) c.loop.left c.loop.line.items c.put_number-in-loop.new.line.items (c.args.line.now.items ++ 91 ∷ separated (digits_in (pack_limit word_count) word_count c.args.bits)) (omega arith) c.loop.invariant.items c.put_number-in-loop.ensures.items;
  len = omega arith;
}
