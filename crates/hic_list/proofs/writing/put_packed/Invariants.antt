use Rattle.std.proofs.Common.{◌≡◌, ℕ, ◌+◌, ◌-◌, ◌*◌, ◌≤◌, ◌∷◌, ◌++◌, decimal, flat_map, length}
use Rattle.hic_word.specs.Width.{pack_limit}
use Rattle.hic_list.specs.Texts.{separated}
use Rattle.hic_list.specs.Words.{digits_in, word_count}
use Rattle.hic_list.proofs.writing.put_packed.Given as goal

abbrev pub invariant-loop : goal.invariant-loop
invariant-loop l = record {
  items : l.line.items ++ flat_map (λ (n : ℕ). 44 ∷ decimal n) (digits_in (pack_limit word_count) (word_count - l.counter) l.left)
      ≡ l.fn.line.items ++ 91 ∷ separated (digits_in (pack_limit word_count) word_count l.bits);
  len : length l.line.items ≤ length l.fn.line.items + 6 * l.counter;
}
