use Rattle.std.proofs.Common.{◌≡◌, ◌+◌, ◌-◌, ◌≤◌, ◌∷◌, ◌++◌, decimal, flat_map, length}
use Rattle.hic_list.specs.Words.{digits_in, word_count}
use Rattle.hic_list.proofs.writing.put_path.Given as goal

abbrev pub invariant-loop : goal.invariant-loop
invariant-loop l = record {
  items : l.line.items ++ flat_map decimal (digits_in word_count (l.steps - l.counter) l.left)
      ≡ l.fn.line.items ++ 47 ∷ flat_map decimal (digits_in word_count l.steps l.path);
  len : length l.line.items ≤ length l.fn.line.items + 1 + l.counter;
}
