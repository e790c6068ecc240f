use Rattle.std.proofs.Common.{◌≡◌, ◌+◌, ◌*◌, ◌≤◌, ◌∷◌, ◌++◌, decimal, flat_map, length, take}
use Rattle.hic_word.specs.declared.Word.{Word}
use Rattle.hic_list.specs.Words.{word_text}
use Rattle.hic_list.proofs.lines.put_line.Given as goal

abbrev pub invariant-loop-word : goal.invariant-loop-word
invariant-loop-word l = record {
  items : l.line.items ≡ (l.fn.line.items ++ ((35 ∷ decimal l.number) ++ 32 ∷ 110 ∷ decimal l.count)) ++ flat_map (λ (word : Word). 32 ∷ word_text l.numbers word) (take l.word-index l.words);
  len : length l.line.items ≤ 33 + 51 * l.word-index;
}
