use Rattle.std.proofs.Common.{◌≡◌, ◌++◌, flat_map, Bor}
use Rattle.std.specs.Prelude.{option_to_list}
use Rattle.hic_word.specs.declared.Word.{Word}
use Rattle.hic_word.specs.Names.{named_id}
use Rattle.hic_list.proofs.walk.wait_for.Given as goal

abbrev pub invariant-loop-word : goal.invariant-loop-word
invariant-loop-word l = l.waiting.items ≡ l.fn.waiting.items ++ flat_map (λ (word : Bor Word). option_to_list (named_id word.now)) l.yielded
