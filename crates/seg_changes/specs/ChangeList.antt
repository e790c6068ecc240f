-- Lists of pairs of an offset and a word.
use Rattle.std.specs.Prelude.{ℕ, zero, suc, List, [], ◌∷◌}
use Rattle.hic_word.specs.declared.Word.{Word}

-- the most pairs of a list
abbrev pub most_changes : ℕ
most_changes = 4096

-- the pairs, of which the k-th has this word: its offset stays, and all other pairs do
abbrev pub with_word : List (ℕ × Word) → ℕ → Word → List (ℕ × Word)
with_word [] k word = []
with_word (p ∷ ps) zero word = (p.0, word) ∷ ps
with_word (p ∷ ps) (suc k) word = p ∷ with_word ps k word
