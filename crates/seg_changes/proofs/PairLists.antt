-- A word put into a pair.
use Rattle.std.proofs.Common.{◌≡◌, ℕ, zero, suc, List, [], ◌∷◌, slice_index_or, slice_set, refl, ap}
use Rattle.hic_word.specs.declared.Word.{Word}
use Rattle.seg_changes.specs.ChangeList.{with_word}

pub set_is : (ps : List (ℕ × Word)) (k : ℕ) (word : Word) (d : ℕ × Word) → slice_set ps k ((slice_index_or ps k d).0, word) ≡ with_word ps k word
set_is [] k word d = refl
set_is (p ∷ ps) zero word d = refl
set_is (p ∷ ps) (suc k) word d = ap (λ xs. p ∷ xs) (set_is ps k word d)
