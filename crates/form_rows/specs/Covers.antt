-- What the tests keep of a memory in which they store parts.
use Rattle.std.specs.Prelude.{◌≡◌, ℕ, ◌+◌, ◌≤◌, List, [], ◌∷◌}
use Rattle.hic_word.specs.declared.Word.{Word}
use Rattle.hic_word.specs.Lists.{times}
use Rattle.hic_word.specs.Names.{names_in}
use Rattle.hic_word.specs.Memory.{Memory, count_at}

-- there is a hold for each word that names a line
abbrev pub Covers : Memory → List Word → Type 0
Covers m words = (id : ℕ) → times id (names_in words) ≤ count_at m id

-- a word is kept that needs a hold of its own: no id is dead, the holds that were there are there, and no count has grown
-- by more than 1
pub record Keeps (old : Memory) (word : Word) (new : Memory) : Type 0 where
  pub no_dead : new.dead ≡ []
  pub covers : (words : List Word) → Covers old words → Covers new (word ∷ words)
  pub counts : (most : ℕ) → ((id : ℕ) → count_at old id ≤ most) → (id : ℕ) → count_at new id ≤ most + 1
