-- Words that a memory holds in place of others, while lines come and none is lost.
use Rattle.std.specs.Prelude.{◌≡◌, ℕ, List}
use Rattle.hic_word.specs.declared.Word.{Word}
use Rattle.hic_word.specs.Exchanges.{CountsRise, PassesHolds}
use Rattle.hic_word.specs.Memory.{Memory, line_at}
use Rattle.hic_word.specs.Standing.{IsWithin}

-- some words are held in place of others, and no line is lost
pub record Passes (old new : Memory) (given_up taken : List Word) : Type 0 where
  pub holds : PassesHolds old new given_up taken
  pub lines : IsWithin (line_at old) (line_at new)
  pub layout : new.layout ≡ old.layout

-- the same, where no count rises by more than n
pub record Trades (old new : Memory) (given_up taken : List Word) (n : ℕ) : Type 0 where
  pub passes : Passes old new given_up taken
  pub counts : CountsRise n old new
