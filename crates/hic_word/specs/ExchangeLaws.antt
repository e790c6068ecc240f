-- Laws on two memories, one before calls and one after them.
use Rattle.std.specs.Prelude.{ℕ, ◌≤◌, List, IsSome}
use Rattle.hic_word.specs.declared.Word.{Word}
use Rattle.hic_word.specs.Width.{IsWidth}
use Rattle.hic_word.specs.Lists.{times}
use Rattle.hic_word.specs.Names.{names_in}
use Rattle.hic_word.specs.Memory.{Memory, line_at}
use Rattle.hic_word.specs.Holds.{Holds, IsLive}
use Rattle.hic_word.specs.Standing.{IsWithin, StandsAlike}
use Rattle.hic_word.specs.Exchanges.{KeepsLines}

-- where no id got another line, a word that is live in a memory that holds words stands there for what it stood for
abbrev pub LiveWordsStandOn : Type 0
LiveWordsStandOn = (w : ℕ) (old new : Memory) (H : List Word) (x : Word) → KeepsLines old new → Holds w new H → IsLive new x
    → StandsAlike w (line_at old) (line_at new) x

-- where no id got another line, and each id that is named by words that the old memory held is live in the new one, no
-- line has left
abbrev pub ReachedLinesStay : Type 0
ReachedLinesStay = (w : ℕ) (old new : Memory) (H K : List Word) → IsWidth w → KeepsLines old new → Holds w old H → Holds w new K
    → ((id : ℕ) → 1 ≤ times id (names_in H) → IsSome (line_at new id)) → IsWithin (line_at old) (line_at new)
