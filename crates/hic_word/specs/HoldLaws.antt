-- Laws on a memory that holds words: how its calls change what it holds.
use Rattle.std.specs.Prelude.{◌≡◌, ℕ, ◌^◌, ◌<◌, ◌≤◌, List, [], ◌∷◌, ◌++◌, Some, None, option_to_list}
use Rattle.std.specs.FinMap as map
use Rattle.hic_word.specs.declared.Word.{Word}
use Rattle.hic_word.specs.Lists.{times}
use Rattle.hic_word.specs.Entries.{LineValue, Named}
use Rattle.hic_word.specs.Canon.{IsMade}
use Rattle.hic_word.specs.Names.{NamedAlike, named_id, names_in}
use Rattle.hic_word.specs.Memory.{Layout, Memory, count_at, line_at}
use Rattle.hic_word.specs.MemorySteps.{Interns, Pops, empty_memory, with_hold, without_holds}
use Rattle.hic_word.specs.Stands.{EntryFor, LineFor, node_word}
use Rattle.hic_word.specs.Standing.{IsStanding, IsWithin, StandEach}
use Rattle.hic_word.specs.Balanced.{IsBalanced}
use Rattle.hic_word.specs.Holds.{Holds, IsLive}
use Rattle.hic_word.specs.Freeing.{IsFreeing}

-- where each word of H stands for something, a memory that is balanced for H holds H
abbrev pub StandingWordsAreHeld : Type 0
StandingWordsAreHeld = (w : ℕ) (m : Memory) (H : List Word) → IsBalanced w m H → StandEach w (line_at m) H → Holds w m H

-- what a word names that stands for something is live
abbrev pub StandingWordsAreLive : Type 0
StandingWordsAreLive = (w : ℕ) (m : Memory) (x : Word) → IsStanding w (line_at m) x → IsLive m x

-- what a memory holds is seen only by how often each id is named
abbrev pub HoldingIsByCounts : Type 0
HoldingIsByCounts = (w : ℕ) (m : Memory) (H K : List Word) → NamedAlike H K → Holds w m H → Holds w m K

-- a memory without a line holds nothing
abbrev pub EmptyMemoryHoldsNothing : Type 0
EmptyMemoryHoldsNothing = (w : ℕ) (layout : Layout) → Holds w (empty_memory layout) []

-- a word more is held: with one hold more on what it names, or as it is where it names nothing
pub record HoldsWord (w : ℕ) (m : Memory) (H : List Word) (x : Word) : Type 0 where
  pub some : (id : ℕ) → named_id x ≡ Some id → Holds w (with_hold m id) (x ∷ H)
  pub none : named_id x ≡ None → Holds w m (x ∷ H)

abbrev pub OneWordMoreIsHeld : Type 0
OneWordMoreIsHeld = (w : ℕ) (m : Memory) (H : List Word) (x : Word) → Holds w m H → IsLive m x → HoldsWord w m H x

-- from a memory that holds P and H to one that holds H: it starts with all of P to be given up, each step gives up a
-- word or pops a line whose words are to be given up, and it ends where nothing is left to give up and no id is dead
pub record Frees (w : ℕ) (old : Memory) (P H : List Word) : Type 0 where
  pub start : IsFreeing old old H P
  pub enough : (m : Memory) (Q : List Word) → IsFreeing old m H Q → (id : ℕ) → times id (names_in Q) ≤ count_at m id
  pub word : (m : Memory) (x : Word) (Q : List Word) → IsFreeing old m H (x ∷ Q) → IsFreeing old (without_holds m (option_to_list (named_id x))) H Q
  pub words : (m : Memory) (Q : List Word) → IsFreeing old m H Q → IsFreeing old (without_holds m (names_in Q)) H []
  pub popped : (m new : Memory) (line : List Word) → IsFreeing old m H [] → Pops m line new → IsFreeing old new H line
  pub fewer : (m new : Memory) (line : List Word) → Pops m line new → map.len new.lines < map.len m.lines
  pub end : (m : Memory) → IsFreeing old m H [] → m.dead ≡ [] → Holds w m H

abbrev pub HoldsAreGivenUp : Type 0
HoldsAreGivenUp = (w : ℕ) (old : Memory) (P H : List Word) → Holds w old (P ++ H) → Frees w old P H

-- holds that are given up leave the lines as they are
abbrev pub LinesOutlastHolds : Type 0
LinesOutlastHolds = (m : Memory) (ids : List ℕ) → (without_holds m ids).lines ≡ m.lines

-- a line that was interned is held by the word of its id in place of its words; no line is lost, and the word stands for
-- the line's value
pub record HoldsLine (w : ℕ) (old : Memory) (H : List Word) (line : List Word) (L : LineValue) (id : ℕ) (new : Memory) : Type 0 where
  pub holds : Holds w new (node_word id ∷ H)
  pub within : IsWithin (line_at old) (line_at new)
  pub there : line_at new id ≡ Some line
  pub stands : EntryFor w (line_at new) (node_word id) (Named L [])

abbrev pub InternedLineIsHeld : Type 0
InternedLineIsHeld = (w : ℕ) (old new : Memory) (H : List Word) (line : List Word) (L : LineValue) (id : ℕ) → id < 2 ^ 24
    → Holds w old (line ++ H) → LineFor w (line_at old) line L → IsMade w L → Interns old line id new → HoldsLine w old H line L id new

-- the holds of words that a memory holds are there to be given up
abbrev pub HeldWordsAreCounted : Type 0
HeldWordsAreCounted = (w : ℕ) (m : Memory) (P H : List Word) → Holds w m (P ++ H) → (id : ℕ) → times id (names_in P) ≤ count_at m id
