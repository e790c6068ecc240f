-- A walk over lines: those that have numbers, and those that wait, the next one first.
use Rattle.std.specs.Prelude.{◌≡◌, ◌⊎◌, ℕ, ◌+◌, ◌<◌, Bool, true, false, ◌||◌, List, [], ◌∷◌, ◌++◌, flat_map, reverse, slice_get, take, Some}
use Rattle.hic_word.specs.declared.Word.{Word}
use Rattle.hic_word.specs.Lists.{In}
use Rattle.hic_word.specs.Values.{Array, IsArray}
use Rattle.hic_word.specs.Entries.{LineValue}
use Rattle.hic_word.specs.Lines.{lines, visits}
use Rattle.hic_word.specs.Same.{same}
use Rattle.hic_word.specs.Memory.{Memory, line_at, width}
use Rattle.hic_word.specs.InMemory.{RootIn}
use Rattle.hic_word.specs.Stands.{IdFor, Lookup, Unique}
use Rattle.hic_word.specs.BalanceLaws.{Corresponds}
use Rattle.hic_word.proofs.callers.Lines.{rank, top_rank}

-- ids stand for line values, one by one
abbrev pub IdsFor : ℕ → Lookup → List ℕ → List LineValue → Type 0
IdsFor w m [] [] = Unit {0}
IdsFor w m [] (L ∷ Ls) = ⊥
IdsFor w m (id ∷ ids) [] = ⊥
IdsFor w m (id ∷ ids) (L ∷ Ls) = IdFor w m id L × IdsFor w m ids Ls

abbrev pub is_in : LineValue → List LineValue → Bool
is_in L [] = false
is_in L (K ∷ Ks) = same K L || is_in L Ks

-- a line value behind others, unless it is there
abbrev pub put_unless : Bool → List LineValue → LineValue → List LineValue
put_unless true Ds L = Ds
put_unless false Ds L = Ds ++ L ∷ []

-- line values behind others, each that is not there at its first place
abbrev pub added : List LineValue → List LineValue → List LineValue
added Ds [] = Ds
added Ds (L ∷ Ls) = added (put_unless (is_in L Ds) Ds L) Ls

-- enough levels for the visits of these line values
abbrev pub whole_visits : ℕ → List LineValue → LineValue → List LineValue
whole_visits w Ws L = visits w (top_rank Ws) L

-- What is reached from a line with a number has one too, or is reached from those that wait in front. These have a lower
-- rank, so the line itself is not among them.
pub record IsPending (w : ℕ) (Ws Ds Ks : List LineValue) (L : LineValue) : Type 0 where
  pub front : List LineValue
  pub rest : List LineValue
  pub waiting : Ks ≡ front ++ rest
  pub lower : (K : LineValue) → In K front → rank K < rank L
  pub reached : (M : LineValue) → In M (whole_visits w Ws L) → In M Ds ⊎ In M (flat_map (whole_visits w Ws) front)

-- Ds have numbers, Ks wait, and when all of these were visited, those with numbers are Ws
pub record IsWalk (w : ℕ) (Ws Ds Ks : List LineValue) : Type 0 where
  pub ends : added Ds (flat_map (whole_visits w Ws) Ks) ≡ Ws
  pub numbered : (L : LineValue) → In L Ds → In L Ws
  pub waiting : (K : LineValue) → In K Ks → In K Ws
  pub pending : (L : LineValue) → In L Ds → IsPending w Ws Ds Ks L

-- ---- a walk over the lines of a memory

-- arrays that are valid
abbrev pub AreArrays : List Array → Type 0
AreArrays [] = Unit {0}
AreArrays (A ∷ As) = IsArray A × AreArrays As

-- a memory without equal lines, whose lines are those of the arrays R
pub record HasLines (m : Memory) (R : List Array) : Type 0 where
  pub unique : Unique (line_at m)
  pub valid : AreArrays R
  pub exact : Corresponds (width m) m R

-- the ids stand for the lines of the first k arrays of R, in their order
abbrev pub AreNumbered : Memory → List Array → ℕ → List ℕ → Type 0
AreNumbered m R k ids = IdsFor (width m) (line_at m) ids (lines (width m) (take k R))

-- a root of array k of R is to be visited, where those before were
pub record IsNext (m : Memory) (R : List Array) (k : ℕ) (ids : List ℕ) (root : Word) : Type 0 where
  pub lists : HasLines m R
  pub array : Array
  pub there : slice_get R k ≡ Some array
  pub stands : RootIn m root array
  pub numbered : AreNumbered m R k ids

-- some ids have numbers, others wait, and when these were visited, the lines of one array more have numbers
pub record IsUnderWay (m : Memory) (R : List Array) (k : ℕ) (ids waiting : List ℕ) : Type 0 where
  pub values : List LineValue
  pub next : List LineValue
  pub numbered : IdsFor (width m) (line_at m) ids values
  pub waits : IdsFor (width m) (line_at m) (reverse waiting) next
  pub walk : IsWalk (width m) (lines (width m) (take (k + 1) R)) values next

-- the ids stand for all lines of the arrays
pub record AllNumbered (m : Memory) (R : List Array) (ids : List ℕ) : Type 0 where
  pub lists : HasLines m R
  pub numbered : IdsFor (width m) (line_at m) ids (lines (width m) R)
