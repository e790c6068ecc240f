-- The blank that a counter of looks is opened with.
use Rattle.std.specs.Prelude.{◌≡◌, ◌<◌, ℕ}
use Rattle.std.specs.declared.sync.ledger.Blank.{Blank}

-- a blank of the ledger with this name and so many parts
pub record IsBlankOf (blank : Blank) (name parts : ℕ) : Type 0 where
  pub named : blank.name ≡ name
  pub whole : blank.parts ≡ parts
  pub some : 0 < blank.parts
