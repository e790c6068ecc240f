-- Which entries are not `Zero`.
use Rattle.std.specs.Prelude.{ℕ, ◌<◌}
use Rattle.hic_word.specs.Canon as canon
use Rattle.plain_form.specs.Form.{entry_of}
use Rattle.plain_form.specs.declared.canon.Sole.{Sole}
use Rattle.plain_form.specs.declared.canon.Sole.TheVariants.{AllZero, Alone, Several}

abbrev pub sole_of : Sole → canon.Sole
sole_of AllZero = canon.AllZero
sole_of (Alone place entry) = canon.Alone place (entry_of entry)
sole_of Several = canon.Several

-- the place of one alone is below n
abbrev pub IsPlacedBelow : ℕ → Sole → Type 0
IsPlacedBelow n AllZero = Unit {0}
IsPlacedBelow n (Alone place entry) = place < n
IsPlacedBelow n Several = Unit {0}
