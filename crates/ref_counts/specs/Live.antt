-- Words of which each names a live id, if any.
use Rattle.std.specs.Prelude.{List, [], ◌∷◌}
use Rattle.hic_word.specs.declared.Word.{Word}
use Rattle.hic_word.specs.Memory.{Memory}
use Rattle.hic_word.specs.Holds.{IsLive}

-- the id that each word names, if any, is live
abbrev pub AreLive : Memory → List Word → Type 0
AreLive m [] = Unit {0}
AreLive m (x ∷ xs) = IsLive m x × AreLive m xs
