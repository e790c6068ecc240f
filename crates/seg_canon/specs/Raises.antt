-- How many lines are made when parts are raised to their whole height.
use Rattle.std.specs.Prelude.{ℕ, ◌+◌, Bool, true, false, ltb, List, [], ◌∷◌}
use Rattle.hic_word.specs.declared.Kind.{Kind}
use Rattle.hic_word.specs.declared.Kind.TheVariants.{Pack}
use Rattle.seg_canon.specs.declared.parts.Part.{Part}

-- 1 for an entry of packed numbers
abbrev pub one_if_packed : Kind → ℕ
one_if_packed Pack = 1
one_if_packed _ = 0

abbrev pub if_low : Bool → ℕ → ℕ
if_low true n = n
if_low false n = 0

-- the lines that are made when the part is raised to its whole height: one where it is packed lower than that
abbrev pub raises : Part → ℕ
raises p = if_low (ltb p.at p.top) (one_if_packed p.entry.kind)

abbrev pub all_raises : List Part → ℕ
all_raises [] = 0
all_raises (p ∷ ps) = raises p + all_raises ps
