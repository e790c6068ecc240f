-- The line values of arrays, each once, and how often each is named.
use Rattle.std.specs.Prelude.{ℕ, zero, suc, ◌+◌, ◌*◌, Bool, true, false, List, [], ◌∷◌, map, Option, Some, None, flat_map, count_by}
use Rattle.hic_word.specs.Values.{Value, Number, Ref, Array, array, pairs, depth}
use Rattle.hic_word.specs.Entries.{Entry, Zero, Pack, Named, LineValue, Leaf, Inner, entries}
use Rattle.hic_word.specs.Canon.{root_entry}
use Rattle.hic_word.specs.Same.{same}

-- the line value that an entry names
abbrev pub line_of_entry : Entry → Option LineValue
line_of_entry Zero = None
line_of_entry (Pack ns) = None
line_of_entry (Named L p) = Some L

-- the line value that a value names
abbrev pub line_of_value : ℕ → Value → Option LineValue
line_of_value w (Number n) = None
line_of_value w (Ref H) = line_of_entry (root_entry w (array H))

abbrev pub found : {X : Type 0} → List (Option X) → List X
found [] = []
found (None ∷ os) = found os
found (Some x ∷ os) = x ∷ found os

-- the line values that the values or entries of a line value name, in order
abbrev pub children : ℕ → LineValue → List LineValue
children w (Leaf vs) = found (map (line_of_value w) vs)
children w (Inner es) = found (map line_of_entry (entries es))

-- a line value followed by the visits of its children, f levels deep
unfoldable pub visits : ℕ → ℕ → LineValue → List LineValue
visits w zero L = []
visits w (suc f) L = L ∷ flat_map (visits w f) (children w L)

-- more levels than an array's visit has: at most 32 for each array within another, and a leaf
abbrev pub reach : Array → ℕ
reach A = 33 * suc (depth (pairs A))

-- the visit of a line value, if there is one
abbrev pub visit_from : ℕ → ℕ → Option LineValue → List LineValue
visit_from w f None = []
visit_from w f (Some L) = visits w f L

-- the visit of an array's root
abbrev pub visit : ℕ → Array → List LineValue
visit w A = visit_from w (reach A) (line_of_entry (root_entry w A))

-- K in front, unless b
abbrev pub unless : Bool → LineValue → List LineValue → List LineValue
unless true K Ks = Ks
unless false K Ks = K ∷ Ks

-- the others than L
abbrev pub others : LineValue → List LineValue → List LineValue
others L [] = []
others L (K ∷ Ks) = unless (same L K) K (others L Ks)

-- each at its first place only
abbrev pub distinct : List LineValue → List LineValue
distinct [] = []
distinct (L ∷ Ls) = L ∷ others L (distinct Ls)

-- the line values of arrays, each at its first place
abbrev pub lines : ℕ → List Array → List LineValue
lines w R = distinct (flat_map (visit w) R)

-- the line values that the roots of arrays name
abbrev pub root_lines : ℕ → List Array → List LineValue
root_lines w R = found (map (λ A. line_of_entry (root_entry w A)) R)

-- how often L is named: by the line values of arrays, and by their roots
abbrev pub count : ℕ → LineValue → List Array → ℕ
count w L R = count_by (same L) (flat_map (children w) (lines w R)) + count_by (same L) (root_lines w R)
