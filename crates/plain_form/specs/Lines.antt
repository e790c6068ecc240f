-- What plain lists of line values and of arrays are.
use Rattle.std.specs.Prelude.{List, [], ◌∷◌, map}
use Rattle.hic_word.specs.Values as values
use Rattle.hic_word.specs.Entries as entries
use Rattle.plain_form.specs.Value.{array_of}
use Rattle.plain_form.specs.Form.{line_of}
use Rattle.plain_form.specs.declared.value.Pairs.{Pairs}
use Rattle.plain_form.specs.declared.lines.Lines.{Lines, NoLine, ALine'}

-- the list of the line values
abbrev pub lines_of : Lines → List entries.LineValue
lines_of NoLine = []
lines_of (ALine' line pointer rest) = line_of line ∷ lines_of rest

-- the list of the arrays
abbrev pub arrays_of : List Pairs → List values.Array
arrays_of all = map array_of all
