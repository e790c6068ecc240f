-- What plain values and arrays are.
use Rattle.std.specs.Prelude.{List, [], ◌∷◌}
use Rattle.hic_word.specs.Values as values
use Rattle.plain_form.specs.declared.value.Value.{Value, Number, Ref'}
use Rattle.plain_form.specs.declared.value.Pairs.{Pairs, NoPair, Pair'}
use Rattle.plain_form.specs.declared.value.Values.{Values, NoValue, AValue'}

abbrev mutual
  -- the value
  pub value_of : Value → values.Value
  value_of (Number n) = values.Number n
  value_of (Ref' pointer array) = values.Ref (pairs_of array)

  -- the pairs of the array
  pub pairs_of : Pairs → values.Pairs
  pairs_of NoPair = values.NoPair
  pairs_of (Pair' offset value pointer rest) = values.Pair offset (value_of value) (pairs_of rest)

-- the list of the values
abbrev pub values_of : Values → List values.Value
values_of NoValue = []
values_of (AValue' value pointer rest) = value_of value ∷ values_of rest

-- the array
abbrev pub array_of : Pairs → values.Array
array_of pairs = values.array (pairs_of pairs)
