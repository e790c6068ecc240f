-- Roots of the plain program.
use Rattle.std.specs.Prelude.{◌≡◌}
use Rattle.hic_word.specs.Values.{Array}
use Rattle.hic_word.specs.Heights as heights
use Rattle.hic_word.specs.Canon.{root_entry}
use Rattle.plain_form.specs.Form.{entry_of}
use Rattle.plain_form.specs.declared.canon.Root.{Root}

-- the root of an array in lines of four words
pub record IsRootOf (root : Root) (A : Array) : Type 0 where
  pub height : root.height ≡ heights.height 4 A
  pub entry : entry_of root.entry ≡ root_entry 4 A
