-- Words that a memory holds, of which each that names a line references an array of one value.
use Rattle.std.specs.Prelude.{List, IsSome}
use Rattle.hic_word.specs.declared.Word.{Word}
use Rattle.hic_word.specs.Lists.{In}
use Rattle.hic_word.specs.Names.{named_id}
use Rattle.hic_word.specs.Memory.{Memory, line_at, width}
use Rattle.hic_word.specs.Holds.{Holds}
use Rattle.ref_counts.specs.Links.{IsLink}

pub record AreKept (m : Memory) (words : List Word) : Type 0 where
  pub held : Holds (width m) m words
  pub links : (x : Word) → In x words → IsSome (named_id x) → IsLink (line_at m) x
