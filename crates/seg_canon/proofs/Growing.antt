-- A part that stands for an array in a map of lines does so in any map that has these lines.
use Rattle.std.specs.Prelude.{ℕ}
use Rattle.hic_word.specs.Values.{Array}
use Rattle.hic_word.specs.Canon.{enc}
use Rattle.hic_word.specs.Standing.{IsWithin}
use Rattle.hic_word.specs.Stands.{Lookup}
use Rattle.hic_word.proofs.callers.Standing.{standing_grows}
use Rattle.seg_canon.specs.declared.parts.Part.{Part}
use Rattle.seg_canon.specs.Parts.{PartFor}

pub part_grows : {w : ℕ} (m n : Lookup) → IsWithin m n → (p : Part) (A : Array) → PartFor w m p A → PartFor w n p A
part_grows {w} m n within p A f = record { is_part = f.is_part; high = f.high; low = f.low; entry = (standing_grows w m n p.entry within).entry (enc w p.at A) f.entry }
