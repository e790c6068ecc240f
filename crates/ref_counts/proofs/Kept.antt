-- What `intern` makes of a memory that holds the words of the line.
use Rattle.std.proofs.Common.{◌≡◌, ℕ, List, [], ◌∷◌, Result, Ok, Err, ◌∙◌, ap, arith}
use Rattle.std.specs.Prelude.{IfOk, OnErr}
use Rattle.hic_word.specs.declared.Word.{Word}
use Rattle.hic_word.specs.Entries.{LineValue, Named}
use Rattle.hic_word.specs.Memory.{Memory, count_at, line_at, width}
use Rattle.hic_word.specs.MemorySteps.{Interns}
use Rattle.hic_word.specs.Exchanges.{CountsRise, HoldsAmong, Reshapes}
use Rattle.hic_word.specs.InMemory.{EntryIn, LineIn}
use Rattle.hic_word.specs.Standing.{IsWithin}
use Rattle.hic_word.specs.Stands.{node_word}
use Rattle.hic_word.proofs.callers.Holds.{intern_takes_line, interned_counts, interned_there, interned_within, interned_line_is_held}
use Rattle.line_mem.specs.Sound.{IsSound}

module _ (old new : Memory) (line : List Word) (id : ℕ) (sound : IsSound new) (i : Interns old line id new) where
  -- the line is held in place of its words
  pub line_kept : (value : LineValue) → LineIn old line value → Reshapes old new line (node_word id ∷ [])
  line_kept value d = intern_takes_line old new line value id (sound.small id line (interned_there old new line id i)) d i

  pub line_stands : HoldsAmong old line → (value : LineValue) → LineIn old line value → EntryIn new (node_word id) (Named value [])
  line_stands (H, held) value d = (interned_line_is_held (width old) old new H line value id (sound.small id line (interned_there old new line id i)) held d.0 d.1 i).stands

-- whether there was room or not
module _ {E : Type 0} (old new : Memory) (line : List Word) where
  pub counts_kept : (r : Result ℕ E) → IfOk r (λ id. Interns old line id new) → OnErr r (new ≡ old) → CountsRise 1 old new
  counts_kept (Ok id) i e q = interned_counts old new line id i q
  counts_kept (Err f) i e q = let same = ap (λ (m : Memory). count_at m q) e in omega (arith, same)

  pub lines_kept : (r : Result ℕ E) → IfOk r (λ id. Interns old line id new) → OnErr r (new ≡ old) → IsWithin (line_at old) (line_at new)
  lines_kept (Ok id) i e = interned_within old new line id i
  lines_kept (Err f) i e = λ q l at. ap (λ (m : Memory). line_at m q) e ∙ at
