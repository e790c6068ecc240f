-- What single calls on a memory exchange: a hold that is taken, holds that are given up, a line that is interned.
use Rattle.std.proofs.Common.{◌≡◌, ℕ, ◌^◌, ◌<◌, List, [], ◌∷◌, ◌++◌, Some, None, refl}
use Rattle.hic_word.specs.declared.Word.{Word}
use Rattle.hic_word.specs.Entries.{LineValue}
use Rattle.hic_word.specs.Names.{named_id}
use Rattle.hic_word.specs.Memory.{Memory, width}
use Rattle.hic_word.specs.MemorySteps.{Interns, with_hold}
use Rattle.hic_word.specs.Stands.{node_word}
use Rattle.hic_word.specs.Holds.{Holds, IsLive}
use Rattle.hic_word.specs.Freeing.{IsFreeing}
use Rattle.hic_word.specs.Exchanges.{Exchanges, HoldsAmong, Reshapes}
use Rattle.hic_word.specs.InMemory.{LineIn}
use Rattle.hic_word.proofs.Exchanging.{more_keep}
use Rattle.hic_word.proofs.Freeing.{holds_are_given_up}
use Rattle.hic_word.proofs.Holding.{one_word_more_is_held}
use Rattle.hic_word.proofs.Interned.{interned_layout, interned_within}
use Rattle.hic_word.proofs.Interning.{interned_line_is_held}

-- a hold on what a word names takes the word
pub hold_takes_word : (m : Memory) (x : Word) (id : ℕ) → IsLive m x → named_id x ≡ Some id
    → Exchanges m (with_hold m id) [] (x ∷ [])
hold_takes_word m x id live named = record {
  holds = λ H held. (one_word_more_is_held (width m) m H x held live).some id named;
  lines = λ j line e. e;
  layout = refl;
}

-- and nothing takes a word that names no id
pub nothing_takes_word : (m : Memory) (x : Word) → named_id x ≡ None → Exchanges m m [] (x ∷ [])
nothing_takes_word m x none = record {
  holds = λ H held. (one_word_more_is_held (width m) m H x held (λ id some. cc)).none none;
  lines = λ j line e. e;
  layout = refl;
}

-- a memory on the way from one that holds words gives them up where it has arrived: no id is dead
pub freeing_gives_up : (old new : Memory) (P : List Word) → HoldsAmong old P
    → ((H : List Word) → Holds (width old) old (P ++ H) → IsFreeing old new H []) → new.dead ≡ [] → Exchanges old new P []
freeing_gives_up old new P (H, held) freeing no_dead =
    let start = freeing H held in
    record {
      holds = λ K h. (holds_are_given_up (width old) old P K h).end new (freeing K h) no_dead;
      lines = start.lines;
      layout = start.layout;
    }

-- an interned line is held by the word of its id in place of the line's words
pub intern_takes_line : (old new : Memory) (line : List Word) (L : LineValue) (id : ℕ) → id < 2 ^ 24 → LineIn old line L
    → Interns old line id new → Reshapes old new line (node_word id ∷ [])
intern_takes_line old new line L id low (stands, made) interns = record {
  holds = λ H held. (interned_line_is_held (width old) old new H line L id low held stands made interns).holds;
  lines = more_keep old new (interned_within old new line id interns);
  layout = interned_layout old new line id interns;
}
