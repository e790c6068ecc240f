-- A root stands for its array as long as it is held; that of the empty array takes no hold.
use Rattle.std.proofs.Common.{◌≡◌, List, [], ◌∷◌, refl, sym, subst}
use Rattle.hic_word.specs.declared.Kind.TheVariants.{RefPack}
use Rattle.hic_word.specs.declared.Word.{Word}
use Rattle.hic_word.specs.Lists.{In}
use Rattle.hic_word.specs.Values.{Array, Ref, pairs}
use Rattle.hic_word.specs.Memory.{Memory, width}
use Rattle.hic_word.specs.Stands.{word_of}
use Rattle.hic_word.specs.Holds.{Holds}
use Rattle.hic_word.specs.Exchanges.{KeepsLines}
use Rattle.hic_word.specs.InMemory.{RootIn}
use Rattle.hic_word.proofs.callers.Holds.{holding_is_by_counts}
use Rattle.hic_word.proofs.callers.Standing.{held_word_live, live_words_stand_on}

pub root_stays : (old new : Memory) (H : List Word) (x : Word) (A : Array) → KeepsLines old new → Holds (width new) new H → In x H → RootIn old x A → RootIn new x A
root_stays old new H x A keeps held there r = record {
  valid = r.valid;
  word = (live_words_stand_on (width new) old new H x keeps held (held_word_live new H x held there)).value (Ref (pairs A)) r.word;
}

pub empty_held : (m : Memory) (x : Word) → x ≡ word_of RefPack 0 0 → Holds (width m) m [] → Holds (width m) m (x ∷ [])
empty_held m x e h = subst (λ y. Holds (width m) m (y ∷ [])) (sym e) (holding_is_by_counts (width m) m [] (word_of RefPack 0 0 ∷ []) (λ id. refl) h)
