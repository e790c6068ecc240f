-- What a memory holds for registers of which one has a word, for the tests.
use Rattle.std.proofs.Common.{◌≡◌, List, ◌∷◌, ◌++◌, replicate, set, refl, sym, ◌∙◌, ap, subst}
use Rattle.hic_word.specs.declared.Kind.TheVariants.{Num}
use Rattle.hic_word.specs.declared.Word.{Word}
use Rattle.hic_word.specs.Memory.{Memory}
use Rattle.hic_word.specs.Holds.{Holds}
use Rattle.hic_word.specs.Stands.{word_of}
use Rattle.hic_word.proofs.callers.Holds.{holding_is_by_counts}

abbrev zeros : List Word
zeros = replicate 8 (word_of Num 0 0)

-- the registers at first, which hold nothing
pub none_more : (m : Memory) (H file : List Word) → file ≡ zeros → Holds 4 m H → Holds 4 m (file ++ H)
none_more m H file e h = subst (λ ws. Holds 4 m (ws ++ H)) (sym e) (holding_is_by_counts 4 m H (zeros ++ H) (λ j. refl) h)

-- the registers with a word in one
pub one_less : (m : Memory) (H file first : List Word) (x : Word) → file ≡ set first 3 x → first ≡ zeros → Holds 4 m (file ++ H) → Holds 4 m (x ∷ H)
one_less m H file first x e f h = holding_is_by_counts 4 m (set zeros 3 x ++ H) (x ∷ H) (λ j. refl) (subst (λ ws. Holds 4 m (ws ++ H)) (e ∙ ap (λ ws. set ws 3 x) f) h)

pub one_more : (m : Memory) (H file first : List Word) (x : Word) → file ≡ set first 3 x → first ≡ zeros → Holds 4 m (x ∷ H) → Holds 4 m (file ++ H)
one_more m H file first x e f h = subst (λ ws. Holds 4 m (ws ++ H)) (sym (e ∙ ap (λ ws. set ws 3 x) f)) (holding_is_by_counts 4 m (x ∷ H) (set zeros 3 x ++ H) (λ j. refl) h)
