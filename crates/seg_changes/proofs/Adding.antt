-- Pairs put behind others.
use Rattle.std.proofs.Common.{◌≡◌, ℕ, ◌+◌, List, [], ◌∷◌, ◌++◌, length, refl, sym, ◌∙◌, ap, subst, arith}
use Rattle.std.proofs.lemmas.List.{append-nil, append_assoc, length-append}
use Rattle.hic_word.specs.declared.Word.{Word}
use Rattle.hic_word.specs.Values.{Array, Value}
use Rattle.hic_word.specs.InMemory.{ChangesFor}
use Rattle.hic_word.specs.Stands.{Lookup, WordFor}
use Rattle.seg_changes.specs.Differing.{Adds}

stand-append : (m : Lookup) (cs ds : List (ℕ × Word)) (K L : Array) → ChangesFor 4 m cs K → ChangesFor 4 m ds L → ChangesFor 4 m (cs ++ ds) (K ++ L)
stand-append m [] ds [] L f g = g
stand-append m [] ds (p ∷ K) L f g = absurd f
stand-append m (c ∷ cs) ds [] L f g = absurd f
stand-append m (c ∷ cs) ds (p ∷ K) L f g = (f.0, f.1, stand-append m cs ds K L f.2 g)

stand_length : (m : Lookup) (cs : List (ℕ × Word)) (L : Array) → ChangesFor 4 m cs L → length cs ≡ length L
stand_length m [] [] f = refl
stand_length m [] (p ∷ L) f = absurd f
stand_length m (c ∷ cs) [] f = absurd f
stand_length m (c ∷ cs) (p ∷ L) f = let rest = stand_length m cs L f.2 in omega (arith, rest)

pub adds_none : {m : Lookup} (old : List (ℕ × Word)) → Adds m old old []
adds_none old = record { added = []; behind = sym (append-nil old); stand = tt }

pub adds_one : {m : Lookup} (old : List (ℕ × Word)) (o i : ℕ) (x : Word) {v : Value} → o ≡ i → WordFor 4 m x v → Adds m old (old ++ (o, x) ∷ []) ((i, v) ∷ [])
adds_one old o i x e f = record { added = (o, x) ∷ []; behind = refl; stand = (e, f, tt) }

pub adds_more : {m : Lookup} {old now new : List (ℕ × Word)} {K L : Array} → Adds m old now K → Adds m now new L → Adds m old new (K ++ L)
adds_more {m} {old} {now} {new} {K} {L} a b = record {
  added = a.added ++ b.added;
  behind = b.behind ∙ ap (λ xs. xs ++ b.added) a.behind ∙ append_assoc old a.added b.added;
  stand = stand-append m a.added b.added K L a.stand b.stand;
}

pub adds_length : {m : Lookup} {old new : List (ℕ × Word)} {L : Array} → Adds m old new L → length new ≡ length old + length L
adds_length {m} {old = old} {L = L} a = ap length a.behind ∙ length-append old a.added ∙ ap (λ n. length old + n) (stand_length m a.added L a.stand)

pub adds_all : {m : Lookup} {new : List (ℕ × Word)} {L : Array} → Adds m [] new L → ChangesFor 4 m new L
adds_all {m} {new} {L} a = subst (λ cs. ChangesFor 4 m cs L) (sym a.behind) a.stand
