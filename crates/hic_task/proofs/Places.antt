-- Registers and iterator registers, one by one.
use Rattle.std.proofs.Common.{◌≡◌, ℕ, zero, suc, List, [], ◌∷◌, Option, Some, None, sym, subst}
use Rattle.std.specs.Prelude.{slice_get, slice_index_or, slice_set}
use Rattle.hic_word.specs.declared.Word.{Word}
use Rattle.hic_word.specs.Values.{Number, Value}
use Rattle.hic_word.specs.Memory.{Memory}
use Rattle.hic_word.specs.Stands.{AWord, Lookup, NoWord, WordFor, WordsFor}
use Rattle.iter_regs.specs.declared.opened.Open.{Open}
use Rattle.hic_plain.specs.Machine.{Iter, Task}
use Rattle.hic_plain.specs.Turns.{iter}
use Rattle.hic_task.specs.declared.task.Task.{Task as Kept}
use Rattle.hic_task.specs.Kept.{IterFor, ItersFor, TaskFor}

module _ (w : ℕ) (m : Lookup) where
  pub value_at : (ws : List Word) (vs : List Value) (r : ℕ) (x : Word) → WordsFor w m ws vs → slice_get ws r ≡ Some x → WordFor w m x (slice_index_or vs r (Number 0))
  value_at [] [] r x NoWord e = cc
  value_at [] (v ∷ vs) r x d e = elim d [ ]
  value_at (y ∷ ws) [] r x d e = elim d [ ]
  value_at (y ∷ ws) (v ∷ vs) zero x (AWord d ds) e = subst (λ z. WordFor w m z v) (the_same e) d
    where
      the_same : Some y ≡ Some x → y ≡ x
      the_same f = cc
  value_at (y ∷ ws) (v ∷ vs) (suc r) x (AWord d ds) e = value_at ws vs r x ds e

  pub words_with : (ws : List Word) (vs : List Value) (r : ℕ) (x : Word) (v : Value) → WordsFor w m ws vs → WordFor w m x v → WordsFor w m (slice_set ws r x) (slice_set vs r v)
  words_with [] [] r x v NoWord d = NoWord
  words_with [] (u ∷ vs) r x v e d = elim e [ ]
  words_with (y ∷ ws) [] r x v e d = elim e [ ]
  words_with (y ∷ ws) (u ∷ vs) zero x v (AWord e es) d = AWord d es
  words_with (y ∷ ws) (u ∷ vs) (suc r) x v (AWord e es) d = AWord e (words_with ws vs r x v es d)

module _ (m : Memory) where
  pub iter_at : (rs : List (Option Open)) (Rs : List (Option Iter)) (i : ℕ) → ItersFor m rs Rs → IterFor m (slice_index_or rs i None) (slice_index_or Rs i None)
  iter_at [] [] i d = tt
  iter_at [] (R ∷ Rs) i d = absurd d
  iter_at (r ∷ rs) [] i d = absurd d
  iter_at (r ∷ rs) (R ∷ Rs) zero d = d.0
  iter_at (r ∷ rs) (R ∷ Rs) (suc i) d = iter_at rs Rs i d.1

  pub iters_with : (rs : List (Option Open)) (Rs : List (Option Iter)) (i : ℕ) (r : Option Open) (R : Option Iter) → ItersFor m rs Rs → IterFor m r R → ItersFor m (slice_set rs i r) (slice_set Rs i R)
  iters_with [] [] i r R d e = tt
  iters_with [] (S ∷ Rs) i r R d e = absurd d
  iters_with (s ∷ rs) [] i r R d e = absurd d
  iters_with (s ∷ rs) (S ∷ Rs) zero r R d e = (e, d.1)
  iters_with (s ∷ rs) (S ∷ Rs) (suc i) r R d e = (d.0, iters_with rs Rs i r R d.1 e)

-- what stands in an iterator register of a task
pub register_for : (m : Memory) (k : Kept) (T : Task) (i : ℕ) (r : Option Open) → TaskFor m k T → r ≡ slice_index_or k.iters i None → IterFor m r (iter T i)
register_for m k T i r d e = subst (λ s. IterFor m s (iter T i)) (sym e) (iter_at m k.iters T.iters i d.iters)
