-- The words that a register is known to keep: for the tests.
use Rattle.std.proofs.Common.{◌≡◌, ℕ, List, [], ◌∷◌, ◌++◌, Option, None, Some, ap, sym, ◌∙◌, subst}
use Rattle.hic_word.specs.declared.Word.{Word}
use Rattle.hic_word.specs.Exchanges.{Exchanges, HoldsAmong}
use Rattle.hic_word.specs.Holds.{Holds}
use Rattle.hic_word.specs.Memory.{Memory, width}
use Rattle.iter_regs.specs.declared.opened.Open.{Open}
use Rattle.iter_regs.specs.Iters.{attached, iter_words, stored}

-- they are held among others
pub words_among : (m : Memory) (reg : Option Open) (P H : List Word) → iter_words reg ≡ P → Holds (width m) m (P ++ H) → HoldsAmong m (iter_words reg)
words_among m reg P H e held = subst (HoldsAmong m) (sym e) (H, held)

-- after a call on the register others are held in their place
pub words_passed : (m n : Memory) (old new : Option Open) (P Q H : List Word) → iter_words old ≡ P → iter_words new ≡ Q → Exchanges m n (iter_words old) (iter_words new) → Holds (width m) m (P ++ H) → Holds (width n) n (Q ++ H)
words_passed m n old new P Q H e f passed held = subst (λ ws. Holds (width n) n (ws ++ H)) f (passed.holds H (subst (λ ws. Holds (width m) m (ws ++ H)) (sym e) held))

-- those after a word was stored in a register just opened
pub first_stored : (old new : Option Open) (segment : Option ℕ) (root word : Word) → old ≡ Some (attached segment root) → new ≡ stored old word → iter_words new ≡ root ∷ word ∷ []
first_stored old new segment root word opened e = ap iter_words (e ∙ ap (λ o. stored o word) opened)

-- opened on an array that the caller holds
module _ (m n : Memory) (old new : Option Open) (segment : Option ℕ) (root : Word) (closed : old ≡ None) (opened : new ≡ Some (attached segment root)) (passed : Exchanges m n (iter_words old) (iter_words new)) (held : Holds (width m) m (root ∷ [])) where
  pub held_for_both : Holds (width n) n (root ∷ root ∷ [])
  held_for_both = words_passed m n old new [] (root ∷ []) (root ∷ []) (ap iter_words closed) (ap iter_words opened) passed held

  -- the caller has given up its hold
  pub held_alone : (k : Memory) → Exchanges n k (root ∷ []) [] → Holds (width k) k (root ∷ [])
  held_alone k released = released.holds (root ∷ []) held_for_both
