-- What a register holds for is still held after `seek` and `store`: for the tests.
use Rattle.std.proofs.Common.{◌≡◌, ◌^◌, ℕ, Bool, true, false, [], Option, Some, None, Result, Ok, Err, refl, ◌∙◌, ap, subst, sym}
use Rattle.std.specs.Prelude.{OnErr, OnOk, nat_lt}
use Rattle.hic_word.specs.Memory.{Memory, width}
use Rattle.hic_word.specs.Exchanges.{Exchanges, HoldsAmong}
use Rattle.hic_word.specs.Holds.{Holds}
use Rattle.hic_word.proofs.callers.Holds.{among_after}
use Rattle.iter_regs.specs.declared.refusal.IterRefusal.{IterRefusal}
use Rattle.iter_regs.specs.declared.opened.Open.{Open}
use Rattle.iter_regs.specs.Iters.{iter_words, seeks, sought}

same_words : (low : Bool) (r : Open) (offset : ℕ) → iter_words (sought low r offset).1 ≡ iter_words (Some r)
same_words true r offset = refl
same_words false r offset = refl

sought_words : (old : Option Open) (offset : ℕ) → iter_words (seeks old offset).1 ≡ iter_words old
sought_words None offset = refl
sought_words (Some r) offset = same_words (nat_lt offset (2 ^ 32)) r offset

-- what is held stays the same
pub words_after_seek : (old new : Option Open) (offset : ℕ) (result : Result (Unit {0}) IterRefusal) → (result, new) ≡ seeks old offset → iter_words new ≡ iter_words old
words_after_seek old new offset result e = ap (λ (x : Result (Unit {0}) IterRefusal × Option Open). iter_words x.1) e ∙ sought_words old offset

pub held_after_seek : (m : Memory) (old new : Option Open) (offset : ℕ) (result : Result (Unit {0}) IterRefusal) → (result, new) ≡ seeks old offset → HoldsAmong m (iter_words old) → HoldsAmong m (iter_words new)
held_after_seek m old new offset result e held = subst (HoldsAmong m) (sym (words_after_seek old new offset result e)) held

-- a register that was closed, in a memory that held nothing
pub held_from_closed : (m n : Memory) (old new : Option Open) → old ≡ None → Exchanges m n (iter_words old) (iter_words new) → Holds (width m) m [] → HoldsAmong n (iter_words new)
held_from_closed m n old new closed passed nothing = among_after m n _ _ passed.holds (subst (λ o. HoldsAmong m (iter_words o)) (sym closed) ([], nothing))

pub held_after_store : (m n : Memory) (old new : Option Open) (result : Result (Unit {0}) IterRefusal)
    → OnOk result (Exchanges m n (iter_words old) (iter_words new)) → OnErr result ((new ≡ old) × (n ≡ m)) → HoldsAmong m (iter_words old) → HoldsAmong n (iter_words new)
held_after_store m n old new (Ok done) passed same held = among_after m n _ _ passed.holds held
held_after_store m n old new (Err e) passed (same, same_memory) held = subst (λ k. HoldsAmong k (iter_words new)) (sym same_memory) (subst (λ o. HoldsAmong m (iter_words o)) (sym same) held)
