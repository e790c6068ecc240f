-- What lets changes of numbers be made: for the tests.
use Rattle.std.proofs.Common.{◌≡◌, ℕ, ◌+◌, ◌*◌, ◌^◌, ◌<◌, ◌≤◌, List, [], ◌∷◌, length, refl, sym, subst, add-one, inl, inr, arith}
use Rattle.hic_word.specs.declared.Word.{Word}
use Rattle.hic_word.specs.Values.{IsValue, NoPair, Ref}
use Rattle.hic_word.specs.Changes.{AreChanges}
use Rattle.hic_word.specs.InMemory.{CanApply, WordIn}
use Rattle.hic_word.specs.Memory.{Memory, line_at, width}
use Rattle.hic_word.specs.Exchanges.{HasRoomFor}
use Rattle.hic_word.specs.Holds.{Holds}
use Rattle.hic_word.proofs.callers.Holds.{counts_are_bounded, is_there}
use Rattle.line_mem.specs.Sound.{IsSound}
use Rattle.seg_read.proofs.Examples.{empty_is}
use Rattle.form_rows.specs.Numbers.{NumberChanges, numbers}

-- a number in front of changes at higher offsets
pub one_more : (b : ℕ) (cs rest : List (ℕ × Word)) (c : ℕ × Word) → cs ≡ c ∷ rest → b ≤ c.0 → c.0 < 2 ^ 32 → c.1.bits < 2 ^ 64 → AreChanges (c.0 + 1) (numbers rest) → AreChanges b (numbers cs)
unfolding IsValue
one_more b cs rest c e low fit small h = subst (λ xs. AreChanges b (numbers xs)) (sym e) (low, fit, small, rw add-one at h)

-- counts have room where few words are held
pub counts_have_room : (m : Memory) (H : List Word) (n : ℕ) → IsSound m → Holds (width m) m H → length H ≤ 4 → n ≤ 4096 → HasRoomFor (64 * (n + 1)) m
counts_have_room m H n sound h few low id live =
    let (line, e) = is_there (line_at m id) live in
    let a = counts_are_bounded (width m) m H id line (inr (inl refl)) h.balanced sound.room e in
    let b = sound.most in
    omega (arith, a, b, few, low)

-- an array is made of changes of the empty one
pub can_make : (m : Memory) (x : Word) (cs : List (ℕ × Word)) → WordIn m x (Ref NoPair) → NumberChanges cs → CanApply m x cs [] (numbers cs)
can_make m x cs e n = record {
  root_for = empty_is m x e;
  changes_for = n.changes (width m) (line_at m);
  ascend = n.ascend;
}
