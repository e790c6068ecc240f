-- What is held is live.
use Rattle.std.proofs.Common.{◌≡◌, ℕ, ◌≤◌, List, [], ◌∷◌, ◌++◌, Some, ◌∙◌, ap, refl, inl, inr, arith, IsSome}
use Rattle.hic_word.specs.declared.Word.{Word}
use Rattle.hic_word.specs.Lists.{In, times}
use Rattle.hic_word.specs.Names.{named_id, names_in}
use Rattle.hic_word.specs.Memory.{Memory, line_at}
use Rattle.hic_word.specs.Holds.{Holds, IsLive}
use Rattle.hic_word.proofs.Counting.{hit-same, names-append, names-cons, names-some}

named_once : (x : Word) (ws : List Word) (id : ℕ) → In x ws → named_id x ≡ Some id → 1 ≤ times id (names_in ws)
named_once x [] id there e = absurd there
named_once x (y ∷ ws) id (inl same) e =
    let a = names-some id id y ws (ap named_id same ∙ e) in
    let b = hit-same id id refl in
    omega (arith, a, b)
named_once x (y ∷ ws) id (inr later) e =
    let a = names-cons id y ws in
    let b = named_once x ws id later e in
    omega (arith, a, b)

-- a word that is held names a live id, if it names one
pub held_word_live : {w : ℕ} (m : Memory) (H : List Word) (x : Word) → Holds w m H → In x H → IsLive m x
held_word_live m H x held there id e = held.named id (named_once x H id there e)

-- what the first of some held words name is live
pub first_live : {w : ℕ} (m : Memory) (P H : List Word) → Holds w m (P ++ H) → (id : ℕ) → 1 ≤ times id (names_in P) → IsSome (line_at m id)
first_live m P H held id some = held.named id (let a = names-append id P H in omega (arith, a, some))
