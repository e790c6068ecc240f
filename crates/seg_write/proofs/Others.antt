-- Four words of which one is held, and then the other three.
use Rattle.std.proofs.Common.{◌≡◌, ℕ, zero, suc, ◌+◌, ◌%◌, ◌<◌, List, [], ◌∷◌, ◌++◌, length, get_or, Some, ap, arith}
use Rattle.std.specs.List.{slice_get}
use Rattle.hic_word.specs.declared.Word.{Word}
use Rattle.hic_word.specs.Lists.{times}
use Rattle.hic_word.specs.Names.{names_in}
use Rattle.hic_word.specs.Holds.{Holds}
use Rattle.hic_word.specs.Memory.{Memory}
use Rattle.hic_word.proofs.callers.Holds.{holding_is_by_counts, names-append}

four_names : (j : ℕ) (a b c e : Word) (held : List Word)
    → times j (names_in (a ∷ b ∷ c ∷ e ∷ held)) ≡ times j (names_in (a ∷ [])) + times j (names_in (b ∷ [])) + times j (names_in (c ∷ [])) + times j (names_in (e ∷ [])) + times j (names_in held)
four_names j a b c e held =
    let first = names-append j (a ∷ []) (b ∷ c ∷ e ∷ held) in
    let second = names-append j (b ∷ []) (c ∷ e ∷ held) in
    let third = names-append j (c ∷ []) (e ∷ held) in
    let last = names-append j (e ∷ []) held in
    omega (arith, first, second, third, last)

module _ (m : Memory) (a b c e : Word) (held : List Word) where
  others_of : (p : ℕ) (d word : Word) → p < 4 → slice_get (a ∷ b ∷ c ∷ e ∷ []) p ≡ Some word
      → Holds 4 m (get_or (a ∷ b ∷ c ∷ e ∷ []) ((p + 3) % 4) d ∷ get_or (a ∷ b ∷ c ∷ e ∷ []) ((p + 2) % 4) d ∷ get_or (a ∷ b ∷ c ∷ e ∷ []) ((p + 1) % 4) d ∷ word ∷ held) → Holds 4 m (a ∷ b ∷ c ∷ e ∷ held)
  others_of zero d word lt is h = let same : a ≡ word = cc in holding_is_by_counts 4 m (e ∷ c ∷ b ∷ word ∷ held) (a ∷ b ∷ c ∷ e ∷ held) (λ j. let x = four_names j e c b word held in let y = four_names j a b c e held in let z = ap (λ (w : Word). times j (names_in (w ∷ []))) same in omega (arith, x, y, z)) h
  others_of (suc zero) d word lt is h = let same : b ≡ word = cc in holding_is_by_counts 4 m (a ∷ e ∷ c ∷ word ∷ held) (a ∷ b ∷ c ∷ e ∷ held) (λ j. let x = four_names j a e c word held in let y = four_names j a b c e held in let z = ap (λ (w : Word). times j (names_in (w ∷ []))) same in omega (arith, x, y, z)) h
  others_of (suc (suc zero)) d word lt is h = let same : c ≡ word = cc in holding_is_by_counts 4 m (b ∷ a ∷ e ∷ word ∷ held) (a ∷ b ∷ c ∷ e ∷ held) (λ j. let x = four_names j b a e word held in let y = four_names j a b c e held in let z = ap (λ (w : Word). times j (names_in (w ∷ []))) same in omega (arith, x, y, z)) h
  others_of (suc (suc (suc zero))) d word lt is h = let same : e ≡ word = cc in holding_is_by_counts 4 m (c ∷ b ∷ a ∷ word ∷ held) (a ∷ b ∷ c ∷ e ∷ held) (λ j. let x = four_names j c b a word held in let y = four_names j a b c e held in let z = ap (λ (w : Word). times j (names_in (w ∷ []))) same in omega (arith, x, y, z)) h
  others_of (suc (suc (suc (suc p)))) d word lt is h = absurd (omega (arith, lt))

pub others_held : (m : Memory) (ws : List Word) (p : ℕ) (d word : Word) (held : List Word) → length ws ≡ 4 → p < 4 → slice_get ws p ≡ Some word
    → Holds 4 m (get_or ws ((p + 3) % 4) d ∷ get_or ws ((p + 2) % 4) d ∷ get_or ws ((p + 1) % 4) d ∷ word ∷ held) → Holds 4 m (ws ++ held)
others_held m [] p d word held long lt is h = absurd (omega (arith, long))
others_held m (a ∷ []) p d word held long lt is h = absurd (omega (arith, long))
others_held m (a ∷ b ∷ []) p d word held long lt is h = absurd (omega (arith, long))
others_held m (a ∷ b ∷ c ∷ []) p d word held long lt is h = absurd (omega (arith, long))
others_held m (a ∷ b ∷ c ∷ e ∷ []) p d word held long lt is h = others_of m a b c e held p d word lt is h
others_held m (a ∷ b ∷ c ∷ e ∷ f ∷ ws) p d word held long lt is h = absurd (omega (arith, long))
