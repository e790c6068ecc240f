-- What a line that names no line makes of the dead list and the counts, for the tests.
use Rattle.std.proofs.Common.{◌≡◌, ℕ, ◌+◌, ◌-◌, ◌≤◌, cond, eqb, List, [], ◌∷◌, Option, refl, ◌∙◌, ap, inl, inr, arith, IsSome, unwrap_or}
use Rattle.std.specs.Ordering.{nat_cmp}
use Rattle.std.proofs.lemmas.Bool.{eq-eqb}
use Rattle.std.specs.FinMap as map
use Rattle.hic_word.proofs.callers.Holds.{there_is, count_after, count-without_hold, interned_counts, interned_there, new_or_there}
use Rattle.hic_word.specs.declared.Word.{Word}
use Rattle.hic_word.specs.Memory.{Layout, Memory, line_at, count_at}
use Rattle.hic_word.specs.MemorySteps.{with_hold, empty_memory, without_hold, without_holds, Interns}
use Rattle.hic_word.specs.Stands.{word_of}
use Rattle.hic_word.specs.Names.{names_in}
use Rattle.hic_word.specs.declared.Kind.TheVariants.{Num}

-- one more hold at most, one at least on the id, which is live, and no id is dead
pub record KeepsPlain (old : Memory) (id : ℕ) (new : Memory) : Type 0 where
  pub no_dead : new.dead ≡ []
  pub live : IsSome (line_at new id)
  pub held : 1 ≤ count_at new id
  pub counts : (most : ℕ) → ((q : ℕ) → count_at old q ≤ most) → (q : ℕ) → count_at new q ≤ most + 1

count_here : (m : Memory) (id n : ℕ) → cond (eqb id id) n (count_at m id) ≡ n
count_here m id n = ap (λ t. cond t n (count_at m id)) (eq-eqb id id refl)

pub plain_kept : (old new : Memory) (line : List Word) (id : ℕ) → names_in line ≡ [] → old.dead ≡ [] → Interns old line id new → KeepsPlain old id new
plain_kept old new line id n d i = elim (new_or_there old new line id i) [
  | inl (vacant, fresh, e) ↦ keeps (ap (λ (m : Memory). m.dead) e ∙ d) (let a = ap (λ m. count_at m id) e in let b = count_after old id 1 id in let c = count_here old id 1 in omega (arith, a, b, c))
  | inr (there, e) ↦
      let same : new ≡ with_hold old id = e ∙ ap (without_holds (with_hold old id)) n in
      keeps (ap (λ (m : Memory). m.dead) same ∙ d) (let a = ap (λ m. count_at m id) same in let b = count_after old id (count_at old id + 1) id in let c = count_here old id (count_at old id + 1) in omega (arith, a, b, c))
]
  where
    keeps : new.dead ≡ [] → 1 ≤ count_at new id → KeepsPlain old id new
    keeps no_dead held = record {
      no_dead = no_dead;
      live = there_is (line_at new id) line (interned_there old new line id i);
      held = held;
      counts = λ most h q. let a = interned_counts old new line id i q in let b = h q in omega (arith, a, b);
    }

pub no_names : (a b c d : Word) (k l m n : ℕ) → a ≡ word_of Num 0 k → b ≡ word_of Num 0 l → c ≡ word_of Num 0 m → d ≡ word_of Num 0 n → names_in (a ∷ b ∷ c ∷ d ∷ []) ≡ []
no_names a b c d k l m n e f g h = λ i. names_in (e i ∷ f i ∷ g i ∷ h i ∷ [])

-- a memory without a line has no count
pub empty_counts : (m : Memory) (layout : Layout) → m ≡ empty_memory layout → (id : ℕ) → count_at m id ≤ 0
empty_counts m layout e id = let a : count_at m id ≡ 0 = ap (λ x. count_at x id) e ∙ ap (λ (o : Option ℕ). unwrap_or o 0) (map.get-empty nat_cmp id) in omega (arith, a)

-- one hold more, and one less
pub held_twice : (m held : Memory) (id : ℕ) → held ≡ with_hold m id → 1 ≤ count_at m id → 2 ≤ count_at held id
held_twice m held id e h =
    let a : count_at held id ≡ count_at (with_hold m id) id = ap (λ x. count_at x id) e in
    let b = count_after m id (count_at m id + 1) id in
    let c = count_here m id (count_at m id + 1) in
    omega (arith, a, b, c, h)

pub still_held : (m less : Memory) (id : ℕ) → less ≡ without_hold m id → 2 ≤ count_at m id → 1 ≤ count_at less id
still_held m less id e h =
    let a : count_at less id ≡ count_at (without_hold m id) id = ap (λ x. count_at x id) e in
    let b = count-without_hold m id id in
    let c = count_here m id (count_at m id - 1) in
    omega (arith, a, b, c, h)
