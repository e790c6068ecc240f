-- Slots that are all vacant.
use Rattle.std.proofs.Common.{◌≡◌, ℕ, suc, zero, Bool, false, cond, List, [], ◌∷◌, Option, None, refl, sym, ◌∙◌, ap, arith, reverse}
use Rattle.std.specs.Ordering.{nat_cmp}
use Rattle.std.specs.Prelude.{count_by, replicate}
use Rattle.std.proofs.lemmas.List.Sums.{sum_by-cons}
use Rattle.std.proofs.lemmas.Option.{none-some}
use Rattle.std.specs.FinMap as map
use Rattle.line_mem.specs.declared.slots.Slot.{Slot}
use Rattle.line_mem.specs.declared.slots.Slot.TheVariants.{Vacant}
use Rattle.line_mem.specs.Places.{placed, each, lines_of, counts_of, line_in, count_in, dead_at, line_of, memory_of, plain_layout}
use Rattle.line_mem.specs.Sound.{one_if_dead}
use Rattle.hic_word.specs.Lists.{times}
use Rattle.hic_word.specs.MemorySteps.{empty_memory}
use Rattle.hic_word.specs.Stands.{Unique}

vacant-none : {w : ℕ} {X : Type 0} (n : ℕ) (f : Slot w → Option X) (i : ℕ) → f Vacant ≡ None → placed i (each f (replicate n Vacant)) ≡ []
vacant-none zero f i e = refl
vacant-none (suc n) f i e = ap (λ o. placed i (o ∷ each f (replicate n Vacant))) e ∙ vacant-none n f (suc i) e

pub vacant-tests : {w : ℕ} (p : Slot w → Bool) (n : ℕ) → p Vacant ≡ false → count_by p (replicate n Vacant) ≡ 0
vacant-tests p zero e = refl
vacant-tests p (suc n) e =
    let a = sum_by-cons (λ x. cond {A = ℕ} (p x) 1 0) Vacant (replicate n Vacant) in
    let b : cond {A = ℕ} (p Vacant) 1 0 ≡ 0 = ap (λ (t : Bool). cond {A = ℕ} t 1 0) e in
    let c = vacant-tests p n e in
    omega (arith, a, b, c)

-- an empty store
pub none_lines : {w : ℕ} (ss : List (Slot w)) (n : ℕ) → ss ≡ replicate n Vacant → lines_of ss ≡ map.empty
none_lines ss n e = ap lines_of e ∙ ap (λ es. map.from_entries es) (vacant-none n line_in 0 refl)

pub none_counts : {w : ℕ} (ss : List (Slot w)) (n : ℕ) → ss ≡ replicate n Vacant → counts_of ss ≡ map.empty
none_counts ss n e = ap counts_of e ∙ ap (λ es. map.from_entries es) (vacant-none n count_in 0 refl)

pub none_dead : {w : ℕ} (ss : List (Slot w)) (n : ℕ) (dead : List ℕ) → ss ≡ replicate n Vacant → dead ≡ [] → (q : ℕ) → times q dead ≡ dead_at ss q
none_dead ss n dead e f q = ap (times q) f ∙ sym (ap (λ m. one_if_dead (map.get m q)) (none_counts ss n e) ∙ ap one_if_dead (map.get-empty nat_cmp q))

pub none_unique : {w : ℕ} (ss : List (Slot w)) (n : ℕ) → ss ≡ replicate n Vacant → Unique (line_of ss)
none_unique ss n e i j line f g = absurd (none-some line (sym (ap (λ m. map.get m i) (none_lines ss n e) ∙ map.get-empty nat_cmp i) ∙ f))

pub none_memory : {w : ℕ} (ss : List (Slot w)) (n cap : ℕ) (dead : List ℕ) → ss ≡ replicate n Vacant → dead ≡ [] → cap ≡ n → memory_of ss dead cap ≡ empty_memory (plain_layout n)
none_memory ss n cap dead e f g = λ i. record { lines = none_lines ss n e i; counts = none_counts ss n e i; dead = reverse (f i); layout = plain_layout (g i) }

pub none_count : {w : ℕ} (p : Slot w → Bool) (ss : List (Slot w)) (n : ℕ) → p Vacant ≡ false → ss ≡ replicate n Vacant → count_by p ss ≡ 0
none_count p ss n h e = ap (count_by p) e ∙ vacant-tests p n h
