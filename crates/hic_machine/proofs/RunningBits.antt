-- The tasks that run, by their bits.
use Rattle.std.proofs.Common.{◌≡◌, ℕ, zero, suc, ◌+◌, ◌<◌, ◌*◌, ◌%◌, ◌^◌, ◌≤◌, ◌==◌, add-one, w16, eqb, Bool, true, false, List, [], ◌∷◌, length, take, get_or, refl, sym, ◌∙◌, ap, subst, arith, filter, if◌then◌else◌}
use Rattle.std.specs.Int.{bit_at}
use Rattle.std.specs.Int.Bits.{bit_or}
use Rattle.std.specs.List.{range_with_len}
use Rattle.std.proofs.lemmas.Bool.{eqb-true}
use Rattle.std.proofs.lemmas.Bool.Decides.{nat_tests}
use Rattle.std.proofs.lemmas.Nat.Bits.{bit_at-zero, bit_at_set_same, bit_at_set_other}
use Rattle.hic_word.specs.Memory.{Memory}
use Rattle.hic_plain.specs.Machine.{Task}
use Rattle.hic_plain.specs.Run.{running_from}
use Rattle.task_sched.specs.Pick.{tasks_in}
use Rattle.hic_task.specs.declared.task.Task.{Task as Kept}
use Rattle.hic_machine.specs.Held.{TasksFor}

-- the task at a number is there and runs
abbrev pub runs_at : List Kept → ℕ → Bool
runs_at [] t = false
runs_at (k ∷ ks) zero = k.runs
runs_at (k ∷ ks) (suc t) = runs_at ks t

-- each bit says whether the task runs
abbrev pub AreBits : ℕ → List Kept → Type 0
AreBits bits ks = (t : ℕ) → (bit_at bits t == 1) ≡ runs_at ks t

-- ---- the numbers whose bits are set are those of the tasks that run

module _ (p : ℕ → Bool) where
  shifted : (i t : ℕ) (b : Bool) → p (i + suc t) ≡ b → p (i + 1 + t) ≡ b
  shifted i t b e = let same : i + 1 + t ≡ i + suc t = omega arith in ap p same ∙ e

  first : (i : ℕ) (b : Bool) → p (i + 0) ≡ b → p i ≡ b
  first i b e = let same : i ≡ i + 0 = omega arith in ap p same ∙ e

  none_set : (i n : ℕ) → ((t : ℕ) → p (i + t) ≡ false) → filter p (range_with_len i n) ≡ []
  none_set i zero are = refl
  none_set i (suc n) are = rw (first i false (are 0)) (none_set (i + 1) n (λ t. shifted i t false (are (suc t))))

  pub set_run : (m : Memory) (i n : ℕ) (ks : List Kept) (Ts : List Task) → TasksFor m ks Ts → length ks ≤ n → ((t : ℕ) → p (i + t) ≡ runs_at ks t) → filter p (range_with_len i n) ≡ running_from i Ts
  set_run m i n [] [] d low are = none_set i n are
  set_run m i n [] (T ∷ Ts) d low are = absurd d
  set_run m i n (k ∷ ks) [] d low are = absurd d
  set_run m i zero (k ∷ ks) (T ∷ Ts) d low are = absurd (omega (arith, low))
  set_run m i (suc n) (k ∷ ks) (T ∷ Ts) d low are =
      rw (first i k.runs (are 0), d.0.runs) (ap (λ xs. if T.runs then i ∷ xs else xs) (set_run m (i + 1) n ks Ts d.1 (omega (arith, low)) (λ t. shifted i t (runs_at ks t) (are (suc t)))))

pub bits_are : (m : Memory) (bits : ℕ) (ks : List Kept) (Ts : List Task) → TasksFor m ks Ts → length ks ≤ 16 → AreBits bits ks → tasks_in bits ≡ running_from 0 Ts
unfolding tasks_in
bits_are m bits ks Ts d low are = set_run (λ t. bit_at bits t == 1) m 0 16 ks Ts d low (λ t. let same : 0 + t ≡ t = omega arith in ap (λ i. bit_at bits i == 1) same ∙ are t)

-- ---- one task more

pub no_bits : (t : ℕ) → (bit_at 0 t == 1) ≡ false
no_bits t = ap (λ b. b == 1) (bit_at-zero t)

next_runs : (n : ℕ) (ks : List Kept) (x : Kept) → n < length ks → runs_at (take (suc n) ks) n ≡ (get_or ks n x).runs
next_runs n [] x low = absurd (omega (arith, low))
next_runs zero (k ∷ ks) x low = refl
next_runs (suc n) (k ∷ ks) x low = next_runs n ks x (omega (arith, low))

none_there : (n : ℕ) (ks : List Kept) → runs_at (take n ks) n ≡ false
none_there zero [] = refl
none_there (suc n) [] = refl
none_there zero (k ∷ ks) = refl
none_there (suc n) (k ∷ ks) = none_there n ks

others_run : (n t : ℕ) (ks : List Kept) → (t ≡ n → ⊥) → runs_at (take (suc n) ks) t ≡ runs_at (take n ks) t
others_run zero t [] other = refl
others_run (suc n) t [] other = refl
others_run zero zero (k ∷ ks) other = absurd (other refl)
others_run zero (suc t) (k ∷ ks) other = refl
others_run (suc n) zero (k ∷ ks) other = refl
others_run (suc n) (suc t) (k ∷ ks) other = others_run n t ks (λ e. other (ap suc e))

module _ (bits more n : ℕ) (ks : List Kept) (x : Kept) (low : n < length ks) (few : length ks ≤ 16) (is : x ≡ get_or ks n x) (are : AreBits bits (take n ks)) where
  pub set_more : x.runs ≡ true → more ≡ bit_or bits (1 * 2 ^ n % 65536) → AreBits more (take (n + 1) ks)
  set_more runs e t = rw (add-one, e) (go (eqb t n) refl)
    where
      here : (bit_at (bit_or bits (1 * 2 ^ n % 65536)) n == 1) ≡ runs_at (take (suc n) ks) n
      here = ap (λ b. b == 1) (bit_at_set_same w16 bits n (omega (arith, low, few))) ∙ sym runs ∙ ap (λ (k : Kept). k.runs) is ∙ sym (next_runs n ks x low)

      other : (t ≡ n → ⊥) → (bit_at (bit_or bits (1 * 2 ^ n % 65536)) t == 1) ≡ runs_at (take (suc n) ks) t
      other not = ap (λ b. b == 1) (bit_at_set_other w16 bits n (omega (arith, low, few)) t not) ∙ are t ∙ sym (others_run n t ks not)

      go : (b : Bool) → eqb t n ≡ b → (bit_at (bit_or bits (1 * 2 ^ n % 65536)) t == 1) ≡ runs_at (take (suc n) ks) t
      go true f = subst (λ i. (bit_at (bit_or bits (1 * 2 ^ n % 65536)) i == 1) ≡ runs_at (take (suc n) ks) i) (sym (eqb-true t n f)) here
      go false f = other (grind (arith, nat_tests, f))

  pub clear_more : x.runs ≡ false → more ≡ bits → AreBits more (take (n + 1) ks)
  clear_more runs e t = rw (add-one, e) (go (eqb t n) refl)
    where
      go : (b : Bool) → eqb t n ≡ b → (bit_at bits t == 1) ≡ runs_at (take (suc n) ks) t
      go true f = subst (λ i. (bit_at bits i == 1) ≡ runs_at (take (suc n) ks) i) (sym (eqb-true t n f)) (are n ∙ none_there n ks ∙ sym runs ∙ ap (λ (k : Kept). k.runs) is ∙ sym (next_runs n ks x low))
      go false f = are t ∙ sym (others_run n t ks (grind (arith, nat_tests, f)))
