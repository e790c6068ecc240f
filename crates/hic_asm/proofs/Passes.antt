-- A pass over lines, one after the other.
use Rattle.std.proofs.Common.{◌≡◌, ℕ, ◌+◌, List, [], ◌∷◌, Result, Ok, Err, refl, ap, sym, subst, ◌∙◌, arith}
use Rattle.hic_asm.specs.declared.error.Fault.{Fault}
use Rattle.hic_asm.specs.declared.error.AsmError.{AsmError}
use Rattle.hic_asm.specs.Faults.{and_then}
use Rattle.hic_asm.specs.Assembly.{pass, in_line}

module _ {X : Type 0} (line : X → List ℕ → Result X Fault) (before number : ℕ) (state : X) (all : List (List ℕ)) (total : Result X AsmError) (number_is : number ≡ before + 1) (so_far : pass line (before + 1) state all ≡ total) where
  step : (bytes : List ℕ) (rest : List (List ℕ)) → all ≡ bytes ∷ rest → and_then (in_line number (line state bytes)) (λ next. pass line (number + 1) next rest) ≡ total
  unfolding pass
  step bytes rest is = ap (λ n. and_then (in_line n (line state bytes)) (λ next. pass line (n + 1) next rest)) number_is ∙ sym (ap (pass line (before + 1) state) is) ∙ so_far

  -- a line without a fault is passed
  pub pass-next : (bytes : List ℕ) (rest : List (List ℕ)) (next : X) → all ≡ bytes ∷ rest → in_line number (line state bytes) ≡ Ok next → pass line (number + 1) next rest ≡ total
  pass-next bytes rest next is fine = sym (ap (λ r. and_then r (λ x. pass line (number + 1) x rest)) fine) ∙ step bytes rest is

  -- the first fault is the pass's
  pub pass-fault : (bytes : List ℕ) (rest : List (List ℕ)) (error : AsmError) → all ≡ bytes ∷ rest → in_line number (line state bytes) ≡ Err error → total ≡ Err error
  pass-fault bytes rest error is fault = sym (step bytes rest is) ∙ ap (λ r. and_then r (λ x. pass line (number + 1) x rest)) fault

  -- after the last line the state is the pass's
  pub pass-end : all ≡ [] → total ≡ Ok state
  unfolding pass
  pass-end is = sym so_far ∙ ap (pass line (before + 1) state) is

-- ---- what a pass keeps and adds

value_or : {X : Type 0} → X → Result X AsmError → X
value_or d (Ok x) = x
value_or d (Err e) = d

passed_at : {X : Type 0} (P : X → Type 0) (Q : Type 0) (number : ℕ) (r : Result X Fault) (onward : X → Result X AsmError) (out : X)
    → ((x : X) → r ≡ Ok x → P x) → ((x : X) → P x → onward x ≡ Ok out → Q) → and_then (in_line number r) onward ≡ Ok out → Q
passed_at P Q number (Ok x) onward out here further is = further x (here x refl) is
passed_at P Q number (Err f) onward out here further is = absurd (cc)

-- what each line keeps is kept by a pass
pub pass-keeps : {X : Type 0} (P : X → Type 0) (line : X → List ℕ → Result X Fault) → ((x : X) (bytes : List ℕ) (next : X) → P x → line x bytes ≡ Ok next → P next)
    → (number : ℕ) (state : X) (lines : List (List ℕ)) (out : X) → P state → pass line number state lines ≡ Ok out → P out
unfolding pass value_or
pass-keeps P line keeps number state [] out here is = let same : state ≡ out = ap (value_or state) is in subst P same here
pass-keeps P line keeps number state (bytes ∷ rest) out here is =
    passed_at P (P out) number (line state bytes) (λ next. pass line (number + 1) next rest) out (λ next fine. keeps state bytes next here fine) (λ next kept further. pass-keeps P line keeps (number + 1) next rest out kept further) is

abbrev pub total : (List ℕ → ℕ) → List (List ℕ) → ℕ
total count [] = 0
total count (bytes ∷ rest) = count bytes + total count rest

-- what each line adds is added by a pass
pub pass-adds : {X : Type 0} (m : X → ℕ) (count : List ℕ → ℕ) (line : X → List ℕ → Result X Fault) → ((x : X) (bytes : List ℕ) (next : X) → line x bytes ≡ Ok next → m next ≡ m x + count bytes)
    → (number : ℕ) (state : X) (lines : List (List ℕ)) (out : X) → pass line number state lines ≡ Ok out → m out ≡ m state + total count lines
unfolding pass value_or
pass-adds m count line adds number state [] out is = let same : state ≡ out = ap (value_or state) is in omega (arith, ap m same)
pass-adds m count line adds number state (bytes ∷ rest) out is =
    passed_at (λ x. m x ≡ m state + count bytes) (m out ≡ m state + (count bytes + total count rest)) number (line state bytes) (λ next. pass line (number + 1) next rest) out
    (λ next fine. adds state bytes next fine)
    (λ next here further. let later = pass-adds m count line adds (number + 1) next rest out further in omega arith) is
