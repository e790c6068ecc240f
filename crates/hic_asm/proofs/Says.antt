-- What a result tells of its value, where it has one.
use Rattle.std.proofs.Common.{◌≡◌, ℕ, Bool, true, false, cond, List, [], ◌∷◌, Option, Some, None, Result, Ok, Err, refl, ap, subst}
use Rattle.hic_asm.specs.declared.error.Fault.{Fault}
use Rattle.hic_asm.specs.Faults.{given, and_then}
use Rattle.hic_asm.specs.Lines.{Reader, gives, word_at, with_rest, onward, ◌>>=◌, value, counted}

-- a value has this
pub record Says {X : Type 0} (P : X → Type 0) (r : Result X Fault) : Type 0 where
  pub says : (x : X) → r ≡ Ok x → P x

-- the value that is read has this
pub record Tells {X : Type 0} (P : X → Type 0) (r : Reader X) : Type 0 where
  pub tells : (words : List (List ℕ)) (x : X) (rest : List (List ℕ)) → r words ≡ Ok (x, rest) → P x

-- the value of a result, and the value that was read
value_or : {X : Type 0} → X → Result X Fault → X
value_or d (Ok x) = x
value_or d (Err fault) = d

first_or : {X : Type 0} → X → Result (X × List (List ℕ)) Fault → X
first_or d (Ok p) = p.0
first_or d (Err fault) = d

pub Says-ok : {X : Type 0} (P : X → Type 0) (x : X) → P x → Says P (Ok x)
unfolding value_or
Says-ok P x here = record { says = λ y e. let same : x ≡ y = ap (value_or x) e in subst P same here }

pub Says-err : {X : Type 0} (P : X → Type 0) (fault : Fault) → Says P (Err fault)
Says-err P fault = record { says = λ y e. absurd (cc) }

pub Says-cond : {X : Type 0} (P : X → Type 0) (b : Bool) (r s : Result X Fault) → (b ≡ true → Says P r) → (b ≡ false → Says P s) → Says P (cond b r s)
Says-cond P true r s p q = p refl
Says-cond P false r s p q = q refl

pub Says-given : {X : Type 0} (P : X → Type 0) (o : Option X) (fault : Fault) → ((x : X) → o ≡ Some x → P x) → Says P (given o fault)
Says-given P None fault all = Says-err P fault
Says-given P (Some x) fault all = Says-ok P x (all x refl)

pub Says-then : {X Y : Type 0} (P : Y → Type 0) (r : Result X Fault) (f : X → Result Y Fault) → ((x : X) → r ≡ Ok x → Says P (f x)) → Says P (and_then r f)
Says-then P (Ok x) f all = all x refl
Says-then P (Err fault) f all = Says-err P fault

pub Tells-gives : {X : Type 0} (P : X → Type 0) (x : X) → P x → Tells P (gives x)
unfolding first_or
Tells-gives P x here = record { tells = λ words y rest e. let same : x ≡ y = ap (first_or x) e in subst P same here }

read_first : {X : Type 0} (P : X → Type 0) (r : Result X Fault) (after : List (List ℕ)) (x : X) (rest : List (List ℕ)) → Says P r → with_rest after r ≡ Ok (x, rest) → P x
unfolding first_or
read_first P (Ok y) after x rest all e = let same : y ≡ x = ap (first_or y) e in subst P same (all.says y refl)
read_first P (Err fault) after x rest all e = absurd (cc)

pub Tells-word : {X : Type 0} (P : X → Type 0) (read : List ℕ → Result X Fault) → ((word : List ℕ) → Says P (read word)) → Tells P (word_at read)
Tells-word P read all = record { tells = by }
  where
    by : (words : List (List ℕ)) (x : _) (rest : List (List ℕ)) → word_at read words ≡ Ok (x, rest) → P x
    by [] x rest e = absurd (cc)
    by (word ∷ words) x rest e = read_first P (read word) words x rest (all word) e

read_then : {X Y : Type 0} (P : X → Type 0) (Q : Y → Type 0) (r : Result (X × List (List ℕ)) Fault) (f : X → Reader Y) (y : Y) (rest : List (List ℕ))
    → ((x : X) (after : List (List ℕ)) → r ≡ Ok (x, after) → P x) → ((x : X) → P x → Tells Q (f x)) → onward r f ≡ Ok (y, rest) → Q y
read_then P Q (Ok p) f y rest first second e = (second p.0 (first p.0 p.1 refl)).tells p.1 y rest e
read_then P Q (Err fault) f y rest first second e = absurd (cc)

pub Tells-then : {X Y : Type 0} (P : X → Type 0) (Q : Y → Type 0) (r : Reader X) (f : X → Reader Y) → Tells P r → ((x : X) → P x → Tells Q (f x)) → Tells Q (r >>= f)
Tells-then P Q r f first second = record { tells = λ words y rest e. read_then P Q (r words) f y rest (λ x after is. first.tells words x after is) second e }

read_value : {X : Type 0} (P : X → Type 0) (r : Result (X × List (List ℕ)) Fault) → ((x : X) (rest : List (List ℕ)) → r ≡ Ok (x, rest) → P x) → Says P (value r)
read_value P (Ok p) all = Says-ok P p.0 (all p.0 p.1 refl)
read_value P (Err fault) all = Says-err P fault

counted_then : {X : Type 0} (P : X → Type 0) (r : Reader X) (test : Result (List (List ℕ)) Fault) → Tells P r → (x : X) (rest : List (List ℕ)) → and_then test r ≡ Ok (x, rest) → P x
counted_then P r (Ok words) tells x rest e = tells.tells words x rest e
counted_then P r (Err fault) tells x rest e = absurd (cc)

pub Says-value : {X : Type 0} (P : X → Type 0) (r : Reader X) (count : ℕ) (words : List (List ℕ)) → Tells P r → Says P (value (counted count r words))
Says-value P r count words tells = read_value P (counted count r words) (counted_then P r _ tells)
