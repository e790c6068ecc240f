-- Laws of readers: what they read again, where they find bytes cut, and what they say of the bytes that they took.
use Rattle.std.proofs.Common.{◌≡◌, ℕ, zero, suc, ◌+◌, ◌-◌, ◌<◌, ◌≤◌, Bool, true, false, cond, List, [], ◌∷◌, ◌++◌, length, get_or, take, drop, Option, Some, None, Result, Ok, Err, refl, sym, ap, subst, ◌∙◌, append_assoc, arith, inl, inr}
use Rattle.std.specs.Prelude.{All, nat_lt}
use Rattle.std.proofs.lemmas.Bool.{cases_lt, ltb-false, lt-ltb, le-ltb}
use Rattle.std.proofs.lemmas.List.{append-nil, take_at, drop_at, take-append-drop, take-append-le, length-append, length-take, get_or-drop, get_or-take, get_or_past, nil_from_length}
use Rattle.std.proofs.Math.Seq.{take-append-add}
use Rattle.hic_object.specs.declared.error.ObjectError.{ObjectError}
use Rattle.hic_object.specs.declared.error.ObjectError.TheVariants.{Short}
use Rattle.hic_object.specs.Reading.{Reader, onward, ◌>>=◌, gives, given, field_at, kept, within_at}

-- ---- reading what was spelled

-- a reader reads this value from this text, whatever follows, and finds each cut of the text short
pub record Reads {X : Type 0} (r : Reader X) (text : List ℕ) (x : X) : Type 0 where
  pub again : (rest : List ℕ) → r (text ++ rest) ≡ Ok (x, rest)
  pub cut : (k : ℕ) → k < length text → r (take k text) ≡ Err Short

pub Reads-gives : {X : Type 0} (x : X) → Reads (gives x) [] x
Reads-gives x = record { again = λ rest. refl; cut = λ k lt. absurd (omega arith) }

pub Reads-given : {X : Type 0} (o : Option X) (fault : ObjectError) (x : X) → o ≡ Some x → Reads (given o fault) [] x
Reads-given {X} o fault x is = subst (λ (p : Option X). Reads (given p fault) [] x) (sym is) (Reads-gives x)

pub Reads-field : (n : ℕ) (text : List ℕ) → length text ≡ n → Reads (field_at n) text text
Reads-field n text len = record {
  again = λ rest.
      let long : nat_lt (length (text ++ rest)) n ≡ false = le-ltb _ _ (omega (arith, length-append text rest)) in
      rw (long, take_at text rest n len, drop_at text rest n len) refl;
  cut = λ k lt.
      let short : nat_lt (length (take k text)) n ≡ true = lt-ltb _ _ (omega (arith, length-take k text)) in
      rw short refl;
}

cut_first : {X Y : Type 0} (r : Reader X) (f : X → Reader Y) (a b : List ℕ) (x : X) → Reads r a x → (k : ℕ) → k < length a → (r >>= f) (take k (a ++ b)) ≡ Err Short
cut_first {X} {Y} r f a b x first k lt =
    ap (λ (t : List ℕ). onward (r t) f) (take-append-le k a b (omega arith))
    ∙ ap (λ (q : Result (X × List ℕ) ObjectError). onward q f) (first.cut k lt)

cut_later : {X Y : Type 0} (r : Reader X) (f : X → Reader Y) (a b : List ℕ) (x : X) (y : Y) → Reads r a x → Reads (f x) b y → (k : ℕ) → length a ≤ k → k < length (a ++ b) → (r >>= f) (take k (a ++ b)) ≡ Err Short
cut_later {X} {Y} r f a b x y first second k le lt =
    let n = k - length a in
    let k-is : k ≡ length a + n = omega arith in
    let below : n < length b = omega (arith, length-append a b) in
    ap (λ (j : ℕ). onward (r (take j (a ++ b))) f) k-is
    ∙ ap (λ (t : List ℕ). onward (r t) f) (take-append-add a b n)
    ∙ ap (λ (q : Result (X × List ℕ) ObjectError). onward q f) (first.again (take n b))
    ∙ second.cut n below

-- one text after the other
pub Reads-then : {X Y : Type 0} (r : Reader X) (f : X → Reader Y) (a b : List ℕ) (x : X) (y : Y) → Reads r a x → Reads (f x) b y → Reads (r >>= f) (a ++ b) y
Reads-then {X} {Y} r f a b x y first second = record {
  again = λ rest.
      ap (λ (t : List ℕ). onward (r t) f) (append_assoc a b rest)
      ∙ ap (λ (q : Result (X × List ℕ) ObjectError). onward q f) (first.again (b ++ rest))
      ∙ second.again rest;
  cut = λ k lt.
      elim (cases_lt k (length a)) [
        | inl below ↦ cut_first r f a b x first k below
        | inr from ↦ cut_later r f a b x y first second k from lt
      ];
}

-- what follows takes no bytes
pub Reads-last : {X Y : Type 0} (r : Reader X) (f : X → Reader Y) (a : List ℕ) (x : X) (y : Y) → Reads r a x → Reads (f x) [] y → Reads (r >>= f) a y
Reads-last r f a x y first second = subst (λ (t : List ℕ). Reads (r >>= f) t y) (append-nil a) (Reads-then r f a [] x y first second)

pub Reads-within : {X : Type 0} (n : ℕ) (r : Reader X) (text : List ℕ) (x : X) → length text ≡ n → Reads r text x → Reads (within_at n r) text x
unfolding within_at
Reads-within {X} n r text x len inside =
    let whole : r text ≡ Ok (x, []) = ap r (sym (append-nil text)) ∙ inside.again [] in
    Reads-last (field_at n) (λ bytes. kept (r bytes)) text text x (Reads-field n text len)
    (subst (λ (q : Result (X × List ℕ) ObjectError). Reads (kept q) [] x) (sym whole) (Reads-gives x))

-- ---- the bytes of what was read

abbrev pub IsBytes : List ℕ → Type 0
IsBytes bytes = (i : ℕ) → get_or bytes i 0 < 256

pub IsBytes-from_All : (bytes : List ℕ) → All (λ byte. byte < 256) bytes → IsBytes bytes
IsBytes-from_All bytes small i =
    elim (cases_lt i (length bytes)) [
      | inl lt ↦ small i 0 lt
      | inr le ↦ rw (get_or_past bytes i 0 le) (omega arith)
    ]

IsBytes-drop : (n : ℕ) (bytes : List ℕ) → IsBytes bytes → IsBytes (drop n bytes)
IsBytes-drop n bytes fits i = rw get_or-drop (fits (n + i))

IsBytes-take : (n : ℕ) (bytes : List ℕ) → IsBytes bytes → IsBytes (take n bytes)
IsBytes-take n bytes fits i =
    elim (cases_lt i n) [
      | inl lt ↦ rw (get_or-take n bytes i 0 lt) (fits i)
      | inr le ↦ rw (get_or_past (take n bytes) i 0 (omega (arith, length-take n bytes))) (omega arith)
    ]

-- bytes begin with a text of which something holds
pub record Took (bytes rest : List ℕ) (P : List ℕ → Type 0) : Type 0 where
  pub text : List ℕ
  pub parts : bytes ≡ text ++ rest
  pub fits : IsBytes text
  pub rest_fits : IsBytes rest
  pub says : P text

-- whatever a reader reads, this holds of the value and its text
pub record Tells {X : Type 0} (r : Reader X) (P : X → List ℕ → Type 0) : Type 0 where
  pub takes : (bytes : List ℕ) (x : X) (rest : List ℕ) → IsBytes bytes → r bytes ≡ Ok (x, rest) → Took bytes rest (P x)

pub Tells-weaker : {X : Type 0} (r : Reader X) (P Q : X → List ℕ → Type 0) → Tells r P → ((x : X) (text : List ℕ) → P x text → Q x text) → Tells r Q
Tells-weaker r P Q tells weaker = record {
  takes = λ bytes x rest fits read.
      let t = tells.takes bytes x rest fits read in
      record { text = t.text; parts = t.parts; fits = t.fits; rest_fits = t.rest_fits; says = weaker x t.text t.says };
}

abbrev pub done : {A : Type 0} → A → Result A ObjectError
done x = Ok x

ok_is : {A : Type 0} (x y : A) → done x ≡ done y → x ≡ y
ok_is x y e = cc

pub Tells-gives : {X : Type 0} (x : X) (P : X → List ℕ → Type 0) → P x [] → Tells (gives x) P
Tells-gives {X} x P holds = record {
  takes = λ bytes y rest fits read.
      let same = ok_is (x, bytes) (y, rest) read in
      subst (λ (p : X × List ℕ). Took bytes p.1 (P p.0)) same
      (record { text = []; parts = refl; fits = λ i. omega arith; rest_fits = fits; says = holds });
}

pub Tells-given : {X : Type 0} (o : Option X) (fault : ObjectError) (P : X → List ℕ → Type 0) → ((x : X) → o ≡ Some x → P x []) → Tells (given o fault) P
Tells-given (Some x) fault P holds = Tells-gives x P (holds x refl)
Tells-given None fault P holds = record { takes = λ bytes y rest fits read. absurd cc }

-- the value of a step that did not fail
bind_ok : {X Y : Type 0} (r : Result (X × List ℕ) ObjectError) (f : X → Reader Y) (y : Y × List ℕ) → onward r f ≡ Ok y → (x : X × List ℕ) × (r ≡ Ok x) × (f x.0 x.1 ≡ Ok y)
bind_ok (Ok x) f y e = (x, refl, e)
bind_ok (Err d) f y e = absurd cc

IsBytes-append : (a b : List ℕ) → IsBytes a → IsBytes b → IsBytes (a ++ b)
IsBytes-append [] b p q i = q i
IsBytes-append (x ∷ a) b p q zero = p zero
IsBytes-append (x ∷ a) b p q (suc i) = IsBytes-append a b (λ j. p (suc j)) q i

pub Tells-then : {X Y : Type 0} (r : Reader X) (f : X → Reader Y) (P : X → List ℕ → Type 0) (Q : Y → List ℕ → Type 0) → Tells r P → ((x : X) (a : List ℕ) → IsBytes a → P x a → Tells (f x) (λ y b. Q y (a ++ b))) → Tells (r >>= f) Q
Tells-then {X} {Y} r f P Q first second = record {
  takes = λ bytes y rest fits read.
      let step = bind_ok (r bytes) f (y, rest) read in
      let one = first.takes bytes step.0.0 step.0.1 fits step.1 in
      let two = (second step.0.0 one.text one.fits one.says).takes step.0.1 y rest one.rest_fits step.2 in
      record {
        text = one.text ++ two.text;
        parts = one.parts ∙ ap (λ (t : List ℕ). one.text ++ t) two.parts ∙ sym (append_assoc one.text two.text rest);
        fits = IsBytes-append one.text two.text one.fits two.fits;
        rest_fits = two.rest_fits;
        says = two.says;
      };
}

guard_ok : {A : Type 0} (b : Bool) (fault : ObjectError) (x y : A) → cond b (Err fault) (Ok x) ≡ Ok y → (b ≡ false) × (x ≡ y)
guard_ok true fault x y e = absurd cc
guard_ok false fault x y e = (refl, cc)

pub Tells-field : (n : ℕ) → Tells (field_at n) (λ x text. (x ≡ text) × (length text ≡ n))
Tells-field n = record {
  takes = λ bytes x rest fits read.
      let g = guard_ok (nat_lt (length bytes) n) Short (take n bytes, drop n bytes) (x, rest) read in
      let long : n ≤ length bytes = ltb-false _ _ g.0 in
      subst (λ (p : List ℕ × List ℕ). Took bytes p.1 (λ text. (p.0 ≡ text) × (length text ≡ n))) g.1
      (record {
        text = take n bytes;
        parts = sym (take-append-drop n bytes);
        fits = IsBytes-take n bytes fits;
        rest_fits = IsBytes-drop n bytes fits;
        says = (refl, omega (arith, length-take n bytes));
      });
}

kept_ok : {X : Type 0} (q : Result (X × List ℕ) ObjectError) (bytes : List ℕ) (x : X × List ℕ) → kept q bytes ≡ Ok x → (rest : List ℕ) × (q ≡ Ok (x.0, rest)) × (bytes ≡ x.1)
kept_ok {X} (Ok y) bytes x e =
    let same = ok_is (y.0, bytes) x e in
    (y.1, ap (λ (p : X × List ℕ). done (p.0, y.1)) same, ap (λ (p : X × List ℕ). p.1) same)
kept_ok (Err d) bytes x e = absurd cc

-- a text that fills the whole field is the field
pub Tells-within : {X : Type 0} (n : ℕ) (r : Reader X) (P : X → List ℕ → Type 0) → Tells r P → ((x : X) (text : List ℕ) → P x text → length text ≡ n) → Tells (within_at n r) P
unfolding within_at
Tells-within {X} n r P tells fills =
    Tells-then (field_at n) (λ bytes. kept (r bytes)) (λ x text. (x ≡ text) × (length text ≡ n)) P (Tells-field n) (λ bytes text text_fits says. record {
      takes = λ later x rest later_fits read.
          let k = kept_ok (r bytes) later (x, rest) read in
          let t = tells.takes bytes x k.0 (subst IsBytes (sym says.0) text_fits) k.1 in
          let len : length t.text ≡ n = fills x t.text t.says in
          let nothing : k.0 ≡ [] = nil_from_length k.0 (omega (arith, length-append t.text k.0, ap length t.parts, ap length says.0)) in
          let same : t.text ≡ text ++ [] = sym (append-nil t.text) ∙ ap (λ (u : List ℕ). t.text ++ u) (sym nothing) ∙ sym t.parts ∙ says.0 ∙ sym (append-nil text) in
          record {
            text = [];
            parts = k.2;
            fits = λ i. omega arith;
            rest_fits = subst IsBytes k.2 later_fits;
            says = subst (P x) same t.says;
          };
    })

-- ---- a value that is picked from what was read

pub Reads-picked : {X Y : Type 0} (r : Reader X) (pick : X → Option Y) (fault : X → ObjectError) (a : List ℕ) (x : X) (y : Y) → Reads r a x → pick x ≡ Some y → Reads (r >>= λ v. given (pick v) (fault v)) a y
Reads-picked r pick fault a x y reads is = Reads-last r (λ v. given (pick v) (fault v)) a x y reads (Reads-given (pick x) (fault x) y is)

pub Tells-picked : {X Y : Type 0} (r : Reader X) (pick : X → Option Y) (fault : X → ObjectError) (P : X → List ℕ → Type 0) (Q : Y → List ℕ → Type 0)
    → Tells r P → ((x : X) (y : Y) (text : List ℕ) → IsBytes text → P x text → pick x ≡ Some y → Q y text) → Tells (r >>= λ v. given (pick v) (fault v)) Q
Tells-picked {X} {Y} r pick fault P Q tells picked =
    Tells-then r (λ v. given (pick v) (fault v)) P Q tells (λ x a fits says.
    Tells-given (pick x) (fault x) (λ y b. Q y (a ++ b)) (λ y is.
    subst (Q y) (sym (append-nil a)) (picked x y a fits says is)))

-- ---- a value that is made of what was read

pub Reads-made : {X Y : Type 0} (r : Reader X) (make : X → Y) (a : List ℕ) (x : X) → Reads r a x → Reads (r >>= λ v. gives (make v)) a (make x)
Reads-made r make a x reads = Reads-last r (λ v. gives (make v)) a x (make x) reads (Reads-gives (make x))

pub Tells-made : {X Y : Type 0} (r : Reader X) (make : X → Y) (P : X → List ℕ → Type 0) (Q : Y → List ℕ → Type 0)
    → Tells r P → ((x : X) (text : List ℕ) → IsBytes text → P x text → Q (make x) text) → Tells (r >>= λ v. gives (make v)) Q
Tells-made {X} {Y} r make P Q tells makes =
    Tells-then r (λ v. gives (make v)) P Q tells (λ x a fits says.
    Tells-gives (make x) (λ y b. Q y (a ++ b)) (subst (Q (make x)) (sym (append-nil a)) (makes x a fits says)))
