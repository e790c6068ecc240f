-- Lists by links: a link leads to one list, without a member twice, and a change elsewhere leaves it.
use Rattle.std.proofs.Common.{◌≡◌, ℕ, zero, suc, ◌+◌, ◌<◌, ◌≤◌, true, false, eqb, List, [], ◌∷◌, ◌++◌, length, Option, Some, None, IsSome, refl, sym, ap, ◌∙◌, subst, arith, inl, inr, ◌||◌}
use Rattle.std.specs.List.{AllByRecursion, IsDistinct, list_any}
use Rattle.std.proofs.lemmas.Bool.{ne_eqb, eqb-true, cases_Bool}
use Rattle.std.proofs.lemmas.Map.Steps.{length-le_from_distinct_below}
use Rattle.hic_word.specs.Lists.{In}
use Rattle.line_slots.specs.Linked.{LeadsTo, and_then, followed}
use Rattle.line_slots.proofs.ListReads.{In-append_right}

-- a member by the test of a set
In_from_any : (q : ℕ) (xs : List ℕ) → list_any (eqb q) xs ≡ true → In q xs
In_from_any q [] h = cc
In_from_any q (x ∷ xs) h = elim (cases_Bool (eqb q x)) [
  | inl e ↦ inl (sym (eqb-true q x e))
  | inr e ↦ inr (In_from_any q xs (sym (ap (λ b. b || list_any (eqb q) xs) e) ∙ h))
]

all_apart : (x : ℕ) (xs : List ℕ) → (In x xs → ⊥) → AllByRecursion (λ y. eqb x y ≡ false) xs
all_apart x [] n = tt
all_apart x (y ∷ ys) n = (ne_eqb x y (λ e. n (inl (sym e))), all_apart x ys (λ i. n (inr i)))

module _ (next : ℕ → Option ℕ) (end : ℕ) (ends : next end ≡ None) where
  pub followed-leads : (link : ℕ) (xs : List ℕ) (n : ℕ) → LeadsTo next end link xs → length xs ≤ n → followed next n link ≡ xs
  followed-leads link [] zero h small = refl
  followed-leads link [] (suc n) h small = ap (λ o. and_then link o (followed next n)) (ap next h ∙ ends)
  followed-leads link (x ∷ xs) zero h small = absurd (omega arith)
  followed-leads link (x ∷ xs) (suc n) h small =
      ap (λ k. and_then k (next k) (followed next n)) h.0
      ∙ ap (λ o. and_then x o (followed next n)) h.2
      ∙ ap (λ ys. x ∷ ys) (followed-leads h.1 xs n h.3 (omega arith))

  pub leads_once : (link : ℕ) (xs ys : List ℕ) → LeadsTo next end link xs → LeadsTo next end link ys → xs ≡ ys
  leads_once link xs ys h k = sym (followed-leads link xs (length xs + length ys) h (omega arith)) ∙ followed-leads link ys (length xs + length ys) k (omega arith)

  -- what follows a member is led to from it
  after_member : (x link : ℕ) (xs : List ℕ) → In x xs → LeadsTo next end link xs → (ys : List ℕ) × LeadsTo next end x (x ∷ ys) × (length ys < length xs)
  after_member x link [] i h = absurd i
  after_member x link (y ∷ ys) (inl e) h = subst (λ z. (zs : List ℕ) × LeadsTo next end z (z ∷ zs) × (length zs < length (y ∷ ys))) e (ys, (refl, h.1, h.2, h.3), omega arith)
  after_member x link (y ∷ ys) (inr i) h = let (zs, l, s) = after_member x h.1 ys i h.3 in (zs, l, omega (arith, s))

  pub no_second : (link x : ℕ) (xs : List ℕ) → LeadsTo next end link (x ∷ xs) → In x xs → ⊥
  no_second link x xs h i =
      let (zs, l, s) = after_member x h.1 xs i h.3 in
      let e = ap length (leads_once x (x ∷ xs) (x ∷ zs) (refl, h.1, h.2, h.3) l) in
      omega (arith, e, s)

  -- a member has a link
  pub has_link : (x link : ℕ) (xs : List ℕ) → In x xs → LeadsTo next end link xs → IsSome (next x)
  has_link x link [] i h = absurd i
  has_link x link (y ∷ ys) (inl e) h = subst (λ z. IsSome (next z)) e (subst (λ o. IsSome o) (sym h.2) refl)
  has_link x link (y ∷ ys) (inr i) h = has_link x h.1 ys i h.3

  distinct : (link : ℕ) (xs : List ℕ) → LeadsTo next end link xs → IsDistinct eqb xs
  unfolding IsDistinct
  distinct link [] h = tt
  distinct link (x ∷ xs) h = (all_apart x xs (no_second link x xs h), distinct h.1 xs h.3)

  -- members below a bound are at most as many
  pub few_members : (link : ℕ) (xs : List ℕ) (n : ℕ) → ((x : ℕ) → IsSome (next x) → x < n) → LeadsTo next end link xs → length xs ≤ n
  few_members link xs n low h = length-le_from_distinct_below xs n (distinct link xs h) (λ q m. low q (has_link q link xs (In_from_any q xs m) h))

-- links that are the same in the members lead to the same ones
pub leads_same : (next other : ℕ → Option ℕ) (end link : ℕ) (xs : List ℕ) → ((x : ℕ) → In x xs → other x ≡ next x) → LeadsTo next end link xs → LeadsTo other end link xs
leads_same next other end link [] same h = h
leads_same next other end link (x ∷ xs) same h = (h.0, h.1, same x (inl refl) ∙ h.2, leads_same next other end h.1 xs (λ y i. same y (inr i)) h.3)

-- a member is there once
pub no_second_in : (next : ℕ → Option ℕ) (end : ℕ) → next end ≡ None → (link x : ℕ) (xs ys : List ℕ) → LeadsTo next end link (xs ++ x ∷ ys) → In x xs → ⊥
no_second_in next end ends link x [] ys h i = i
no_second_in next end ends link x (z ∷ xs) ys h (inl e) = no_second next end ends link z (xs ++ x ∷ ys) h (subst (λ y. In y (xs ++ x ∷ ys)) (sym e) (In-append_right x xs (x ∷ ys) (inl refl)))
no_second_in next end ends link x (z ∷ xs) ys h (inr i) = no_second_in next end ends h.1 x xs ys h.3 i

-- the links from a member on
pub led_from : (next : ℕ → Option ℕ) (end link : ℕ) (xs ys : List ℕ) → LeadsTo next end link (xs ++ ys) → (from : ℕ) × LeadsTo next end from ys
led_from next end link [] ys h = (link, h)
led_from next end link (x ∷ xs) ys h = led_from next end h.1 xs ys h.3

-- a member is passed by
pub led_past : (next other : ℕ → Option ℕ) (end link b x after : ℕ) (xs ys : List ℕ) → LeadsTo next end link (xs ++ b ∷ x ∷ ys) → ((z : ℕ) → In z xs → other z ≡ next z) → ((z : ℕ) → In z ys → other z ≡ next z) → next x ≡ Some after → other b ≡ Some after → LeadsTo other end link (xs ++ b ∷ ys)
led_past next other end link b x after [] ys h f g n o =
    let same : h.3.1 ≡ after = let e = sym h.3.2 ∙ n in one_number h.3.1 after e in
    (h.0, after, o, leads_same next other end after ys g (subst (λ l. LeadsTo next end l ys) same h.3.3))
  where
    one_number : (i j : ℕ) → ◌≡◌ {A = Option ℕ} (Some i) (Some j) → i ≡ j
    one_number i j e = cc
led_past next other end link b x after (z ∷ xs) ys h f g n o = (h.0, h.1, f z (inl refl) ∙ h.2, led_past next other end h.1 b x after xs ys h.3 (λ w i. f w (inr i)) g n o)
