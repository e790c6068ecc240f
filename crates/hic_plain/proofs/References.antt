-- An array has each line of the arrays that it references.
use Rattle.std.proofs.Common.{◌≡◌, ℕ, zero, suc, ◌+◌, ◌-◌, ◌*◌, ◌/◌, ◌%◌, ◌^◌, ◌<◌, ◌≤◌, ltb, Bool, true, false, List, [], ◌∷◌, map, Option, Some, None, refl, sym, ◌∙◌, ap, subst, arith, inl, inr}
use Rattle.std.proofs.Math.Nat.{div-lt_iff_lt-mul, mod-add-div, mod-lt, mul-one, mul_comm, one-le-pow, pow-succ', pow-zero}
use Rattle.std.proofs.lemmas.Bool.{cases_lt}
use Rattle.hic_word.specs.Width.{IsWidth, pack_limit}
use Rattle.hic_word.specs.Lists.{In}
use Rattle.hic_word.specs.Values.{Value, Number, Ref, Pairs, Array, IsArray, array, at}
use Rattle.hic_word.specs.Heights.{height}
use Rattle.hic_word.specs.Entries.{LineValue, Leaf, Named}
use Rattle.hic_word.specs.Parts.{part, values}
use Rattle.hic_word.specs.Canon.{IsPart, enc, lowest, root_entry, small, small_more}
use Rattle.hic_word.specs.Lines.{children, found, line_of_value, reach, visit, visit_from}
use Rattle.hic_word.proofs.callers.Forms.{heights_are_least, at_high, parts_are_parts, two_words}
use Rattle.line_room.proofs.ArrayLines.{child_in, lines_visit, root_in, visit_lines, visits_in}
use Rattle.line_room.proofs.PartLines.{parts_have_lines}

-- values with a reference are not all small numbers
not_small : (l : ℕ) (vs : List Value) (H : Pairs) → In (Ref H) vs → small l vs ≡ None
not_small l [] H i = absurd i
not_small l (Ref K ∷ vs) H i = refl
not_small l (Number n ∷ vs) H (inl e) = absurd cc
not_small l (Number n ∷ vs) H (inr i) = go (ltb n l) (small l vs) (not_small l vs H i)
  where
    go : (t : Bool) (o : Option (List ℕ)) → o ≡ None → small_more t n o ≡ None
    go true None e = refl
    go true (Some ns) e = absurd cc
    go false o e = refl

-- a value of an array is one of its values
value_there : (n i j : ℕ) (A : Array) → i ≤ j → j < i + n → In (at A j) (values n i A)
value_there zero i j A low high = absurd (omega (arith, low, high))
value_there (suc n) i j A low high = elim (cases_lt i j) [
  | inl less ↦ inr (value_there n (suc i) j A (omega (arith, less)) (omega (arith, high)))
  | inr reached ↦ inl (let same : i ≡ j = omega (arith, low, reached) in ap (at A) same)
]

-- the line that a value names is one that a leaf names
named_there : (w : ℕ) (vs : List Value) (v : Value) (M : LineValue) → In v vs → line_of_value w v ≡ Some M → In M (found (map (line_of_value w) vs))
named_there w [] v M i e = absurd i
named_there w (u ∷ vs) v M (inl same) e = go (line_of_value w u) (ap (line_of_value w) same ∙ e)
  where
    go : (o : Option LineValue) → o ≡ Some M → In M (found (o ∷ map (line_of_value w) vs))
    go None f = absurd cc
    go (Some K) f = inl cc
named_there w (u ∷ vs) v M (inr later) e = go (line_of_value w u) (named_there w vs v M later e)
  where
    go : (o : Option LineValue) → In M (found (map (line_of_value w) vs)) → In M (found (o ∷ map (line_of_value w) vs))
    go None i = i
    go (Some K) i = inr i

module _ {w : ℕ} (width : IsWidth w) (H : Pairs) (L : LineValue) (inside : In L (visit w (array H))) where
  -- what a line of an array names, an array has with all below
  below_it : (A : Array) (K : LineValue) → IsArray A → In K (visit w A) → ((M : LineValue) → line_of_value w (Ref H) ≡ Some M → In M (children w K)) → In L (visit w A)
  below_it A K valid there names = go (line_of_value w (Ref H)) refl inside
    where
      go : (o : Option LineValue) → line_of_value w (Ref H) ≡ o → In L (visit_from w (reach (array H)) o) → In L (visit w A)
      go None e i = absurd i
      go (Some M) e i = visits_in w (reach (array H)) M L (visit w A) (λ N K. child_in width A N K valid) (child_in width A K M valid there (names M e)) i

  -- an array of one leaf
  in_leaf : (A : Array) (o : ℕ) → IsPart w 1 A → at A o ≡ Ref H → o < w → In L (visit w A)
  in_leaf [] o is e low = absurd cc
  in_leaf (p ∷ A) o is e low =
      let own = heights_are_least w (p ∷ A) width is.valid in
      let one : height w (p ∷ A) ≡ 1 = (let most = own.least 1 (omega arith) is.below in let least = own.positive (λ f. cc) in omega (arith, most, least)) in
      let vs = values w 0 (p ∷ A) in
      let there : In (Ref H) vs = subst (λ v. In v vs) e (value_there w 0 o (p ∷ A) (omega arith) (omega (arith, low))) in
      let entry : root_entry w (p ∷ A) ≡ Named (Leaf vs) [] = ap (λ (h : ℕ). enc w h (p ∷ A)) one ∙ ap (λ x. lowest x vs) (not_small (pack_limit w) vs H there) in
      below_it (p ∷ A) (Leaf vs) is.valid (root_in width (p ∷ A) (Leaf vs) [] is.valid entry) (λ M. named_there w vs (Ref H) M there)

  -- an array of any height
  in_part : (k h : ℕ) (A : Array) (o : ℕ) → h ≡ suc k → IsPart w h A → at A o ≡ Ref H → o < w ^ h → In L (visit w A)
  in_part zero h A o is whole e low =
      let one : w ^ h ≡ w = ap (λ n. w ^ n) is ∙ pow-succ' w 0 ∙ ap (λ m. w * m) (pow-zero w) ∙ mul-one w in
      in_leaf A o (subst (λ n. IsPart w n A) is whole) e (omega (arith, low, one))
  in_part (suc k) h A o is whole e low =
      let s = w ^ (h - 1) in
      let two = two_words width in
      let some : 1 ≤ s = one-le-pow (h - 1) w (omega (arith, two)) in
      let up : h ≡ suc (h - 1) = omega (arith, is) in
      let all : w ^ h ≡ w * s = ap (λ n. w ^ n) up ∙ pow-succ' w (h - 1) in
      let place : o / s < w = (div-lt_iff_lt-mul (omega (arith, some))).1 (subst (λ n. o < n) all low) in
      let rest : o % s < s = mod-lt o (omega (arith, some)) in
      let sub = parts_are_parts w h (o / s) A (omega (arith, is)) whole in
      let value : at (part w A h (o / s)) (o % s) ≡ Ref H = sub.values (o % s) rest ∙ (let same : o / s * s + o % s ≡ o = omega (arith, mod-add-div o s, mul_comm s (o / s)) in ap (at A) same) ∙ e in
      lines_visit w A L (parts_have_lines w h (o / s) A L width (omega (arith, is)) place whole (visit_lines w (part w A h (o / s)) L (in_part k (h - 1) (part w A h (o / s)) (o % s) (omega (arith, is)) sub.is_part value rest)))

-- each line of an array that is referenced is one of the array's
pub referenced_lines : {w : ℕ} → IsWidth w → (A : Array) (o : ℕ) (H : Pairs) → IsArray A → at A o ≡ Ref H → (L : LineValue) → In L (visit w (array H)) → In L (visit w A)
referenced_lines {w} width A o H valid e L inside =
    let own = heights_are_least w A width valid in
    let some : 1 ≤ height w A = own.positive (λ empty. not_empty A empty e) in
    let low : o < w ^ height w A = elim (cases_lt o (w ^ height w A)) [ inl less ↦ less | inr high ↦ absurd (cc (sym e ∙ at_high (w ^ height w A) o A own.room high)) ] in
    in_part width H L inside (height w A - 1) (height w A) A o (omega (arith, some)) (record { positive = some; low = own.low; valid = valid; below = own.room }) e low
  where
    not_empty : (B : Array) → B ≡ [] → at B o ≡ Ref H → ⊥
    not_empty [] empty f = cc
    not_empty (p ∷ B) empty f = cc
