-- What the maps of slots have at a place, and after a write.
use Rattle.std.proofs.Common.{◌≡◌, ℕ, suc, zero, ◌<◌, ◌≤◌, Bool, true, false, cond, eqb, List, [], ◌∷◌, length, set, get_or, Option, Some, None, refl, sym, ◌∙◌, ap, subst, arith, inl, inr, IsSome, unwrap_or}
use Rattle.std.specs.Ordering.{nat_cmp}
use Rattle.std.specs.Cmp.{nat_cmp_total}
use Rattle.std.proofs.lemmas.Bool.{ne_eqb, eqb-true, cases_lt}
use Rattle.std.proofs.lemmas.Bool.Decides.{nat_tests}
use Rattle.std.proofs.lemmas.Option.{none-some}
use Rattle.std.specs.FinMap as map
use Rattle.std.specs.FinMap.{nat_cmp-IsAntisymmetric}
use Rattle.hic_word.specs.declared.Line.{Line}
use Rattle.hic_word.proofs.callers.Holds.{get-inserted, get-removed}
use Rattle.line_mem.specs.declared.slots.Slot.{Slot}
use Rattle.line_mem.specs.declared.slots.Slot.TheVariants.{Taken}
use Rattle.line_mem.specs.Places.{placed, each, lines_of, counts_of, line_in, count_in, count_of, line_of}
use Rattle.line_mem.specs.PlacesSound.{seen_at, get-slots}
use Rattle.hic_word.specs.declared.Word.{Word}

pub seen_in : {w : ℕ} {X : Type 0} (f : Slot w → Option X) (ss : List (Slot w)) (q : ℕ) → IsSome (seen_at f ss q) → q < length ss
seen_in f [] q h = cc
seen_in f (s ∷ ss) zero h = omega arith
seen_in f (s ∷ ss) (suc q) h = let r = seen_in f ss q h in omega arith

pub seen-slot : {w : ℕ} {X : Type 0} (f : Slot w → Option X) (ss : List (Slot w)) (q : ℕ) (d : Slot w) → q < length ss → seen_at f ss q ≡ f (get_or ss q d)
seen-slot f [] q d h = absurd (omega arith)
seen-slot f (s ∷ ss) zero d h = refl
seen-slot f (s ∷ ss) (suc q) d h = seen-slot f ss q d (omega arith)

eqb_suc : (q k : ℕ) → eqb q k ≡ eqb (suc q) (suc k)
eqb_suc q k = grind (arith, nat_tests)

pub seen-set : {w : ℕ} {X : Type 0} (f : Slot w → Option X) (ss : List (Slot w)) (k : ℕ) (s : Slot w) (q : ℕ) → k < length ss → seen_at f (set ss k s) q ≡ cond (eqb q k) (f s) (seen_at f ss q)
seen-set f [] k s q h = absurd (omega arith)
seen-set f (t ∷ ss) zero s zero h = refl
seen-set f (t ∷ ss) zero s (suc q) h = sym (ap (λ b. cond b (f s) (seen_at f ss q)) (ne_eqb (suc q) 0 (λ e. omega arith)))
seen-set f (t ∷ ss) (suc k) s zero h = sym (ap (λ b. cond b (f s) (f t)) (ne_eqb 0 (suc k) (λ e. omega arith)))
seen-set f (t ∷ ss) (suc k) s (suc q) h = seen-set f ss k s q (omega arith) ∙ ap (λ b. cond b (f s) (seen_at f ss q)) (eqb_suc q k)

-- a write is an insert
pub slots-set : {w : ℕ} {X : Type 0} (f : Slot w → Option X) (ss : List (Slot w)) (k : ℕ) (s : Slot w) (x : X) → k < length ss → f s ≡ Some x → map.from_entries {R = nat_cmp} (placed 0 (each f (set ss k s))) ≡ map.insert (map.from_entries (placed 0 (each f ss))) k x
slots-set f ss k s x h e = map.same_map nat_cmp_total nat_cmp-IsAntisymmetric _ _ (λ q.
    get-slots f (set ss k s) q ∙ seen-set f ss k s q h
    ∙ ap (λ o. cond (eqb q k) o (seen_at f ss q)) e
    ∙ ap (λ o. cond (eqb q k) (Some x) o) (sym (get-slots f ss q))
    ∙ sym (get-inserted (map.from_entries (placed 0 (each f ss))) k x q))

-- a line in a slot
pub line-slot : {w : ℕ} (ss : List (Slot w)) (q : ℕ) (d : Slot w) → q < length ss → map.get (lines_of ss) q ≡ line_in (get_or ss q d)
line-slot ss q d h = get-slots line_in ss q ∙ seen-slot line_in ss q d h

-- a place's line is seen whatever stands for a place past the end
pub as_read : {w : ℕ} (ss : List (Slot w)) (q : ℕ) (d e : Slot w) → q < length ss → line_in (get_or ss q d) ≡ line_in (get_or ss q e)
as_read ss q d e h = sym (line-slot ss q d h) ∙ line-slot ss q e h

pub count-slot : {w : ℕ} (ss : List (Slot w)) (q : ℕ) (d : Slot w) → q < length ss → map.get (counts_of ss) q ≡ count_in (get_or ss q d)
count-slot ss q d h = get-slots count_in ss q ∙ seen-slot count_in ss q d h

-- a write of the same line leaves the lines
pub lines-same : {w : ℕ} (ss : List (Slot w)) (k : ℕ) (line : Line w) (n m : ℕ) (d : Slot w) → k < length ss → get_or ss k d ≡ Taken line n → lines_of (set ss k (Taken line m)) ≡ lines_of ss
lines-same ss k line n m d h e = map.same_map nat_cmp_total nat_cmp-IsAntisymmetric _ _ (λ q.
    get-slots line_in (set ss k (Taken line m)) q ∙ seen-set line_in ss k (Taken line m) q h
    ∙ go q (eqb q k) refl ∙ sym (get-slots line_in ss q))
  where
    go : (q : ℕ) (t : Bool) → eqb q k ≡ t → cond t (Some line.w) (seen_at line_in ss q) ≡ seen_at line_in ss q
    go q true f = let same : q ≡ k = eqb-true q k f in sym (ap (seen_at line_in ss) same ∙ seen-slot line_in ss k d h ∙ ap line_in e)
    go q false f = refl

pub counts-set : {w : ℕ} (ss : List (Slot w)) (k : ℕ) (line : Line w) (m : ℕ) → k < length ss → counts_of (set ss k (Taken line m)) ≡ map.insert (counts_of ss) k m
counts-set ss k line m h = slots-set count_in ss k (Taken line m) m h refl

pub not_none : {X : Type 0} (o : Option X) → IsSome o → o ≡ None → ⊥
not_none o h e = cc

pub lines_in : {w : ℕ} (ss : List (Slot w)) (q : ℕ) → IsSome (map.get (lines_of ss) q) → q < length ss
lines_in ss q h = seen_in line_in ss q (subst (λ o. IsSome o) (get-slots line_in ss q) h)

pub counts_in : {w : ℕ} (ss : List (Slot w)) (q : ℕ) → IsSome (map.get (counts_of ss) q) → q < length ss
counts_in ss q h = seen_in count_in ss q (subst (λ o. IsSome o) (get-slots count_in ss q) h)

pub count_of-slot : {w : ℕ} (ss : List (Slot w)) (q : ℕ) (d : Slot w) (line : Line w) (n : ℕ) → q < length ss → get_or ss q d ≡ Taken line n → count_of ss q ≡ n
count_of-slot ss q d line n h e = ap (λ (o : Option ℕ). unwrap_or o 0) (count-slot ss q d h ∙ ap count_in e)

-- a vacant slot is a removal
pub slots-clear : {w : ℕ} {X : Type 0} (f : Slot w → Option X) (ss : List (Slot w)) (k : ℕ) (s : Slot w) → k < length ss → f s ≡ None → map.from_entries {R = nat_cmp} (placed 0 (each f (set ss k s))) ≡ map.remove (map.from_entries (placed 0 (each f ss))) k
slots-clear f ss k s h e = map.same_map nat_cmp_total nat_cmp-IsAntisymmetric _ _ (λ q.
    get-slots f (set ss k s) q ∙ seen-set f ss k s q h
    ∙ ap (λ o. cond (eqb q k) o (seen_at f ss q)) e
    ∙ ap (λ o. cond (eqb q k) None o) (sym (get-slots f ss q))
    ∙ sym (get-removed (map.from_entries (placed 0 (each f ss))) k q))

seen_past : {w : ℕ} {X : Type 0} (f : Slot w → Option X) (ss : List (Slot w)) (q : ℕ) → length ss ≤ q → seen_at f ss q ≡ None
seen_past f [] q h = refl
seen_past f (s ∷ ss) zero h = absurd (omega arith)
seen_past f (s ∷ ss) (suc q) h = seen_past f ss q (omega arith)

-- a line that no slot has is at no id
pub not_seen : {w : ℕ} (ss : List (Slot w)) (line : List Word) (d : Slot w) → ((k : ℕ) → k < length ss → line_in (get_or ss k d) ≡ Some line → ⊥) → (q : ℕ) → line_of ss q ≡ Some line → ⊥
not_seen ss line d h q e = elim (cases_lt q (length ss)) [
  | inl lt ↦ h q lt (sym (seen-slot line_in ss q d lt) ∙ sym (get-slots line_in ss q) ∙ e)
  | inr ge ↦ absurd (none-some line (sym (get-slots line_in ss q ∙ seen_past line_in ss q ge) ∙ e))
]

pub not_this : {w : ℕ} (r : Bool) (k line : Line w) → (k.w ≡ line.w → r ≡ true) → r ≡ false → ◌≡◌ {A = Option (List Word)} (Some k.w) (Some line.w) → ⊥
not_this r k line f e h = let same : k.w ≡ line.w = cc in let a = f same in cc
