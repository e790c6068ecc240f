-- Changes that all fall into one of several parts beside one another: only its entry comes anew, and the others are held as they are.
use Rattle.std.proofs.Common.{◌≡◌, ℕ, zero, suc, ◌+◌, ◌*◌, ◌^◌, ◌<◌, ◌≤◌, List, [], ◌∷◌, length, get_or, set, Some, refl, sym, ◌∙◌, ap, subst, arith}
use Rattle.std.specs.List.{slice_get}
use Rattle.std.proofs.Math.Nat.{mul-le-mul_right}
use Rattle.std.proofs.lemmas.List.{drop_all, take_all}
use Rattle.hic_word.specs.declared.Word.{Word}
use Rattle.hic_word.specs.Values.{Array, IsBelow}
use Rattle.hic_word.specs.Changes.{AreChanges}
use Rattle.hic_word.specs.Canon.{enc}
use Rattle.hic_word.specs.Exchanges.{CountsRise, Exchanges}
use Rattle.hic_word.specs.InMemory.{ChangesFor}
use Rattle.hic_word.specs.Memory.{Memory, line_at}
use Rattle.hic_word.specs.Standing.{IsWithin}
use Rattle.hic_word.specs.Stands.{Lookup}
use Rattle.seg_canon.specs.Parts.{PartFor, whole_part}
use Rattle.ref_counts.specs.Live.{AreLive}
use Rattle.seg_read.specs.Levels.{levels}
use Rattle.seg_write.specs.Gains.{HasNamed, HaveNamed}
use Rattle.seg_write.specs.Puts.{AreEntries, CanPut, CanPutEach, HaveLevels, put_at, put_each}
use Rattle.seg_write.specs.Trades.{Trades}
use Rattle.seg_write.proofs.Composing.{lines_within}
use Rattle.seg_write.proofs.Cutting.{put_here, put_later}
use Rattle.seg_write.proofs.Growing.{entries_grow}
use Rattle.seg_write.proofs.Putting.{entry_live}
use Rattle.seg_write.proofs.Trading.{counts_rise}

-- changes that begin later
rise_later : (b c : ℕ) (L : Array) → b ≤ c → AreChanges c L → AreChanges b L
rise_later b c [] le a = tt
rise_later b c (p ∷ L) le a = (let low = a.0 in omega (arith, le, low), a.1, a.2, a.3)

-- parts take nothing of changes that all lie before or past them
put_none : (k b : ℕ) (As : List Array) → put_each k b As [] ≡ As
put_none k b [] = refl
put_none k b (A ∷ As) = ap (λ Bs. A ∷ Bs) (put_none k (b + 4 ^ k) As)

put_past : (k b : ℕ) (As : List Array) (L : Array) → IsBelow b L → put_each k b As L ≡ As
put_past k b As L low =
    let n = length L in
    sym (put_later k b n As L (subst (IsBelow b) (sym (take_all n L (omega arith))) low)) ∙ ap (put_each k b As) (drop_all n L (omega arith)) ∙ put_none k b As

put_before : (k b : ℕ) (A L : Array) → AreChanges (b + 4 ^ k) L → put_at k b A L ≡ A
put_before k b A L high = sym (put_here k b 0 A L high)

only_put : (k b c p : ℕ) (As : List Array) (L d : Array) → c ≡ b + p * 4 ^ k → p < length As → AreChanges c L → IsBelow (c + 4 ^ k) L → put_each k b As L ≡ set As p (put_at k c (get_or As p d) L)
only_put k b c p [] L d at lt from below = absurd (omega (arith, lt))
only_put k b c zero (A ∷ As) L d at lt from below =
    let start : b ≡ c = omega (arith, at) in
    ap (λ o. put_at k o A L ∷ put_each k (o + 4 ^ k) As L) start ∙ ap (λ Bs. put_at k c A L ∷ Bs) (put_past k (c + 4 ^ k) As L below)
only_put k b c (suc p) (A ∷ As) L d at lt from below =
    let next : c ≡ b + 4 ^ k + p * 4 ^ k = omega (arith, at) in
    ap (λ B. B ∷ put_each k (b + 4 ^ k) As L) (put_before k b A L (rise_later (b + 4 ^ k) c L (omega (arith, next)) from))
    ∙ ap (λ Bs. A ∷ Bs) (only_put k (b + 4 ^ k) c p As L d next (omega (arith, lt)) from below)

-- entries of arrays, of which one is set
pub entries_long : (m : Lookup) (h : ℕ) (xs : List Word) (As : List Array) → AreEntries m h xs As → length xs ≡ length As
entries_long m h [] [] f = refl
entries_long m h [] (A ∷ As) f = absurd f
entries_long m h (x ∷ xs) [] f = absurd f
entries_long m h (x ∷ xs) (A ∷ As) f = ap suc (entries_long m h xs As f.1)

entry_at : (m : Lookup) (h p : ℕ) (xs : List Word) (As : List Array) (x : Word) (d : Array) → p < length xs → AreEntries m h xs As → PartFor 4 m (whole_part h (get_or xs p x)) (get_or As p d)
entry_at m h p [] As x d lt f = absurd (omega (arith, lt))
entry_at m h p (y ∷ xs) [] x d lt f = absurd f
entry_at m h zero (y ∷ xs) (A ∷ As) x d lt f = f.0
entry_at m h (suc p) (y ∷ xs) (A ∷ As) x d lt f = entry_at m h p xs As x d (omega (arith, lt)) f.1

entries_set : (m : Lookup) (h p : ℕ) (xs : List Word) (As : List Array) (y : Word) (B : Array) → AreEntries m h xs As → PartFor 4 m (whole_part h y) B → AreEntries m h (set xs p y) (set As p B)
entries_set m h p [] [] y B f g = tt
entries_set m h p [] (A ∷ As) y B f g = absurd f
entries_set m h p (x ∷ xs) [] y B f g = absurd f
entries_set m h zero (x ∷ xs) (A ∷ As) y B f g = (g, f.1)
entries_set m h (suc p) (x ∷ xs) (A ∷ As) y B f g = (f.0, entries_set m h p xs As y B f.1 g)

named_set : (h p : ℕ) (As : List Array) (B : Array) (R : List Array) → p < length As → HaveNamed h (set As p B) R → HasNamed (enc 4 h B) R
named_set h p [] B R lt n = absurd (omega (arith, lt))
named_set h zero (A ∷ As) B R lt n = n.0
named_set h (suc p) (A ∷ As) B R lt n = named_set h p As B R (omega (arith, lt)) n.1

levels_at : (h n p : ℕ) (As : List Array) (d : Array) → p < length As → HaveLevels n h As → levels (enc 4 h (get_or As p d)) ≤ n
levels_at h n p [] d lt f = absurd (omega (arith, lt))
levels_at h n zero (A ∷ As) d lt f = f.0
levels_at h n (suc p) (A ∷ As) d lt f = levels_at h n p As d (omega (arith, lt)) f.1

levels_set : (h n p : ℕ) (As : List Array) (B : Array) → p < length As → HaveLevels n h (set As p B) → levels (enc 4 h B) ≤ n
levels_set h n p [] B lt f = absurd (omega (arith, lt))
levels_set h n zero (A ∷ As) B lt f = f.0
levels_set h n (suc p) (A ∷ As) B lt f = levels_set h n p As B (omega (arith, lt)) f.1

-- the one part with its changes, from offset c on
pub record Alone (m : Lookup) (h b c p : ℕ) (x : Word) (xs : List Word) (cs : List (ℕ × Word)) (As : List Array) (L : Array) : Type 0 where
  pub array : Array
  pub part : CanPut m h x c cs array L
  pub put : put_each h b As L ≡ set As p (put_at h c array L)
  pub inside : p < length As
  pub entries : AreEntries m h xs As
  pub levels : (n : ℕ) → HaveLevels n h As → levels (enc 4 h array) ≤ n

pub alone : {m : Lookup} {h b c p : ℕ} {xs : List Word} {cs : List (ℕ × Word)} {As : List Array} {L : Array} (x : Word) → c ≡ b + p * 4 ^ h → p < length xs
    → ((n : Lookup) (o : ℕ) (K : Array) → ChangesFor 4 n cs K → AreChanges o K → AreChanges (b + p * 4 ^ h) K) → ((n : Lookup) (o : ℕ) (K : Array) → ChangesFor 4 n cs K → AreChanges o K → IsBelow (b + p * 4 ^ h + 4 ^ h) K)
    → CanPutEach m h xs b cs As L → Alone m h b c p (get_or xs p x) xs cs As L
alone {m} {h} {b} {c} {p} {xs} {cs} {As} {L} x at lt from below f =
    let high = subst (λ o. AreChanges o L) (sym at) (from m b L f.changes.changes f.changes.ascend) in
    let low = subst (λ o. IsBelow (o + 4 ^ h) L) (sym at) (below m b L f.changes.changes f.changes.ascend) in
    let long = entries_long m h xs As f.entries in
    let inside : p < length As = omega (arith, lt, long) in
    record {
      array = get_or As p [];
      part = record { part = entry_at m h p xs As x [] lt f.entries; changes = record { changes = f.changes.changes; ascend = high; below = subst (λ e. IsBelow e L) (omega arith) low } };
      put = only_put h b c p As L [] at inside high low;
      inside = inside;
      entries = f.entries;
      levels = λ n few. levels_at h n p As [] inside few;
    }

module _ {m : Lookup} {h b c p : ℕ} {x : Word} {xs : List Word} {cs : List (ℕ × Word)} {As : List Array} {L : Array} (w : Alone m h b c p x xs cs As L) where
  -- it stands among the others in a map with more lines
  pub alone_stand : (n : Lookup) (y : Word) → IsWithin m n → PartFor 4 n (whole_part h y) (put_at h c w.array L) → AreEntries n h (set xs p y) (put_each h b As L)
  alone_stand n y within part = subst (AreEntries n h (set xs p y)) (sym w.put) (entries_set n h p xs As y (put_at h c w.array L) (entries_grow m n within h xs As w.entries) part)

  -- arrays that have the lines of all, and bounds on their levels
  pub alone_named : (R : List Array) → HaveNamed h (put_each h b As L) R → HasNamed (enc 4 h (put_at h c w.array L)) R
  alone_named R named = named_set h p As (put_at h c w.array L) R w.inside (subst (λ Bs. HaveNamed h Bs R) w.put named)

  pub alone_levels : (n : ℕ) → HaveLevels n h (put_each h b As L) → levels (enc 4 h (put_at h c w.array L)) ≤ n
  alone_levels n few = levels_set h n p As (put_at h c w.array L) w.inside (subst (HaveLevels n h) w.put few)

-- entries of parts name live lines
pub live_entries : (m : Memory) (h : ℕ) (xs : List Word) (As : List Array) → AreEntries (line_at m) h xs As → AreLive m xs
live_entries m h [] As f = tt
live_entries m h (x ∷ xs) [] f = absurd f
live_entries m h (x ∷ xs) (A ∷ As) f = (entry_live m x _ f.0.entry, live_entries m h xs As f.1)

pub set_here : (xs : List Word) (p : ℕ) (y : Word) → p < length xs → slice_get (set xs p y) p ≡ Some y
set_here [] p y lt = absurd (omega (arith, lt))
set_here (x ∷ xs) zero y lt = refl
set_here (x ∷ xs) (suc p) y lt = set_here xs p y (omega (arith, lt))

-- where the one is taken, and exchanged for all while no line changes, all are taken
pub trades_alone : (a b e : Memory) (ws : List Word) (y : Word) (n k j : ℕ) → Trades a b [] (y ∷ []) n → Exchanges b e (y ∷ []) ws → e.lines ≡ b.lines → CountsRise k b e → n + k ≤ j → Trades a e [] ws j
trades_alone a b e ws y n k j one others same few fits = record {
  passes = record {
    holds = λ held h. others.holds held (one.passes.holds held h);
    lines = λ id line at. lines_within b e same id line (one.passes.lines id line at);
    layout = others.layout ∙ one.passes.layout;
  };
  counts = counts_rise a b e n k j one.counts few fits;
}

-- the one part ends where all end
pub end_alone : (b c h p : ℕ) → c ≡ b + p * 4 ^ h → p < 4 → b + 4 * 4 ^ h ≤ 2 ^ 32 → c + 4 ^ h ≤ 2 ^ 32
end_alone b c h p at inside low =
    let next : p + 1 ≤ 4 = omega (arith, inside) in
    let all = mul-le-mul_right (4 ^ h) next in
    omega (arith, at, low, all)
