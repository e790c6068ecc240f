-- Each line is in one place only.
use Rattle.std.proofs.Common.{◌≡◌, ℕ, Bool, true, false, cond, eqb, List, Some, None, sym, ◌∙◌, ap, subst}
use Rattle.std.specs.Ordering.{nat_cmp}
use Rattle.std.specs.FinMap as map
use Rattle.std.specs.FinMap.{FinMap}
use Rattle.hic_word.proofs.callers.Holds.{get-removed}
use Rattle.hic_word.proofs.callers.Standing.{unique_new}
use Rattle.line_mem.specs.declared.slots.Slot.{Slot}
use Rattle.line_mem.specs.Places.{lines_of, line_of}
use Rattle.hic_word.specs.declared.Word.{Word}
use Rattle.hic_word.specs.Stands.{Unique}

-- a line that is gone is in no place
pub unique-remove : (m : FinMap nat_cmp (List Word)) (k : ℕ) → Unique (λ q. map.get m q) → Unique (λ q. map.get (map.remove m k) q)
unique-remove m k u i j l e h = u i j l (still i e) (still j h)
  where
    go : (i : ℕ) (s : Bool) → cond s None (map.get m i) ≡ Some l → map.get m i ≡ Some l
    go i true e = cc
    go i false e = e

    still : (i : ℕ) → map.get (map.remove m k) i ≡ Some l → map.get m i ≡ Some l
    still i e = go i (eqb i k) (sym (get-removed m k i) ∙ e)

pub unique_kept : {w : ℕ} (old b new : List (Slot w)) → b ≡ old → lines_of new ≡ lines_of b → Unique (line_of old) → Unique (line_of new)
unique_kept old b new f c u = subst (λ m. Unique (λ q. map.get m q)) (sym (c ∙ ap lines_of f)) u

pub put_unique : {w : ℕ} (old a b new : List (Slot w)) (k : ℕ) (line : List Word) → a ≡ old → b ≡ old → ((q : ℕ) → line_of a q ≡ Some line → ⊥) → lines_of new ≡ map.insert (lines_of b) k line → Unique (line_of old) → Unique (line_of new)
put_unique old a b new k line e f n c u =
    subst (λ m. Unique (λ q. map.get m q)) (sym (c ∙ ap (λ s. map.insert (lines_of s) k line) f))
    (unique_new (lines_of old) k line u (λ q h. n q (subst (λ s. line_of s q ≡ Some line) (sym e) h)))

pub take_unique : {w : ℕ} (old b new : List (Slot w)) (k : ℕ) → b ≡ old → lines_of new ≡ map.remove (lines_of b) k → Unique (line_of old) → Unique (line_of new)
take_unique old b new k f c u =
    subst (λ m. Unique (λ q. map.get m q)) (sym (c ∙ ap (λ s. map.remove (lines_of s) k) f)) (unique-remove (lines_of old) k u)
