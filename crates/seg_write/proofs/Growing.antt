-- What stands in a map of lines stands in any map that has its lines and more.
use Rattle.std.proofs.Common.{ℕ, List, [], ◌∷◌}
use Rattle.hic_word.specs.declared.Word.{Word}
use Rattle.hic_word.specs.Values.{Array}
use Rattle.hic_word.specs.Standing.{IsWithin}
use Rattle.hic_word.specs.Stands.{Lookup}
use Rattle.hic_word.specs.InMemory.{ChangesFor}
use Rattle.hic_word.proofs.callers.Standing.{standing_grows}
use Rattle.seg_canon.specs.Parts.{whole_part}
use Rattle.seg_canon.proofs.Growing.{part_grows}
use Rattle.seg_write.specs.Puts.{AreEntries, FallInto}

module _ (m n : Lookup) (within : IsWithin m n) where
  pub entries_grow : (h : ℕ) (xs : List Word) (As : List Array) → AreEntries m h xs As → AreEntries n h xs As
  entries_grow h [] [] f = tt
  entries_grow h [] (A ∷ As) f = absurd f
  entries_grow h (x ∷ xs) [] f = absurd f
  entries_grow h (x ∷ xs) (A ∷ As) f = (part_grows m n within (whole_part h x) A f.0, entries_grow h xs As f.1)

  pub changes_grow : (cs : List (ℕ × Word)) (L : Array) → ChangesFor 4 m cs L → ChangesFor 4 n cs L
  changes_grow [] [] f = tt
  changes_grow [] (p ∷ L) f = absurd f
  changes_grow (c ∷ cs) [] f = absurd f
  changes_grow (c ∷ cs) (p ∷ L) f = (f.0, (standing_grows 4 m n c.1 within).value p.1 f.1, changes_grow cs L f.2)

  pub fall_grows : (k b j : ℕ) (cs : List (ℕ × Word)) (L : Array) → FallInto m k b j cs L → FallInto n k b j cs L
  fall_grows k b j cs L f = record { changes = changes_grow cs L f.changes; ascend = f.ascend; below = f.below }
