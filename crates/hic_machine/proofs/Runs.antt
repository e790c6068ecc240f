-- Records of one segment after another.
use Rattle.std.proofs.Common.{◌≡◌, ℕ, suc, ◌+◌, ◌<◌, ◌≤◌, eqb, Bool, true, false, if◌then◌else◌, List, [], ◌∷◌, length, drop, take, get_or, refl, ◌∙◌, ap, arith}
use Rattle.std.proofs.lemmas.List.{drop_all, drop_more}
use Rattle.std.proofs.lemmas.Bool.Decides.{nat_tests}
use Rattle.hic_object.specs.declared.object.DataRec.{DataRec}
use Rattle.hic_machine.specs.Loads.{AscendFrom, of_segment, run_of}

pub run_stop : (s i : ℕ) (ds : List DataRec) → length ds ≤ i → run_of s (drop i ds) ≡ 0
run_stop s i ds past = ap (run_of s) (drop_all i ds past)

module _ (s i : ℕ) (ds : List DataRec) (d : DataRec) (low : i < length ds) where
  pub run_on : (get_or ds i d).segment ≡ s → run_of s (drop i ds) ≡ suc (run_of s (drop (i + 1) ds))
  run_on e = ap (run_of s) (drop_more ds i d low) ∙ go (eqb (get_or ds i d).segment s) (grind (arith, nat_tests, e))
    where
      go : (b : Bool) → b ≡ true → (if b then suc (run_of s (drop (i + 1) ds)) else 0) ≡ suc (run_of s (drop (i + 1) ds))
      go true f = refl
      go false f = cc

  pub run_ends : ((get_or ds i d).segment ≡ s → ⊥) → run_of s (drop i ds) ≡ 0
  run_ends e = ap (run_of s) (drop_more ds i d low) ∙ go (eqb (get_or ds i d).segment s) (grind (arith, nat_tests, e))
    where
      go : (b : Bool) → b ≡ false → (if b then suc (run_of s (drop (i + 1) ds)) else 0) ≡ 0
      go true f = cc
      go false f = refl

-- ---- ascending records

lower_ascend : (a b : ℕ) (ds : List DataRec) → a ≤ b → AscendFrom b ds → AscendFrom a ds
lower_ascend a b [] low up = tt
lower_ascend a b (d ∷ ds) low up = (omega (arith, low, up.0), up.1)

-- above a segment there are no records of it
pub none_above : (s b : ℕ) (ds : List DataRec) → s < b → AscendFrom b ds → of_segment s ds ≡ []
none_above s b [] low up = refl
none_above s b (d ∷ ds) low up = go (eqb d.segment s) (grind (arith, nat_tests, low, up.0)) (none_above s d.segment ds (omega (arith, low, up.0)) up.1)
  where
    go : (t : Bool) → t ≡ false → of_segment s ds ≡ [] → (if t then d ∷ of_segment s ds else of_segment s ds) ≡ []
    go true e later = cc
    go false e later = later

-- those of a segment stand at the front
pub front_run : (s : ℕ) (ds : List DataRec) → AscendFrom s ds → of_segment s ds ≡ take (run_of s ds) ds
front_run s [] up = refl
front_run s (d ∷ ds) up = go (eqb d.segment s) refl (front_run s ds (lower_ascend s d.segment ds up.0 up.1))
  where
    go : (t : Bool) → eqb d.segment s ≡ t → of_segment s ds ≡ take (run_of s ds) ds → (if t then d ∷ of_segment s ds else of_segment s ds) ≡ take (if t then suc (run_of s ds) else 0) (d ∷ ds)
    go true e later = ap (λ xs. d ∷ xs) later
    go false e later = none_above s d.segment ds (grind (arith, nat_tests, e, up.0)) up.1

-- behind them the segments ascend from the next one on
pub behind_run : (s : ℕ) (ds : List DataRec) → AscendFrom s ds → AscendFrom (suc s) (drop (run_of s ds) ds)
behind_run s [] up = tt
behind_run s (d ∷ ds) up = go (eqb d.segment s) refl (behind_run s ds (lower_ascend s d.segment ds up.0 up.1))
  where
    go : (t : Bool) → eqb d.segment s ≡ t → AscendFrom (suc s) (drop (run_of s ds) ds) → AscendFrom (suc s) (drop (if t then suc (run_of s ds) else 0) (d ∷ ds))
    go true e later = later
    go false e later = (grind (arith, nat_tests, e, up.0), up.1)

-- a later segment has its records behind them
pub later_run : (s r : ℕ) (ds : List DataRec) → s < r → AscendFrom s ds → of_segment r (drop (run_of s ds) ds) ≡ of_segment r ds
later_run s r [] less up = refl
later_run s r (d ∷ ds) less up = go (eqb d.segment s) refl (later_run s r ds less (lower_ascend s d.segment ds up.0 up.1))
  where
    skip : (t : Bool) → eqb d.segment s ≡ true → eqb d.segment r ≡ t → of_segment r ds ≡ (if t then d ∷ of_segment r ds else of_segment r ds)
    skip true e f = grind (arith, nat_tests, e, f, less)
    skip false e f = refl

    go : (t : Bool) → eqb d.segment s ≡ t → of_segment r (drop (run_of s ds) ds) ≡ of_segment r ds → of_segment r (drop (if t then suc (run_of s ds) else 0) (d ∷ ds)) ≡ of_segment r (d ∷ ds)
    go true e later = later ∙ skip (eqb d.segment r) e refl
    go false e later = refl

pub run_within : (s : ℕ) (ds : List DataRec) → run_of s ds ≤ length ds
run_within s [] = omega arith
run_within s (d ∷ ds) = go (eqb d.segment s) (run_within s ds)
  where
    go : (t : Bool) → run_of s ds ≤ length ds → (if t then suc (run_of s ds) else 0) ≤ suc (length ds)
    go true low = omega (arith, low)
    go false low = omega arith
