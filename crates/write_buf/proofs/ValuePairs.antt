-- Pairs of values, which words stand for: with one put in they are still changes.
use Rattle.std.proofs.Common.{◌≡◌, ℕ, suc, ◌^◌, ◌<◌, ◌≤◌, eqb, ltb, Bool, true, false, [], ◌∷◌, if◌then◌else◌, refl, subst, arith}
use Rattle.std.proofs.lemmas.Bool.Decides.{nat_tests}
use Rattle.hic_word.specs.Values.{Array, IsValue, Value}
use Rattle.hic_word.specs.Changes.{AreChanges}
use Rattle.write_buf.specs.WordPairs.{with_pair}

pub pair_changes : (b : ℕ) (L : Array) (o : ℕ) (v : Value) → AreChanges b L → b ≤ o → o < 2 ^ 32 → IsValue v → AreChanges b (with_pair L o v)
pair_changes b [] o v valid low high is = (low, high, is, tt)
pair_changes b (p ∷ L) o v valid low high is = go (eqb p.0 o) (ltb p.0 o) refl refl (pair_changes (suc p.0) L o v valid.3)
  where
    go : (s f : Bool) → eqb p.0 o ≡ s → ltb p.0 o ≡ f → (suc p.0 ≤ o → o < 2 ^ 32 → IsValue v → AreChanges (suc p.0) (with_pair L o v)) → AreChanges b (if s then (o, v) ∷ L else (if f then p ∷ with_pair L o v else (o, v) ∷ p ∷ L))
    go true f e g later = let same : p.0 ≡ o = grind (arith, nat_tests, e) in (low, high, is, subst (λ i. AreChanges (suc i) L) same valid.3)
    go false true e g later = (valid.0, valid.1, valid.2, later (grind (arith, nat_tests, g)) high is)
    go false false e g later = (low, high, is, (grind (arith, nat_tests, e, g), valid.1, valid.2, valid.3))
