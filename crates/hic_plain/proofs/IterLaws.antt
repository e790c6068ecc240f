-- Iterator registers stay valid.
use Rattle.std.proofs.Common.{◌≡◌, ℕ, suc, ◌+◌, ◌<◌, ◌≤◌, eqb, ltb, leb, Bool, true, false, if◌then◌else◌, [], ◌∷◌, length, Option, Some, None, refl, arith}
use Rattle.std.specs.Prelude.{IfSome, ◌&&◌}
use Rattle.std.specs.Option.{is_none}
use Rattle.std.proofs.lemmas.Bool.Decides.{nat_tests}
use Rattle.hic_word.specs.Values.{Value, Array, IsArray, IsBelow, IsValue}
use Rattle.hic_word.specs.Changes.{AreChanges}
use Rattle.hic_word.specs.View.{next_of, this_or}
use Rattle.hic_word.proofs.callers.Forms.{changes_are_made, value_at as value_in, values_of_array, ordered}
use Rattle.segment_map.specs.Merging.{Changes}
use Rattle.hic_plain.specs.Limits.{most_buffered, offset_count}
use Rattle.hic_plain.specs.Machine.{Iter}
use Rattle.hic_plain.specs.Iters.{attached, committed, emptied, found_from, is_full, loaded, moved, sought, stored, view}
use Rattle.write_buf.specs.WordPairs.{with_pair, word_at}
use Rattle.write_buf.proofs.ValuePairs.{pair_changes}
use Rattle.hic_plain.specs.Valid.{IsIter}

-- ---- pairs

abbrev one_unless : Option Value → ℕ
one_unless None = 1
one_unless (Some v) = 0

none_below : (b : ℕ) (cs : Changes) (o : ℕ) → AreChanges b cs → o < b → word_at cs o ≡ None
none_below b [] o are below = refl
none_below b (p ∷ cs) o (from, high, fits, rest) below = grind (arith, nat_tests, from, none_below (suc p.0) cs o rest)

-- one more pair, unless its offset was there
pub pair_count : (b : ℕ) (cs : Changes) (o : ℕ) (v : Value) → AreChanges b cs → length (with_pair cs o v) ≡ length cs + one_unless (word_at cs o)
pair_count b [] o v are = refl
pair_count b (p ∷ cs) o v (from, below, fits, rest) = go (eqb p.0 o) (ltb p.0 o) refl refl (pair_count (suc p.0) cs o v rest)
  where
    go : (same less : Bool) → eqb p.0 o ≡ same → ltb p.0 o ≡ less → length (with_pair cs o v) ≡ length cs + one_unless (word_at cs o)
        → length (if same then (o, v) ∷ cs else (if less then p ∷ with_pair cs o v else (o, v) ∷ p ∷ cs)) ≡ suc (length cs) + one_unless (if same then Some p.1 else word_at cs o)
    go true less e f later = omega arith
    go false true e f later = omega (arith, later)
    go false false e f later = rw (none_below (suc p.0) cs o rest (grind (arith, nat_tests, e, f))) (omega arith)

-- ---- what is read

pub view_valid : (n : ℕ) (r : Iter) → IsIter n r → IsArray (view r)
view_valid n r is = (changes_are_made r.snapshot r.buffered is.snapshot is.buffered).0

pub loaded_fits : (n : ℕ) (r : Iter) → IsIter n r → IsValue (loaded r)
loaded_fits n r is = value_in (view r) r.position (values_of_array (view r) (view_valid n r is))

next_below : (n : ℕ) (A : Array) (i : ℕ) → IsBelow n A → IfSome (next_of A i) (λ o. o < n)
next_below n [] i below = tt
next_below n (p ∷ A) i below = go (leb i p.0) (next_below n A i below.1)
  where
    go : (here : Bool) → IfSome (next_of A i) (λ o. o < n) → IfSome (this_or here p.0 (next_of A i)) (λ o. o < n)
    go true later = below.0
    go false later = later

pub found_below : (n : ℕ) (r : Iter) (from : ℕ) → IsIter n r → IfSome (found_from r from) (λ o. o < offset_count)
found_below n r from is = next_below offset_count (view r) from (ordered (view r) (view_valid n r is)).below

-- ---- what is made of it

module _ (n : ℕ) where
  pub attached_valid : (segment : Option ℕ) (A : Array) → IfSome segment (λ s. s < n) → IsArray A → IsIter n (attached segment A)
  attached_valid segment A there valid = record { segment = there; snapshot = valid; position = omega arith; buffered = tt; count = omega arith }

  module _ (r : Iter) (is : IsIter n r) where
    pub sought_valid : (o : ℕ) → o < offset_count → IsIter n (sought r o)
    sought_valid o low = record { segment = is.segment; snapshot = is.snapshot; position = low; buffered = is.buffered; count = is.count }

    pub moved_valid : (found : Option ℕ) → IfSome found (λ o. o < offset_count) → IsIter n (moved r found)
    moved_valid None low = is
    moved_valid (Some o) low = sought_valid o low

    pub stored_valid : (v : Value) → IsValue v → is_full r ≡ false → IsIter n (stored r v)
    stored_valid v fits room = record {
      segment = is.segment;
      snapshot = is.snapshot;
      position = is.position;
      buffered = pair_changes 0 r.buffered r.position v is.buffered (omega arith) is.position fits;
      count = few (word_at r.buffered r.position) (eqb (length r.buffered) most_buffered) refl room (pair_count 0 r.buffered r.position v is.buffered);
    }
      where
        few : (there : Option Value) (most : Bool) → eqb (length r.buffered) most_buffered ≡ most → (most && is_none there) ≡ false → length (with_pair r.buffered r.position v) ≡ length r.buffered + one_unless there → length (with_pair r.buffered r.position v) ≤ most_buffered
        few (Some u) most e f count = omega (arith, count, is.count)
        few None true e f count = absurd cc
        few None false e f count = grind (arith, nat_tests, e, count, is.count)

    pub emptied_valid : IsIter n (emptied r)
    emptied_valid = record { segment = is.segment; snapshot = is.snapshot; position = is.position; buffered = tt; count = omega arith }

    pub committed_valid : (new : Option Array) → IfSome new IsArray → IsIter n (committed r new)
    committed_valid None valid = is
    committed_valid (Some A) valid = record { segment = is.segment; snapshot = valid; position = is.position; buffered = tt; count = omega arith }
