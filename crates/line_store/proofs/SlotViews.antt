-- What slots have at a place, as their maps and as their list say it.
use Rattle.std.proofs.Common.{◌≡◌, ℕ, suc, zero, ◌<◌, ◌≤◌, List, [], ◌∷◌, length, get_or, Option, Some, None, IsSome, refl, sym, ap, ◌∙◌, subst, arith, unwrap_or}
use Rattle.std.specs.Prelude.{slice_get}
use Rattle.std.specs.FinMap as map
use Rattle.std.proofs.lemmas.Option.{get_or_from_slice_get, slice_get_within}
use Rattle.hic_word.specs.declared.Line.{Line}
use Rattle.hic_word.specs.declared.Word.{Word}
use Rattle.line_mem.specs.declared.slots.Slot.{Slot}
use Rattle.line_mem.specs.declared.slots.Slot.TheVariants.{Vacant, Taken}
use Rattle.line_mem.specs.Places.{count_in as count_here, counts_of, line_in as line_here, line_of}
use Rattle.line_mem.specs.PlacesSound.{get-slots, seen_at}
use Rattle.line_slots.specs.SlotLists.{count_in, line_in}

-- the words of a line, if there is one
abbrev pub words_of : {w : ℕ} → Option (Line w) → Option (List Word)
words_of None = None
words_of (Some line) = Some line.w

seen_line : {w : ℕ} (ss : List (Slot w)) (k : ℕ) → seen_at line_here ss k ≡ words_of (line_in (slice_get ss k))
seen_line [] k = refl
seen_line (Vacant ∷ ss) zero = refl
seen_line (Taken line n ∷ ss) zero = refl
seen_line (s ∷ ss) (suc k) = seen_line ss k

seen_count : {w : ℕ} (ss : List (Slot w)) (k : ℕ) → seen_at count_here ss k ≡ count_in (slice_get ss k)
seen_count [] k = refl
seen_count (Vacant ∷ ss) zero = refl
seen_count (Taken line n ∷ ss) zero = refl
seen_count (s ∷ ss) (suc k) = seen_count ss k

pub line_seen : {w : ℕ} (ss : List (Slot w)) (k : ℕ) → line_of ss k ≡ words_of (line_in (slice_get ss k))
line_seen ss k = get-slots line_here ss k ∙ seen_line ss k

pub count_seen : {w : ℕ} (ss : List (Slot w)) (k : ℕ) → map.get (counts_of ss) k ≡ count_in (slice_get ss k)
count_seen ss k = get-slots count_here ss k ∙ seen_count ss k

-- a line in the memory is in its slot
pub record HasLine {w : ℕ} (ss : List (Slot w)) (k : ℕ) (words : List Word) : Type 0 where
  pub line : Line w
  pub count : ℕ
  pub there : slice_get ss k ≡ Some (Taken line count)
  pub same : line.w ≡ words

pub line_there : {w : ℕ} (ss : List (Slot w)) (k : ℕ) (words : List Word) → line_of ss k ≡ Some words → HasLine ss k words
line_there {w} ss k words e = go (slice_get ss k) refl (sym (line_seen ss k) ∙ e)
  where
    go : (o : Option (Slot w)) → slice_get ss k ≡ o → words_of (line_in o) ≡ Some words → HasLine ss k words
    go None f h = cc
    go (Some Vacant) f h = cc
    go (Some (Taken line n)) f h = record { line = line; count = n; there = f; same = (let a : line.w ≡ words = cc in a) }

pub line_is : {w : ℕ} (ss : List (Slot w)) (k : ℕ) (line : Line w) (n : ℕ) → slice_get ss k ≡ Some (Taken line n) → line_of ss k ≡ Some line.w
line_is ss k line n e = line_seen ss k ∙ ap (λ o. words_of (line_in o)) e

pub no_line : {w : ℕ} (ss : List (Slot w)) (k : ℕ) → slice_get ss k ≡ Some Vacant → line_of ss k ≡ None
no_line ss k e = line_seen ss k ∙ ap (λ o. words_of (line_in o)) e

pub count_is : {w : ℕ} (ss : List (Slot w)) (k : ℕ) (line : Line w) (n : ℕ) → slice_get ss k ≡ Some (Taken line n) → map.get (counts_of ss) k ≡ Some n
count_is ss k line n e = count_seen ss k ∙ ap count_in e

-- a slot with a line, by what is asked of it
pub record IsTaken {w : ℕ} (ss : List (Slot w)) (k count : ℕ) : Type 0 where
  pub line : Line w
  pub there : slice_get ss k ≡ Some (Taken line count)

pub taken_by_line : {w : ℕ} (ss : List (Slot w)) (k : ℕ) → IsSome (line_of ss k) → IsSome (line_in (slice_get ss k))
taken_by_line {w} ss k h = go (line_in (slice_get ss k)) (subst (λ o. IsSome o) (line_seen ss k) h)
  where
    go : (o : Option (Line w)) → IsSome (words_of o) → IsSome o
    go None h = h
    go (Some line) h = refl

pub taken_by_count : {w : ℕ} (ss : List (Slot w)) (k n : ℕ) → count_in (slice_get ss k) ≡ Some n → IsTaken ss k n
taken_by_count {w} ss k n e = go (slice_get ss k) refl e
  where
    go : (o : Option (Slot w)) → slice_get ss k ≡ o → count_in o ≡ Some n → IsTaken ss k n
    go None f h = cc
    go (Some Vacant) f h = cc
    go (Some (Taken line m)) f h = let same : m ≡ n = cc in record { line = line; there = f ∙ ap (λ c. Some (Taken line c)) same }

-- a hold on an id is a count of its slot
pub held_count : {w : ℕ} (ss : List (Slot w)) (k : ℕ) → 1 ≤ unwrap_or (map.get (counts_of ss) k) 0 → (n : ℕ) × (count_in (slice_get ss k) ≡ Some n) × (unwrap_or (map.get (counts_of ss) k) 0 ≡ n)
held_count ss k h = go (count_in (slice_get ss k)) refl (ap (λ (o : Option ℕ). unwrap_or o 0) (count_seen ss k))
  where
    go : (o : Option ℕ) → count_in (slice_get ss k) ≡ o → unwrap_or (map.get (counts_of ss) k) 0 ≡ unwrap_or o 0 → (n : ℕ) × (count_in (slice_get ss k) ≡ Some n) × (unwrap_or (map.get (counts_of ss) k) 0 ≡ n)
    go None f e = absurd (omega (arith, h, e))
    go (Some n) f e = (n, f, e)

pub counted_line : {w : ℕ} (ss : List (Slot w)) (k n : ℕ) → count_in (slice_get ss k) ≡ Some n → IsSome (line_in (slice_get ss k))
counted_line ss k n e = let t = taken_by_count ss k n e in subst (λ (o : Option (Slot _)). IsSome (line_in o)) (sym t.there) refl

-- a slot that has a line, in the form of writes
pub read_taken : {w : ℕ} (ss : List (Slot w)) (k : ℕ) (s : Slot w) → slice_get ss k ≡ Some s → (k < length ss) × (get_or ss k Vacant ≡ s)
read_taken ss k s e = (slice_get_within ss k s e, get_or_from_slice_get ss k s Vacant e)

-- a line by what is asked of its slot
pub line_at_words : {w : ℕ} (ss : List (Slot w)) (k : ℕ) (line : Line w) → line_in (slice_get ss k) ≡ Some line → line_of ss k ≡ Some line.w
line_at_words ss k line e = line_seen ss k ∙ ap words_of e
