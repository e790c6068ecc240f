-- Buffered pairs: a list of an offset and the word that is written there.
use Rattle.std.specs.Prelude.{◌≡◌, ◌≢◌, ℕ, suc, ◌^◌, ◌<◌, ◌≤◌, List, [], ◌∷◌, length, map, Option, Some, None, nat_lt, ◌==◌, if◌then◌else◌}
use Rattle.hic_word.specs.declared.Word.{Word}

-- an offset, then its word
abbrev pub WordPairs : Type 0
WordPairs = List (ℕ × Word)

-- the offsets, in order
abbrev pub offsets : WordPairs → List ℕ
offsets pairs = map (λ pair. pair.0) pairs

-- the word at an offset, if the offset is there. Of pairs of words, or of the values that words stand for
abbrev pub word_at : {X : Type 0} → List (ℕ × X) → ℕ → Option X
word_at [] offset = None
word_at (pair ∷ rest) offset = if pair.0 == offset then Some pair.1 else word_at rest offset

-- the pairs with this pair put in: it takes the place of the pair with its offset, or else stands before the first with a
-- higher one
abbrev pub with_pair : {X : Type 0} → List (ℕ × X) → ℕ → X → List (ℕ × X)
with_pair [] offset word = (offset, word) ∷ []
with_pair (pair ∷ rest) offset word =
    if pair.0 == offset then (offset, word) ∷ rest
    else (if nat_lt pair.0 offset then pair ∷ with_pair rest offset word else (offset, word) ∷ pair ∷ rest)

-- the pairs at an offset and above it: those before the first that is not below it are left out
abbrev pub pairs_from : WordPairs → ℕ → WordPairs
pairs_from [] offset = []
pairs_from (pair ∷ rest) offset = if nat_lt pair.0 offset then pairs_from rest offset else pair ∷ rest

-- the offsets strictly ascend, from b on, and are below 2^32
abbrev pub AscendFrom : ℕ → WordPairs → Type 0
AscendFrom b [] = Unit {0}
AscendFrom b (pair ∷ rest) = (b ≤ pair.0) × (pair.0 < 2 ^ 32) × AscendFrom (suc pair.0) rest

-- the most pairs of a buffer
abbrev pub most_pairs : ℕ
most_pairs = 64

-- what a buffer holds: offsets that strictly ascend, and not too many
pub record IsBuffered (pairs : WordPairs) : Type 0 where
  pub ascend : AscendFrom 0 pairs
  pub few : length pairs ≤ most_pairs

-- as many other offsets are there as a buffer takes
pub record IsFullOfOthers (pairs : WordPairs) (offset : ℕ) : Type 0 where
  pub many : length pairs ≡ most_pairs
  pub others : word_at pairs offset ≡ None

-- the word is at the offset in new, and at every other offset new has what old has
pub record SetsOnly (old new : WordPairs) (offset : ℕ) (word : Word) : Type 0 where
  pub here : word_at new offset ≡ Some word
  pub elsewhere : (other : ℕ) → other ≢ offset → word_at new other ≡ word_at old other
