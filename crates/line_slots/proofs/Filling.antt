-- Lists that are filled from the front, and the words of a line by their bits and tags.
use Rattle.std.proofs.Common.{◌≡◌, ℕ, zero, suc, ◌+◌, ◌<◌, List, [], ◌∷◌, length, get_or, set, Option, Some, refl, sym, ap, ◌∙◌, subst, arith, inl, inr}
use Rattle.std.specs.Prelude.{slice_get}
use Rattle.std.proofs.Math.Nat.{ℕ_set}
use Rattle.std.proofs.lemmas.Bool.{cases_eq}
use Rattle.std.proofs.lemmas.Option.{slice_get-get_or}
use Rattle.hic_word.specs.declared.Line.{Line}
use Rattle.hic_word.specs.declared.Word.{Word}
use Rattle.line_slots.specs.declared.content.Tag.{Tag}
use Rattle.line_slots.specs.Tags.{tag_of, tagged, words_of}
use Rattle.line_slots.proofs.ListReads.{get_set_other, get_set_same}

-- one element more is that of the other list
pub filled_more : {X : Type 0} (xs ys : List X) (k : ℕ) (x : X) → k < length xs → slice_get ys k ≡ Some x → ((j : ℕ) → j < k → slice_get xs j ≡ slice_get ys j) → (j : ℕ) → j < k + 1 → slice_get (set xs k x) j ≡ slice_get ys j
filled_more xs ys k x low e done j h = elim (cases_eq j k) [
  | inl s ↦ ap (slice_get (set xs k x)) s ∙ get_set_same xs k x low ∙ sym e ∙ ap (slice_get ys) (sym s)
  | inr n ↦ get_set_other xs k j x n ∙ done j (omega arith)
]

pub head_same : {X : Type 0} (x y : X) → ◌≡◌ {A = Option X} (Some x) (Some y) → x ≡ y
head_same x y e = cc

pub filled_all : {X : Type 0} (xs ys : List X) → length xs ≡ length ys → ((j : ℕ) → j < length xs → slice_get xs j ≡ slice_get ys j) → xs ≡ ys
filled_all [] [] e h = refl
filled_all [] (y ∷ ys) e h = absurd (omega arith)
filled_all (x ∷ xs) [] e h = absurd (omega arith)
filled_all (x ∷ xs) (y ∷ ys) e h =
    ap (λ z. z ∷ xs) (head_same x y (h 0 (omega arith))) ∙ ap (λ zs. y ∷ zs) (filled_all xs ys (omega arith) (λ j l. h (suc j) (omega arith)))

-- the word at a place where there are bits and a tag
pub word_there : (bits : List ℕ) (tags : List Tag) (k n : ℕ) (tag : Tag) → k < length bits → k < length tags → slice_get (words_of bits tags) k ≡ Some (tagged (get_or tags k tag) (get_or bits k n))
word_there [] tags k n tag h i = absurd (omega arith)
word_there (b ∷ bits) [] k n tag h i = absurd (omega arith)
word_there (b ∷ bits) (t ∷ tags) zero n tag h i = refl
word_there (b ∷ bits) (t ∷ tags) (suc k) n tag h i = word_there bits tags k n tag (omega arith) (omega arith)

-- the words after a write to the bits and the tags
pub words-set : (bits : List ℕ) (tags : List Tag) (k n : ℕ) (tag : Tag) → words_of (set bits k n) (set tags k tag) ≡ set (words_of bits tags) k (tagged tag n)
words-set [] tags k n tag = refl
words-set (b ∷ bits) [] zero n tag = refl
words-set (b ∷ bits) [] (suc k) n tag = refl
words-set (b ∷ bits) (t ∷ tags) zero n tag = refl
words-set (b ∷ bits) (t ∷ tags) (suc k) n tag = ap (λ ws. tagged t b ∷ ws) (words-set bits tags k n tag)

-- one word more, by its bits and its tag
pub word_filled : (bits : List ℕ) (tags : List Tag) (ys : List Word) (k : ℕ) (d : Word) (tag : Tag) → tag ≡ tag_of (get_or ys k d) → k < length (words_of bits tags) → k < length ys → ((j : ℕ) → j < k → slice_get (words_of bits tags) j ≡ slice_get ys j)
    → (j : ℕ) → j < k + 1 → slice_get (words_of (set bits k (get_or ys k d).bits) (set tags k tag)) j ≡ slice_get ys j
word_filled bits tags ys k d tag e low there done j h =
    let n = (get_or ys k d).bits in
    ap (λ ws. slice_get ws j) (words-set bits tags k n tag)
    ∙ filled_more (words_of bits tags) ys k (tagged tag n) low (slice_get-get_or ys k d there ∙ ap (λ (t : Tag). Some (tagged t n)) (sym e)) done j h

-- lines with the same words
pub same_words : {w : ℕ} (a b : Line w) → a.w ≡ b.w → a ≡ b
same_words {w} a b e = go a.w b.w a.long b.long e
  where
    go : (xs ys : List Word) (p : length xs ≡ w) (q : length ys ≡ w) → xs ≡ ys → ◌≡◌ {A = Line w} (record { w = xs; long = p }) (record { w = ys; long = q })
    go xs ys p q e = subst (λ zs. (r : length zs ≡ w) → ◌≡◌ {A = Line w} (record { w = xs; long = p }) (record { w = zs; long = r })) e (λ r. ap (λ s. record { w = xs; long = s }) (ℕ_set _ _ p r)) q
