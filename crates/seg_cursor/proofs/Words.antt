-- The words of bits and tags.
use Rattle.std.proofs.Common.{◌≡◌, ℕ, zero, suc, ◌+◌, ◌<◌, List, [], ◌∷◌, length, get_or, set, refl, sym, subst, ◌∙◌, ap, arith}
use Rattle.std.proofs.lemmas.List.{get_or-set_other, get_or-set_same}
use Rattle.hic_word.specs.declared.Kind.TheVariants.{Num}
use Rattle.hic_word.specs.declared.Word.{Word}
use Rattle.hic_word.specs.Stands.{word_of}
use Rattle.seg_read.specs.Founds.{IsFirst, word_in}
use Rattle.seg_cursor.specs.Rows.{EndsAt, no_words, words_of}
use Rattle.seg_cursor.specs.declared.row.Tag.{Tag}

-- the word at a place
pub word_at : (bits : List ℕ) (tags : List Tag) (k n : ℕ) (tag : Tag) → k < length bits → k < length tags → word_in (words_of bits tags) k ≡ word_of (get_or tags k tag).kind (get_or tags k tag).height (get_or bits k n)
word_at [] tags k n tag h i = absurd (omega arith)
word_at (b ∷ bits) [] k n tag h i = absurd (omega arith)
word_at (b ∷ bits) (t ∷ tags) zero n tag h i = refl
word_at (b ∷ bits) (t ∷ tags) (suc k) n tag h i = word_at bits tags k n tag (omega arith) (omega arith)

-- other bits and another tag at a place
words_of-set : (bits : List ℕ) (tags : List Tag) (k n : ℕ) (tag : Tag) → words_of (set bits k n) (set tags k tag) ≡ set (words_of bits tags) k (word_of tag.kind tag.height n)
words_of-set [] tags k n tag = refl
words_of-set (b ∷ bits) [] zero n tag = refl
words_of-set (b ∷ bits) [] (suc k) n tag = refl
words_of-set (b ∷ bits) (t ∷ tags) zero n tag = refl
words_of-set (b ∷ bits) (t ∷ tags) (suc k) n tag = ap (λ (words : List Word). word_of t.kind t.height b ∷ words) (words_of-set bits tags k n tag)

-- one word among zeros
pub zero_at : (q : ℕ) → q < 4 → word_in no_words q ≡ word_of Num 0 0
zero_at zero low = refl
zero_at (suc zero) low = refl
zero_at (suc (suc zero)) low = refl
zero_at (suc (suc (suc zero))) low = refl
zero_at (suc (suc (suc (suc q)))) low = absurd (omega (arith, low))

zero_beside : (place j : ℕ) (word : Word) → (j ≡ place → ⊥) → j < 4 → word_in (set no_words place word) j ≡ word_of Num 0 0
zero_beside place j word other low = get_or-set_other no_words place j word (word_of Num 0 0) other ∙ zero_at j low

abbrev no_tag : Tag
no_tag = record { kind = Num; height = 0 }

pub alone_ends : (place n : ℕ) (tag : Tag) → place < 4
    → EndsAt (words_of (set (0 ∷ 0 ∷ 0 ∷ 0 ∷ []) place n) (set (no_tag ∷ no_tag ∷ no_tag ∷ no_tag ∷ []) place tag)) (place + 1)
alone_ends place n tag low =
    let word = word_of tag.kind tag.height n in
    subst (λ words. EndsAt words (place + 1)) (sym (words_of-set (0 ∷ 0 ∷ 0 ∷ 0 ∷ []) (no_tag ∷ no_tag ∷ no_tag ∷ no_tag ∷ []) place n tag)) (record {
      low = omega (arith, low);
      zeros = λ j from less. zero_beside place j word (λ e. omega (arith, e, from)) less;
    })

pub word_alone : (place : ℕ) (word : Word) → place < 4 → word ≡ word_in (set no_words place word) place
word_alone place word low = sym (get_or-set_same no_words place word (word_of Num 0 0) low)

pub first_alone : (place : ℕ) (word : Word) → place < 4 → (word ≡ word_of Num 0 0 → ⊥) → IsFirst (set no_words place word) 0 place
first_alone place word low some = record {
  from = omega arith;
  low = low;
  zeros = λ j from less. zero_beside place j word (λ e. omega (arith, e, less)) (omega (arith, less, low));
  some = λ none. some (word_alone place word low ∙ none);
}
