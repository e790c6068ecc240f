-- Words by their bits and by what they are beside.
use Rattle.std.specs.Prelude.{◌≡◌, ℕ, zero, suc, List, [], ◌∷◌, length, refl}
use Rattle.std.proofs.Common.{ap, sym, subst, ◌∙◌}
use Rattle.hic_word.specs.declared.Word.{Word}
use Rattle.hic_word.specs.Stands.{word_of}
use Rattle.line_slots.specs.declared.content.Tag.{Tag}

abbrev pub tag_of : Word → Tag
tag_of word = record { kind = word.kind; height = word.height }

-- the word of a tag and bits
abbrev pub tagged : Tag → ℕ → Word
tagged tag n = word_of tag.kind tag.height n

-- words by their bits and tags
abbrev pub words_of : List ℕ → List Tag → List Word
words_of [] tags = []
words_of (n ∷ bits) [] = []
words_of (n ∷ bits) (tag ∷ tags) = tagged tag n ∷ words_of bits tags

abbrev stands : ℕ → Type 0
stands zero = ⊥
stands (suc n) = ℕ

abbrev less_one : ℕ → ℕ
less_one zero = zero
less_one (suc n) = n

as_long : (bits : List ℕ) (tags : List Tag) → length bits ≡ length tags → length (words_of bits tags) ≡ length bits
as_long [] tags e = refl
as_long (n ∷ bits) [] e = absurd (subst stands e 0)
as_long (n ∷ bits) (tag ∷ tags) e = ap suc (as_long bits tags (ap less_one e))

-- there are as many words as bits and tags
pub length-words : {w : ℕ} (bits : List ℕ) (tags : List Tag) → length bits ≡ w → length tags ≡ w → length (words_of bits tags) ≡ w
length-words bits tags e f = as_long bits tags (e ∙ sym f) ∙ e
