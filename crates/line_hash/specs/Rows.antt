-- Worked rows of the hash. Their values were worked out by a program in another language.
use Rattle.std.specs.Prelude.{◌≡◌, ℕ, ◌-◌, ◌^◌, List, [], ◌∷◌, map, refl}
use Rattle.hic_word.specs.declared.Kind.TheVariants.{Num, Node, Pack, RefNode, RefPack}
use Rattle.hic_word.specs.declared.Word.{Word}
use Rattle.hic_word.specs.Stands.{word_of}
use Rattle.line_hash.specs.Hash.{bucket, hash, stirred}

abbrev numbers : List ℕ → List Word
numbers ns = map (word_of Num 0) ns

-- an entry with the path 3 to line 7, packed numbers, references
abbrev each_kind : List Word
each_kind = word_of Node 0 576460752353755143 ∷ word_of Pack 0 65535 ∷ word_of RefNode 16 9 ∷ word_of RefPack 1 (2 ^ 64 - 1) ∷ []

one_product : stirred 0 1 ≡ 0x9E3779B97F4A7C15
one_product = refl

zeros : hash (numbers (0 ∷ 0 ∷ 0 ∷ 0 ∷ [])) ≡ 0
zeros = refl

one : hash (numbers (1 ∷ 0 ∷ 0 ∷ 0 ∷ [])) ≡ 0xCF2CF664084DC04C
one = refl

four : hash (numbers (1 ∷ 2 ∷ 3 ∷ 4 ∷ [])) ≡ 0x7838EDA3D874A445
four = refl

-- lines of two and of eight words
two : hash (numbers (1 ∷ 2 ∷ [])) ≡ 0xDB0CA831549DDBA0
two = refl

eight : hash (numbers (1 ∷ 2 ∷ 3 ∷ 4 ∷ 5 ∷ 6 ∷ 7 ∷ 8 ∷ [])) ≡ 0x14DAE0BD22F59567
eight = refl

kinds : hash each_kind ≡ 0x4F642D4248DFF98E
kinds = refl

buckets : map (bucket each_kind) (1 ∷ 8192 ∷ 1000003 ∷ []) ≡ 0 ∷ 6542 ∷ 20393 ∷ []
buckets = refl
