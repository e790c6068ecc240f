-- The hash of a line's words, and their bucket. All numbers are below 2^64, and products are modulo 2^64.
use Rattle.std.specs.Prelude.{ℕ, ◌+◌, ◌*◌, ◌/◌, ◌%◌, ◌^◌, List, [], ◌∷◌, bit_xor}
use Rattle.hic_word.specs.declared.Kind.{Kind}
use Rattle.hic_word.specs.declared.Kind.TheVariants.{Num, Node, Pack, RefNode, RefPack}
use Rattle.hic_word.specs.declared.Word.{Word}

-- what each product multiplies by: an odd number, 2^64 divided by the golden ratio
abbrev pub multiplier : ℕ
multiplier = 0x9E3779B97F4A7C15

abbrev pub kind_number : Kind → ℕ
kind_number Num = 0
kind_number Node = 1
kind_number Pack = 2
kind_number RefNode = 3
kind_number RefPack = 4

-- the kind and the height of a word as one number
abbrev pub tag : Word → ℕ
tag word = kind_number word.kind * 256 + word.height

-- x with a number mixed in
abbrev pub stirred : ℕ → ℕ → ℕ
stirred x n = bit_xor x n * multiplier % 2 ^ 64

-- x with its upper half laid over the lower one
abbrev pub folded : ℕ → ℕ
folded x = bit_xor x (x / 2 ^ 32)

-- x with a word mixed in
abbrev pub with_word : ℕ → Word → ℕ
with_word x word = folded (stirred (stirred x word.bits) (tag word))

-- x with words mixed in, one after another
abbrev pub with_words : ℕ → List Word → ℕ
with_words x [] = x
with_words x (word ∷ words) = with_words (with_word x word) words

abbrev pub hash : List Word → ℕ
hash words = with_words 0 words

-- the bucket of words among n
abbrev pub bucket : List Word → ℕ → ℕ
bucket words n = hash words % n
