-- Registers that hold numbers, and those that hold other words.
use Rattle.std.specs.Prelude.{◌≡◌, ◌↔◌, ℕ, List, Some, slice_get}
use Rattle.std.specs.Int.{bit_at}
use Rattle.hic_word.specs.declared.Kind.TheVariants.{Num}
use Rattle.hic_word.specs.declared.Word.{Word}
use Rattle.hic_word.specs.Stands.{word_of}

-- the word is a number's
abbrev pub IsNumber : Word → Type 0
IsNumber word = word ≡ word_of Num 0 word.bits

-- the word of register r is a number's
abbrev pub HasNumber : List Word → ℕ → Type 0
HasNumber words r = (word : Word) → slice_get words r ≡ Some word → IsNumber word

-- register r holds the number n
abbrev pub HoldsNumber : List Word → ℕ → ℕ → Type 0
HoldsNumber words r n = slice_get words r ≡ Some (word_of Num 0 n)

-- bit r is clear exactly where register r holds a number
abbrev pub TellsOthers : ℕ → List Word → Type 0
TellsOthers bits words = (r : ℕ) (word : Word) → slice_get words r ≡ Some word → (bit_at bits r ≡ 0) ↔ IsNumber word
