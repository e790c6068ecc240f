-- Words as they are written, by the ids of the lines that have numbers, in the order of the numbers.
use Rattle.std.specs.Prelude.{ℕ, zero, suc, ◌/◌, ◌%◌, ◌^◌, List, [], ◌∷◌, ◌++◌, map, codes, decimal, flat_map, Option, Some, None, unwrap_or, if◌then◌else◌, ◌==◌}
use Rattle.hic_word.specs.declared.Kind.{Kind}
use Rattle.hic_word.specs.declared.Kind.TheVariants as kind
use Rattle.hic_word.specs.declared.Word.{Word}
use Rattle.hic_word.specs.Memory.{Memory, count_at, line_at}
use Rattle.hic_word.specs.Width.{pack_limit}
use Rattle.hic_list.specs.Texts.{bracketed, separated, text_line}
use Rattle.hic_list.specs.Listing.{path_text}

-- how many words a line has, in every memory
abbrev pub word_count : ℕ
word_count = 4

-- the number of an id: how many stand before it; none where it is not there
abbrev pub one_more : Option ℕ → Option ℕ
one_more None = None
one_more (Some n) = Some (suc n)

abbrev pub number_of : List ℕ → ℕ → Option ℕ
number_of [] id = None
number_of (x ∷ xs) id = if x == id then Some 0 else one_more (number_of xs id)

-- numbers below b that are kept in one, the first in the lowest place
abbrev pub digits_in : ℕ → ℕ → ℕ → List ℕ
digits_in b zero n = []
digits_in b (suc k) n = n % b ∷ digits_in b k (n / b)

-- packed numbers
abbrev pub packed_text : ℕ → List ℕ
packed_text bits = bracketed (separated (digits_in (pack_limit word_count) word_count bits))

-- an id with a path, as a word keeps them in its bits
abbrev pub name_text : List ℕ → ℕ → List ℕ
name_text ids bits = 35 ∷ decimal (unwrap_or (number_of ids (bits % 2 ^ 24)) 0) ++ path_text (digits_in word_count (bits / 2 ^ 59) (bits / 2 ^ 24 % 2 ^ 35))

-- what a root names after its height: nothing where the array is empty
abbrev pub packed_root_text : ℕ → ℕ → List ℕ
packed_root_text height bits = if height == 0 then [] else packed_text bits

abbrev pub height_before : ℕ → List ℕ → List ℕ
height_before height text = 38 ∷ 104 ∷ decimal height ++ text

abbrev pub kind_text : List ℕ → Kind → ℕ → ℕ → List ℕ
kind_text ids kind.Num height bits = decimal bits
kind_text ids kind.Node height bits = name_text ids bits
kind_text ids kind.Pack height bits = packed_text bits
kind_text ids kind.RefNode height bits = height_before height (name_text ids bits)
kind_text ids kind.RefPack height bits = height_before height (packed_root_text height bits)

-- a word of a line
abbrev pub word_text : List ℕ → Word → List ℕ
word_text ids word = kind_text ids word.kind word.height word.bits

-- the entry of a root
abbrev pub root_kind_text : List ℕ → Kind → ℕ → List ℕ
root_kind_text ids kind.RefNode bits = name_text ids bits
root_kind_text ids kind bits = packed_text bits

abbrev pub root_entry_text : List ℕ → Word → List ℕ
root_entry_text ids root = if root.height == 0 then decimal 0 else root_kind_text ids root.kind root.bits

-- a line with its number, the count of the holds on it, and its words
abbrev pub words_line : List ℕ → ℕ → ℕ → List Word → List ℕ
words_line ids number count words = text_line (35 ∷ decimal number) ((110 ∷ decimal count) ∷ map (word_text ids) words)

abbrev pub words_of : Option (List Word) → List Word
words_of None = []
words_of (Some words) = words

-- the line of an id in a memory
abbrev pub id_line : Memory → List ℕ → ℕ → ℕ → List ℕ
id_line m ids number id = words_line ids number (count_at m id) (words_of (line_at m id))

-- a segment with its number and its root
abbrev pub root_line : List ℕ → ℕ → Word → List ℕ
root_line ids number root = text_line (codes "seg") (decimal number ∷ (104 ∷ decimal root.height) ∷ root_entry_text ids root ∷ [])
