-- What words and lines stand for.
use Rattle.std.specs.Prelude.{◌≡◌, ℕ, ◌+◌, ◌*◌, ◌^◌, ◌<◌, List, [], ◌∷◌, length, Option, Some}
use Rattle.hic_word.specs.declared.Kind.{Kind}
use Rattle.hic_word.specs.declared.Kind.TheVariants.{Num, Node, RefNode, RefPack}
use Rattle.hic_word.specs.declared.Word.{Word}
use Rattle.hic_word.specs.Width.{pack_limit}
use Rattle.hic_word.specs.Values.{Value, Number, Ref, Pairs, NoPair, array}
use Rattle.hic_word.specs.Entries.{Entry, Zero, Pack, Named, LineValue, Leaf, Inner, Entries, NoEntry, More}
use Rattle.hic_word.specs.Heights.{height}
use Rattle.hic_word.specs.Canon.{root_entry}

-- the value of numbers below b, the first in the lowest place
abbrev pub digits_value : ℕ → List ℕ → ℕ
digits_value b [] = 0
digits_value b (n ∷ ns) = n + b * digits_value b ns

-- packed numbers: each takes as many bits as w of them leave it in 64
abbrev pub pack_bits : ℕ → List ℕ → ℕ
pack_bits w ns = digits_value (pack_limit w) ns

-- an id with a path: the path's numbers stand from bit 24 on, its length from bit 59 on
abbrev pub node_bits : ℕ → ℕ → List ℕ → ℕ
node_bits w id path = id + 2 ^ 24 * digits_value w path + 2 ^ 59 * length path

abbrev pub word_of : Kind → ℕ → ℕ → Word
word_of kind height bits = record { kind = kind; height = height; bits = bits }

-- the entry of an inner line that names an id with an empty path
abbrev pub node_word : ℕ → Word
node_word id = word_of Node 0 id

-- the words of lines, by id
abbrev pub Lookup : Type 0
Lookup = ℕ → Option (List Word)

-- over the width of lines and the lines
mutual
  -- the line at an id stands for a line value
  pub data IdFor (w : ℕ) (m : Lookup) : ℕ → LineValue → Type 0 where
    LeafAt : {id : ℕ} {line : List Word} {vs : List Value} → id < 2 ^ 24 → m id ≡ Some line → WordsFor w m line vs → IdFor w m id (Leaf vs)
    InnerAt : {id : ℕ} {line : List Word} {es : Entries} → id < 2 ^ 24 → m id ≡ Some line → EntriesFor w m line es → IdFor w m id (Inner es)

  -- words stand for values, one by one
  pub data WordsFor (w : ℕ) (m : Lookup) : List Word → List Value → Type 0 where
    NoWord : WordsFor w m [] []
    AWord : {x : Word} {xs : List Word} {v : Value} {vs : List Value} → WordFor w m x v → WordsFor w m xs vs → WordsFor w m (x ∷ xs) (v ∷ vs)

  -- words stand for entries, one by one
  pub data EntriesFor (w : ℕ) (m : Lookup) : List Word → Entries → Type 0 where
    NoEntries : EntriesFor w m [] NoEntry
    AnEntry : {x : Word} {xs : List Word} {e : Entry} {es : Entries} → EntryFor w m x e → EntriesFor w m xs es → EntriesFor w m (x ∷ xs) (More e es)

  -- a word stands for a number, or for a reference: to the empty array, to a packed one, to one that a stored line begins
  pub data WordFor (w : ℕ) (m : Lookup) : Word → Value → Type 0 where
    IsNumber : {x : Word} {n : ℕ} → x ≡ word_of Num 0 n → WordFor w m x (Number n)
    IsEmpty : {x : Word} → x ≡ word_of RefPack 0 0 → WordFor w m x (Ref NoPair)
    IsPacked : {x : Word} {H : Pairs} {ns : List ℕ} → root_entry w (array H) ≡ Pack ns → x ≡ word_of RefPack (height w (array H)) (pack_bits w ns) → WordFor w m x (Ref H)
    IsStored : {x : Word} {H : Pairs} {id : ℕ} {L : LineValue} {p : List ℕ} → root_entry w (array H) ≡ Named L p → IdFor w m id L → x ≡ word_of RefNode (height w (array H)) (node_bits w id p) → WordFor w m x (Ref H)

  -- a word stands for an entry
  pub data EntryFor (w : ℕ) (m : Lookup) : Word → Entry → Type 0 where
    ZeroEntry : {x : Word} → x ≡ word_of Num 0 0 → EntryFor w m x Zero
    PackEntry : {x : Word} {ns : List ℕ} → x ≡ word_of Kind.Pack 0 (pack_bits w ns) → EntryFor w m x (Pack ns)
    NamedEntry : {x : Word} {id : ℕ} {L : LineValue} {p : List ℕ} → IdFor w m id L → x ≡ word_of Node 0 (node_bits w id p) → EntryFor w m x (Named L p)

-- a line stands for a line value
abbrev pub LineFor : ℕ → Lookup → List Word → LineValue → Type 0
LineFor w m line (Leaf vs) = WordsFor w m line vs
LineFor w m line (Inner es) = EntriesFor w m line es

-- no two ids have one line
abbrev pub Unique : Lookup → Type 0
Unique m = (i j : ℕ) (line : List Word) → m i ≡ Some line → m j ≡ Some line → i ≡ j
