-- The listing of a machine: how it ended, its segments, and its lines, each with a number and its count. It is said of
-- the machine of plain arrays alone.
use Rattle.std.specs.Prelude.{ℕ, suc, List, [], ◌∷◌, ◌++◌, map, flat_map, length, codes, decimal, if◌then◌else◌}
use Rattle.hic_word.specs.Values.{Value, Number, Ref, Array, array}
use Rattle.hic_word.specs.Entries.{Entry, Zero, Pack, Named, LineValue, Leaf, Inner, entries}
use Rattle.hic_word.specs.Heights.{height}
use Rattle.hic_word.specs.Canon.{root_entry}
use Rattle.hic_word.specs.Same.{same}
use Rattle.hic_word.specs.Lines.{lines, count}
use Rattle.hic_plain.specs.declared.turn.End.{End}
use Rattle.hic_plain.specs.declared.turn.End.TheVariants as ends
use Rattle.hic_plain.specs.Machine.{Machine, held, width_of}
use Rattle.hic_plain.specs.Traps.{trap_name}
use Rattle.hic_list.specs.Texts.{bracketed, numbered, separated, text_line}

-- The number of a line: how many stand before it. The lines of arrays stand in the order of the first visit: the arrays
-- in their order, the root's line first, and after each line what its words name, in order.
abbrev pub number : List LineValue → LineValue → ℕ
number [] L = 0
number (K ∷ Ks) L = if same K L then 0 else suc (number Ks L)

-- ---- words, by the lines that have numbers

-- the steps of a path, the first one first; nothing where there is none
abbrev pub path_text : List ℕ → List ℕ
path_text [] = []
path_text (step ∷ steps) = 47 ∷ flat_map decimal (step ∷ steps)

abbrev pub entry_text : List LineValue → Entry → List ℕ
entry_text Ls Zero = decimal 0
entry_text Ls (Pack ns) = bracketed (separated ns)
entry_text Ls (Named L path) = 35 ∷ decimal (number Ls L) ++ path_text path

-- the entry of a root after its height; nothing for the empty array, which has none
abbrev pub root_text : List LineValue → Entry → List ℕ
root_text Ls Zero = []
root_text Ls (Pack ns) = entry_text Ls (Pack ns)
root_text Ls (Named L path) = entry_text Ls (Named L path)

abbrev pub height_text : ℕ → Array → List ℕ
height_text w A = 104 ∷ decimal (height w A)

abbrev pub value_text : ℕ → List LineValue → Value → List ℕ
value_text w Ls (Number n) = decimal n
value_text w Ls (Ref H) = 38 ∷ height_text w (array H) ++ root_text Ls (root_entry w (array H))

-- the words of a line
abbrev pub line_words : ℕ → List LineValue → LineValue → List (List ℕ)
line_words w Ls (Leaf vs) = map (value_text w Ls) vs
line_words w Ls (Inner es) = map (entry_text Ls) (entries es)

-- ---- lines of the listing

abbrev pub end_line : End → List ℕ
end_line ends.Halted = text_line (codes "end") (codes "halted" ∷ [])
end_line ends.Budget = text_line (codes "end") (codes "budget" ∷ [])
end_line (ends.Trapped trap task pc) = text_line (codes "end") (codes "trap" ∷ trap_name trap ∷ codes "task" ∷ decimal task ∷ codes "pc" ∷ decimal pc ∷ [])

-- how many lines there are, and how many there may be
abbrev pub room_line : ℕ → ℕ → List ℕ
room_line live capacity = text_line (codes "lines") (decimal live ∷ codes "of" ∷ decimal capacity ∷ [])

-- a segment with its number, its height and its entry
abbrev pub segment_line : ℕ → List LineValue → ℕ → Array → List ℕ
segment_line w Ls i A = text_line (codes "seg") (decimal i ∷ height_text w A ∷ entry_text Ls (root_entry w A) ∷ [])

-- a line with its number, the count of what names it, and its words, among those of the arrays R
abbrev pub line_line : ℕ → List Array → ℕ → LineValue → List ℕ
line_line w R i L = text_line (35 ∷ decimal i) ((110 ∷ decimal (count w L R)) ∷ line_words w (lines w R) L)

-- segments, and the lines of the arrays R that are held
abbrev pub parts_text : ℕ → List Array → List Array → List ℕ
parts_text w segments R = numbered (segment_line w (lines w R)) 0 segments ++ numbered (line_line w R) 0 (lines w R)

-- the listing of a machine with its end
unfoldable pub listing : Machine → End → List ℕ
listing m end =
    end_line end
    ++ (room_line (length (lines (width_of m) (held m))) m.capacity
    ++ parts_text (width_of m) (map (λ s. s.array) m.segments) (held m))
