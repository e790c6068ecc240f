-- Worked listings.
use Rattle.std.specs.Prelude.{◌≡◌, ℕ, List, [], ◌∷◌, ◌++◌, map, codes, refl}
use Rattle.std.specs.Fmt.{digits}
use Rattle.hic_isa.specs.declared.instr.Instr.TheVariants.{Halt}
use Rattle.hic_isa.specs.declared.instr.SegKind.TheVariants.{Plain}
use Rattle.hic_object.specs.declared.object.DataRec.{DataRec}
use Rattle.hic_object.specs.Parts.{parts}
use Rattle.hic_word.specs.Heights.{height, height_from}
use Rattle.hic_word.specs.Lines.{visits}
use Rattle.hic_word.specs.Same.{same, same_numbers, same_pairs, same_value, same_values}
use Rattle.hic_word.specs.Values.{Array, NoPair, Number, Pair, Ref, depth}
use Rattle.hic_plain.specs.declared.turn.End.TheVariants as ends
use Rattle.hic_plain.specs.declared.turn.Trap.TheVariants as trap
use Rattle.hic_plain.specs.Machine.{Machine, start}
use Rattle.hic_list.specs.Listing.{listing}

-- lines, each with a line feed
abbrev text : List (List ℕ) → List ℕ
text [] = []
text (line ∷ lines) = line ++ (10 ∷ text lines)

abbrev datum : ℕ → ℕ → DataRec
datum offset value = record { segment = 0; offset = offset; value = value }

-- one segment with these words
abbrev begun : ℕ → List DataRec → Machine
begun capacity words = start (parts (0 ∷ []) (Plain ∷ []) words (Halt ∷ [])) [] capacity

-- no segment and no line
nothing : listing (start (parts (0 ∷ []) [] [] (Halt ∷ [])) [] 9) ends.Budget ≡ text (codes "end budget" ∷ codes "lines 0 of 9" ∷ [])
unfolding listing height height_from visits same digits depth
nothing = refl

-- packed numbers take no line
packed : listing (begun 65536 (datum 0 1 ∷ datum 1 2 ∷ [])) ends.Halted ≡ text (codes "end halted" ∷ codes "lines 0 of 65536" ∷ codes "seg 0 h1 [1,2,0,0]" ∷ [])
unfolding listing height height_from visits same digits depth
packed = refl

large : listing (begun 65536 (datum 0 65536 ∷ [])) (ends.Trapped trap.Full 0 5) ≡ text (codes "end trap full task 0 pc 5" ∷ codes "lines 1 of 65536" ∷ codes "seg 0 h1 #0" ∷ codes "#0 n1 65536 0 0 0" ∷ [])
unfolding listing height height_from visits same same_values same_value digits depth
large = refl

-- a packed part alone has a line; a line alone has a path
packed_alone : listing (begun 9 (datum 5 1 ∷ [])) ends.Halted ≡ text (codes "end halted" ∷ codes "lines 1 of 9" ∷ codes "seg 0 h2 #0" ∷ codes "#0 n1 0 [0,1,0,0] 0 0" ∷ [])
unfolding listing height height_from visits same same_values same_value same_numbers digits depth
packed_alone = refl

path : listing (begun 9 (datum 24 70000 ∷ [])) ends.Halted ≡ text (codes "end halted" ∷ codes "lines 1 of 9" ∷ codes "seg 0 h3 #0/12" ∷ codes "#0 n1 70000 0 0 0" ∷ [])
unfolding listing height height_from visits same same_values same_value same_numbers digits depth
path = refl

-- one line that is named twice
twice : listing (begun 64 (datum 0 70000 ∷ datum 4 70000 ∷ [])) ends.Halted ≡ text (codes "end halted" ∷ codes "lines 2 of 64" ∷ codes "seg 0 h2 #0" ∷ codes "#0 n1 #1 #1 0 0" ∷ codes "#1 n2 70000 0 0 0" ∷ [])
unfolding listing height height_from visits same same_values same_value same_numbers digits depth
twice = refl

-- two words far apart
far : listing (begun 9 (datum 0 1 ∷ datum 4294967295 2 ∷ [])) ends.Halted
    ≡ text (codes "end halted" ∷ codes "lines 3 of 9" ∷ codes "seg 0 h16 #0" ∷ codes "#0 n1 #1/0000000000000 0 0 #2/3333333333333" ∷ codes "#1 n1 [1,0,0,0] 0 0 0" ∷ codes "#2 n1 0 0 0 [0,0,0,2]" ∷ [])
unfolding listing height height_from visits same same_values same_value same_numbers digits depth
far = refl

-- a machine that holds these arrays, each in a segment
abbrev holding : List Array → Machine
holding arrays = record { code = []; capacity = 9; segments = map (λ A. record { kind = Plain; array = A }) arrays; tasks = []; input = [] }

-- an array in two segments, the second of which is visited again
abbrev shared : Array
shared = (0, Number 70000) ∷ (9, Number 80000) ∷ []

again : listing (holding (shared ∷ shared ∷ [])) ends.Halted
    ≡ text (codes "end halted" ∷ codes "lines 3 of 9" ∷ codes "seg 0 h2 #0" ∷ codes "seg 1 h2 #0" ∷ codes "#0 n2 #1 0 #2 0" ∷ codes "#1 n1 70000 0 0 0" ∷ codes "#2 n1 0 80000 0 0" ∷ [])
unfolding listing height height_from visits same same_values same_value same_numbers digits depth
again = refl

-- references: to the empty array, to one with a path, to a packed one
abbrev references : Array
references = (0, Ref NoPair) ∷ (1, Ref (Pair 5 (Number 70000) NoPair)) ∷ (2, Ref (Pair 1 (Number 3) NoPair)) ∷ []

referenced : listing (holding ([] ∷ references ∷ [])) ends.Halted
    ≡ text (codes "end halted" ∷ codes "lines 2 of 9" ∷ codes "seg 0 h0 0" ∷ codes "seg 1 h1 #0" ∷ codes "#0 n1 &h0 &h2#1/1 &h1[0,3,0,0] 0" ∷ codes "#1 n1 0 70000 0 0" ∷ [])
unfolding listing height height_from visits same same_values same_value same_numbers same_pairs digits depth
referenced = refl

-- depth first: what the first word names has its numbers before the second
abbrev deep : Array
deep = (0, Ref (Pair 0 (Number 70000) (Pair 4 (Number 80000) NoPair))) ∷ (1, Ref (Pair 0 (Number 90000) NoPair)) ∷ []

depth_first : listing (holding (deep ∷ [])) ends.Halted
    ≡ text (codes "end halted" ∷ codes "lines 5 of 9" ∷ codes "seg 0 h1 #0" ∷ codes "#0 n1 &h2#1 &h1#4 0 0" ∷ codes "#1 n1 #2 #3 0 0" ∷ codes "#2 n1 70000 0 0 0" ∷ codes "#3 n1 80000 0 0 0" ∷ codes "#4 n1 90000 0 0 0" ∷ [])
unfolding listing height height_from visits same same_values same_value same_numbers same_pairs digits depth
depth_first = refl
