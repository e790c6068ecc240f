-- Worked examples of the instructions on references, iterator registers and segments.
use Rattle.std.specs.Prelude.{◌≡◌, ℕ, true, false, List, [], ◌∷◌, ◌++◌, map, None, decimal, refl}
use Rattle.std.specs.List.{range_with_len}
use Rattle.hic_isa.specs.declared.instr.Instr.{Instr}
use Rattle.hic_isa.specs.declared.instr.Instr.TheVariants.{Halt, Li, Lih, Addi, Alu, Eq, Isref, Jmp, Jnz, Putn, Open, Openr, Seek, Pos, Load, Store, Find, Next, Commit, Abort, Close, Root, Snap, Seal, Mcas}
use Rattle.hic_isa.specs.declared.instr.AluOp.TheVariants as op
use Rattle.hic_isa.specs.declared.instr.SegKind.TheVariants.{Plain, Merge}
use Rattle.hic_object.specs.declared.object.DataRec.{DataRec}
use Rattle.hic_object.specs.Parts.{parts}
use Rattle.hic_word.specs.Heights.{height, height_from}
use Rattle.hic_word.specs.Lines.{visits}
use Rattle.hic_word.specs.Same.{same, same_numbers, same_pairs, same_value, same_values}
use Rattle.hic_word.specs.Values.{Value, Number, Ref, NoPair, Pair, Array, depth}
use Rattle.hic_plain.specs.declared.turn.End.TheVariants as ends
use Rattle.hic_plain.specs.declared.turn.Trap.TheVariants as trap
use Rattle.hic_plain.specs.Full.{full_at_load}
use Rattle.hic_plain.specs.Machine.{Iter, Machine, start}
use Rattle.hic_plain.specs.Iters.{is_full}
use Rattle.hic_plain.specs.Run.{Ran, go, run}

-- one task, two plain segments of which the first has words, and as many steps as there are instructions
abbrev begun : ℕ → List DataRec → List Instr → Machine
begun capacity words code = start (parts (0 ∷ []) (Plain ∷ Plain ∷ []) words code) [] capacity

abbrev ran : List DataRec → List Instr → ℕ → Ran
ran words code steps = run (begun 65536 words code) [] steps

abbrev regs : Ran → List (List Value)
regs r = map (λ task. task.regs) r.last.tasks

abbrev arrays : Ran → List Array
arrays r = map (λ s. s.array) r.last.segments

abbrev datum : ℕ → ℕ → DataRec
datum offset value = record { segment = 0; offset = offset; value = value }

-- ---- references

-- the empty array's reference is stored at offset 0: it is a word, and it is found
empty_reference : (ran [] (Li 0 1 ∷ Root 1 0 ∷ Li 0 0 ∷ Open 0 0 ∷ Store 0 1 ∷ Commit 2 0 ∷ Isref 3 1 ∷ Putn 3 ∷ Find 4 0 ∷ Putn 4 ∷ Halt ∷ []) 11).out ≡ decimal 1 ++ (decimal 1 ++ [])
unfolding go height height_from visits same same_numbers same_pairs same_value same_values depth
empty_reference = refl

-- references to equal arrays are equal words, whatever they were made of
equal_references : regs (ran (datum 3 7 ∷ []) (Li 1 7 ∷ Li 2 3 ∷ Li 3 1 ∷ Root 4 0 ∷ Open 0 3 ∷ Seek 0 2 ∷ Store 0 1 ∷ Seal 5 0 ∷ Eq 6 4 5 ∷ Root 7 3 ∷ Eq 7 4 7 ∷ []) 11)
    ≡ (Number 0 ∷ Number 7 ∷ Number 3 ∷ Number 1 ∷ Ref (Pair 3 (Number 7) NoPair) ∷ Ref (Pair 3 (Number 7) NoPair) ∷ Number 1 ∷ Number 0 ∷ []) ∷ []
unfolding go height height_from visits same same_numbers same_pairs same_value same_values depth
equal_references = refl

-- ---- iterator registers

-- two words at the ends of an array: the next one is at the last offset, and there is none after it
ends_met : regs (ran (datum 0 1 ∷ datum 4294967295 2 ∷ []) (Open 0 0 ∷ Next 1 0 ∷ Pos 2 0 ∷ Next 3 0 ∷ Pos 4 0 ∷ []) 5)
    ≡ (Number 0 ∷ Number 1 ∷ Number 4294967295 ∷ Number 0 ∷ Number 4294967295 ∷ Number 0 ∷ Number 0 ∷ Number 0 ∷ []) ∷ []
unfolding go same_value
ends_met = refl

-- a buffered word is read and a buffered 0 hides a word; abort brings the snapshot back
hidden : regs (ran (datum 0 7 ∷ datum 5 8 ∷ []) (Open 0 0 ∷ Store 0 0 ∷ Load 1 0 ∷ Find 2 0 ∷ Pos 3 0 ∷ Abort 0 ∷ Load 4 0 ∷ []) 7)
    ≡ (Number 0 ∷ Number 0 ∷ Number 1 ∷ Number 5 ∷ Number 8 ∷ Number 0 ∷ Number 0 ∷ Number 0 ∷ []) ∷ []
unfolding go same_value
hidden = refl

-- seal makes an array of the view and leaves the register, whose snapshot is the old one, and the segment
sealed : regs (ran (datum 0 7 ∷ []) (Li 1 9 ∷ Open 0 0 ∷ Store 0 1 ∷ Seal 2 0 ∷ Snap 3 0 ∷ Load 4 0 ∷ []) 6)
    ≡ (Number 0 ∷ Number 9 ∷ Ref (Pair 0 (Number 9) NoPair) ∷ Ref (Pair 0 (Number 7) NoPair) ∷ Number 9 ∷ Number 0 ∷ Number 0 ∷ Number 0 ∷ []) ∷ []
unfolding go height height_from visits same same_numbers same_pairs same_value same_values depth
sealed = refl

-- a register without a segment reads, and is not committed
detached : (ran (datum 0 7 ∷ []) (Li 0 0 ∷ Root 1 0 ∷ Openr 0 1 ∷ Commit 2 0 ∷ []) 4).end ≡ ends.Trapped trap.Detached 0 3
unfolding go
detached = refl

-- ---- traps, the first in its row

reference_for_number : (ran [] (Li 0 0 ∷ Root 1 0 ∷ Alu op.Add 2 1 1 ∷ []) 3).end ≡ ends.Trapped trap.BadType 0 2
unfolding go
reference_for_number = refl

number_for_reference : (ran [] (Openr 0 0 ∷ []) 1).end ≡ ends.Trapped trap.BadType 0 0
unfolding go
number_for_reference = refl

no_segment : (ran [] (Li 0 2 ∷ Open 0 0 ∷ []) 2).end ≡ ends.Trapped trap.Segment 0 1
unfolding go
no_segment = refl

-- closed comes before type
closed_first : (ran [] (Root 1 0 ∷ Seek 0 1 ∷ []) 2).end ≡ ends.Trapped trap.Closed 0 1
unfolding go
closed_first = refl

-- type comes before segment
type_first : (ran [] (Li 0 9 ∷ Mcas 0 1 2 ∷ []) 2).end ≡ ends.Trapped trap.BadType 0 1
unfolding go
type_first = refl

past_the_offsets : (ran [] (Li 0 0 ∷ Open 0 0 ∷ Li 1 0 ∷ Lih 1 1 ∷ Seek 0 1 ∷ []) 5).end ≡ ends.Trapped trap.Offset 0 4
unfolding go
past_the_offsets = refl

closed_again : (ran [] (Open 0 0 ∷ Close 0 ∷ Load 1 0 ∷ []) 3).end ≡ ends.Trapped trap.Closed 0 2
unfolding go
closed_again = refl

-- 64 offsets are buffered, 0 to 63: another one is refused, and one of them is not
abbrev buffered_64 : ℕ → Iter
buffered_64 position = record { segment = None; snapshot = []; position = position; buffered = map (λ o. (o, Number 1)) (range_with_len 0 64) }

many : map (λ position. is_full (buffered_64 position)) (63 ∷ 64 ∷ []) ≡ false ∷ true ∷ []
many = refl

-- a program that stores at one offset after another traps at the 65th
filled : (ran [] (Li 0 0 ∷ Open 0 0 ∷ Li 1 0 ∷ Li 2 1 ∷ Seek 0 1 ∷ Store 0 2 ∷ Addi 1 1 1 ∷ Jmp 4 ∷ []) 1000).end ≡ ends.Trapped trap.Buffer 0 5
unfolding go
filled = refl

-- ---- room

-- the array as it was opened is held until the commit: with room for one line the second one traps
abbrev counting : List Instr
counting = Li 0 0 ∷ Open 0 0 ∷ Li 1 65536 ∷ Li 5 2 ∷ Store 0 1 ∷ Commit 2 0 ∷ Addi 1 1 1 ∷ Addi 5 5 0xffffffff ∷ Jnz 5 4 ∷ Halt ∷ []

one_line : (run (begun 1 [] counting) [] 100).end ≡ ends.Trapped trap.Full 0 5
unfolding go height height_from visits same same_numbers same_pairs same_value same_values depth
one_line = refl

two_lines : (run (begun 2 [] counting) [] 100).end ≡ ends.Halted
unfolding go height height_from visits same same_numbers same_pairs same_value same_values depth
two_lines = refl

-- the initial arrays have three lines
abbrev three_lines : ℕ → Machine
three_lines capacity = begun capacity (datum 0 70000 ∷ datum 4 80000 ∷ []) (Halt ∷ [])

at_load : map (λ capacity. full_at_load (three_lines capacity)) (2 ∷ 3 ∷ []) ≡ true ∷ false ∷ []
unfolding height height_from visits same same_numbers same_pairs same_value same_values depth
at_load = refl

-- ---- mcas

-- segment 0 gets what segment 2 has and segment 1 has not, and keeps its own word
abbrev three_segments : Machine
three_segments = start (parts (0 ∷ []) (Merge ∷ Merge ∷ Merge ∷ []) (datum 5000 7 ∷ record { segment = 2; offset = 0; value = 1 } ∷ []) (Li 0 1 ∷ Root 1 0 ∷ Li 0 2 ∷ Root 2 0 ∷ Li 0 0 ∷ Mcas 0 1 2 ∷ Putn 0 ∷ Halt ∷ [])) [] 65536

joined : arrays (run three_segments [] 8) ≡ ((0, Number 1) ∷ (5000, Number 7) ∷ []) ∷ [] ∷ ((0, Number 1) ∷ []) ∷ []
unfolding go height height_from visits same same_numbers same_pairs same_value same_values depth
joined = refl

joined_answer : (run three_segments [] 8).out ≡ decimal 1 ++ []
unfolding go height height_from visits same same_numbers same_pairs same_value same_values depth
joined_answer = refl
