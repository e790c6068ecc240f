-- Worked examples: two tasks that write to one segment, step by step as a schedule orders them.
use Rattle.std.specs.Prelude.{◌≡◌, ℕ, List, [], ◌∷◌, ◌++◌, map, decimal, refl}
use Rattle.hic_isa.specs.declared.instr.Instr.{Instr}
use Rattle.hic_isa.specs.declared.instr.Instr.TheVariants.{Halt, Li, Putn, Open, Seek, Store, Commit}
use Rattle.hic_isa.specs.declared.instr.SegKind.{SegKind}
use Rattle.hic_isa.specs.declared.instr.SegKind.TheVariants.{Plain, Merge}
use Rattle.hic_object.specs.declared.object.DataRec.{DataRec}
use Rattle.hic_object.specs.Parts.{parts}
use Rattle.hic_word.specs.Heights.{height, height_from}
use Rattle.hic_word.specs.Lines.{visits}
use Rattle.hic_word.specs.Same.{same, same_numbers, same_pairs, same_value, same_values}
use Rattle.hic_word.specs.Values.{Number, Array, depth}
use Rattle.hic_plain.specs.Machine.{start}
use Rattle.hic_plain.specs.Run.{Ran, go, run}

-- the first task writes 70001 at offset 0, and prints its answer
abbrev first : List Instr
first = Li 0 0 ∷ Open 0 0 ∷ Li 1 70001 ∷ Store 0 1 ∷ Commit 2 0 ∷ Putn 2 ∷ Halt ∷ []

-- the second writes a word at an offset
abbrev second : ℕ → ℕ → List Instr
second offset word = Li 0 0 ∷ Open 0 0 ∷ Li 1 offset ∷ Seek 0 1 ∷ Li 2 word ∷ Store 0 2 ∷ Commit 3 0 ∷ Putn 3 ∷ Halt ∷ []

-- both open the segment before the first commits: two steps of each, the first to its end, the second to its end
abbrev schedule : List ℕ
schedule = 0 ∷ 0 ∷ 1 ∷ 1 ∷ 0 ∷ 0 ∷ 0 ∷ 0 ∷ 0 ∷ []

abbrev writers : SegKind → List DataRec → ℕ → ℕ → Ran
writers kind words offset word = run (start (parts (0 ∷ 7 ∷ []) (kind ∷ []) words (first ++ second offset word)) [] 65536) schedule 16

-- what was written, and the segments' arrays
abbrev shown : Ran → List ℕ × List Array
shown r = (r.out, map (λ s. s.array) r.last.segments)

abbrev both_answers : ℕ → ℕ → List ℕ
both_answers a b = decimal a ++ (decimal b ++ [])

-- at different offsets both are kept
both_kept : shown (writers Merge [] 5 70002) ≡ (both_answers 0 1, ((0, Number 70001) ∷ (5, Number 70002) ∷ []) ∷ [])
unfolding go height height_from visits same same_numbers same_pairs same_value same_values depth
both_kept = refl

-- at one offset another word conflicts, and the same word does not
one_offset : shown (writers Merge [] 0 70002) ≡ (both_answers 0 2, ((0, Number 70001) ∷ []) ∷ [])
unfolding go height height_from visits same same_numbers same_pairs same_value same_values depth
one_offset = refl

one_word : shown (writers Merge [] 0 70001) ≡ (both_answers 0 1, ((0, Number 70001) ∷ []) ∷ [])
unfolding go height height_from visits same same_numbers same_pairs same_value same_values depth
one_word = refl

-- a plain segment takes no stale commit
plain : shown (writers Plain [] 5 70002) ≡ (both_answers 0 2, ((0, Number 70001) ∷ []) ∷ [])
unfolding go height height_from visits same same_numbers same_pairs same_value same_values depth
plain = refl

-- a word that is written back unchanged undoes nothing
written_back : shown (writers Merge (record { segment = 0; offset = 0; value = 7 } ∷ []) 0 7) ≡ (both_answers 0 1, ((0, Number 70001) ∷ []) ∷ [])
unfolding go height height_from visits same same_numbers same_pairs same_value same_values depth
written_back = refl

-- the first task changes the segment and changes it back before the second commits, which finds its snapshot again
abbrev first_undoes : List Instr
first_undoes = Li 0 0 ∷ Open 0 0 ∷ Li 1 70001 ∷ Store 0 1 ∷ Commit 2 0 ∷ Store 0 0 ∷ Commit 2 0 ∷ Halt ∷ []

undone : shown (run (start (parts (0 ∷ 8 ∷ []) (Merge ∷ []) [] (first_undoes ++ second 5 70002)) [] 65536) (0 ∷ 0 ∷ 1 ∷ 1 ∷ 0 ∷ 0 ∷ 0 ∷ 0 ∷ 0 ∷ 0 ∷ []) 17) ≡ (decimal 0 ++ [], ((5, Number 70002) ∷ []) ∷ [])
unfolding go height height_from visits same same_numbers same_pairs same_value same_values depth
undone = refl
