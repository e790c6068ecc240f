-- Worked examples of runs of one task, and of references among words.
use Rattle.std.specs.Prelude.{◌≡◌, [], ◌∷◌, refl}
use Rattle.std.specs.declared.ops.ControlFlow.TheVariants.{Break, Continue}
use Rattle.hic_isa.specs.declared.instr.Instr.TheVariants.{Halt, Jmp, Li, Putb}
use Rattle.hic_object.specs.Parts.{parts}
use Rattle.hic_plain.specs.declared.turn.Trap.TheVariants as trap
use Rattle.hic_plain.specs.declared.turn.Turn.TheVariants.{Halted, Trapped, Went}
use Rattle.hic_plain.specs.Machine.{Machine, start}
use Rattle.hic_word.specs.declared.Kind.TheVariants.{Num, RefNode, RefPack}
use Rattle.hic_word.specs.Stands.{word_of}
use Rattle.hic_machine.specs.HeldAt.{references_in, sought}
use Rattle.hic_machine.specs.TaskRuns.{run_task}

-- it writes the letter H, and halts
abbrev hello : Machine
hello = start (parts (0 ∷ []) [] [] (Li 0 72 ∷ Putb 0 ∷ Halt ∷ [])) [] 65536

-- no step is made where none is asked for
row-none : run_task hello 0 0 ≡ record { left = hello; made = 0; out = []; turn = Went }
unfolding run_task
row-none = refl

-- one step goes on
row-most : (run_task hello 0 1).turn ≡ Went
unfolding run_task
row-most = refl

-- the second step prints, and the task goes on
row-out : (run_task hello 0 2).out ≡ 72 ∷ []
unfolding run_task
row-out = refl

row-out-goes-on : (run_task hello 0 2).turn ≡ Went
unfolding run_task
row-out-goes-on = refl

-- the third step halts, and so it is the last
row-halted : (run_task hello 0 9).turn ≡ Halted
unfolding run_task
row-halted = refl

row-halted-made : (run_task hello 0 9).made ≡ 3
unfolding run_task
row-halted-made = refl

-- what was printed before is still told
row-halted-out : (run_task hello 0 9).out ≡ 72 ∷ []
unfolding run_task
row-halted-out = refl

-- a loop goes on for as long as it may
abbrev loop : Machine
loop = start (parts (0 ∷ []) [] [] (Jmp 0 ∷ [])) [] 65536

row-loop : run_task loop 0 9 ≡ record { left = loop; made = 9; out = []; turn = Went }
unfolding run_task
row-loop = refl

-- the step past the end of the code traps, and counts
row-end : (run_task (start (parts (0 ∷ []) [] [] (Li 0 1 ∷ [])) [] 65536) 0 9).turn ≡ Trapped trap.End
unfolding run_task
row-end = refl

row-end-made : (run_task (start (parts (0 ∷ []) [] [] (Li 0 1 ∷ [])) [] 65536) 0 9).made ≡ 2
unfolding run_task
row-end-made = refl

-- the references are counted, and numbers are passed over
row-sought : sought (word_of Num 0 7 ∷ word_of RefPack 1 5 ∷ word_of Num 0 0 ∷ word_of RefNode 2 3 ∷ []) 1 ≡ Break (word_of RefNode 2 3)
row-sought = refl

row-not-found : sought (word_of Num 0 7 ∷ word_of RefPack 1 5 ∷ word_of Num 0 0 ∷ word_of RefNode 2 3 ∷ []) 5 ≡ Continue 3
row-not-found = refl

-- the empty array is one as well
row-empty : references_in (word_of Num 0 0 ∷ word_of RefPack 0 0 ∷ []) ≡ word_of RefPack 0 0 ∷ []
row-empty = refl
