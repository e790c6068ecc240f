-- Worked examples of the machine of plain arrays.
use Rattle.std.specs.Prelude.{◌≡◌, [], ◌∷◌, ◌++◌, false, decimal, refl}
use Rattle.hic_isa.specs.declared.instr.Instr.TheVariants.{Halt, Li, Addi, Alu, Jmp, Getb, Putb, Putn}
use Rattle.hic_isa.specs.declared.instr.AluOp.TheVariants as op
use Rattle.hic_isa.specs.declared.instr.SegKind.TheVariants.{Plain}
use Rattle.hic_object.specs.Parts.{Parts, parts}
use Rattle.hic_word.specs.Values.{Number}
use Rattle.hic_plain.specs.declared.turn.Trap.TheVariants as trap
use Rattle.hic_plain.specs.declared.turn.End.TheVariants as ends
use Rattle.hic_plain.specs.Machine.{start, held, no_words, all_closed}
use Rattle.hic_plain.specs.Run.{run, go}

abbrev hello : Parts
hello = parts (0 ∷ []) [] [] (Li 0 72 ∷ Putb 0 ∷ Halt ∷ [])

-- the letter H is written in three steps
row-hello : (run (start hello [] 65536) [] 3).out ≡ 72 ∷ []
unfolding go
row-hello = refl

row-hello-halts : (run (start hello [] 65536) [] 3).end ≡ ends.Halted
unfolding go
row-hello-halts = refl

-- the task that has halted stands behind its last instruction and holds nothing
row-hello-last : (run (start hello [] 65536) [] 3).last.tasks ≡ record { runs = false; pc = 3; regs = no_words; iters = all_closed } ∷ []
unfolding go
row-hello-last = refl

-- after two steps it has written, and has not halted
row-hello-budget : (run (start hello [] 65536) [] 2).end ≡ ends.Budget
unfolding go
row-hello-budget = refl

-- past the end of the code there is a trap
row-end : (run (start (parts (0 ∷ []) [] [] (Li 0 1 ∷ [])) [] 65536) [] 1000).end ≡ ends.Trapped trap.End 0 1
unfolding go
row-end = refl

-- two tasks take turns
row-turns : (run (start (parts (0 ∷ 2 ∷ []) [] [] (Li 0 65 ∷ Putb 0 ∷ Li 0 66 ∷ Putb 0 ∷ Halt ∷ [])) [] 65536) [] 5).out ≡ 65 ∷ 66 ∷ []
unfolding go
row-turns = refl

-- the array of each segment is held, with the data at their offsets
row-held : held (start (parts (0 ∷ []) (Plain ∷ Plain ∷ []) (record { segment = 1; offset = 5; value = 70000 } ∷ []) (Halt ∷ [])) [] 65536) ≡ [] ∷ ((5, Number 70000) ∷ []) ∷ []
row-held = refl

-- an empty input gives 256
row-end-of-input : (run (start (parts (0 ∷ []) [] [] (Getb 0 ∷ Putn 0 ∷ Halt ∷ [])) [] 65536) [] 3).out ≡ decimal 256 ++ []
unfolding go
row-end-of-input = refl

-- a loop ends by the budget
row-loop : (run (start (parts (0 ∷ []) [] [] (Jmp 0 ∷ [])) [] 65536) [] 10).end ≡ ends.Budget
unfolding go
row-loop = refl

-- a division by 0 traps
row-zero : (run (start (parts (0 ∷ []) [] [] (Li 0 1 ∷ Li 1 0 ∷ Alu op.Div 2 0 1 ∷ [])) [] 65536) [] 10).end ≡ ends.Trapped trap.ZeroDivisor 0 2
unfolding go
row-zero = refl

-- one is taken away from a number
row-minus : (run (start (parts (0 ∷ []) [] [] (Li 0 66 ∷ Addi 0 0 0xffffffff ∷ Putb 0 ∷ Halt ∷ [])) [] 65536) [] 10).out ≡ 65 ∷ []
unfolding go
row-minus = refl
