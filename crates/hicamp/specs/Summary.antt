-- What is told of a demo, in four lines.
use Rattle.std.specs.Prelude.{ℕ, List, [], ◌∷◌, ◌++◌, ◌==◌, length, codes, decimal}
use Rattle.std.specs.List.{count_by}
use Rattle.hic_word.specs.Lines.{lines}
use Rattle.hic_plain.specs.declared.turn.End.{End}
use Rattle.hic_plain.specs.Machine.{Machine, held, width_of}
use Rattle.hic_plain.specs.Run.{Ran}
use Rattle.hic_list.specs.Listing.{end_line, room_line}
use Rattle.hic_list.specs.Texts.{text_line}

-- how many of these bytes are this one
abbrev pub count_of : ℕ → List ℕ → ℕ
count_of byte bytes = count_by (λ b. b == byte) bytes

-- how often `0`, `1` and `2` are printed, with which a commit answers
abbrev pub answers_line : ℕ → ℕ → ℕ → List ℕ
answers_line zeros ones twos = text_line (codes "answers") (decimal zeros ∷ decimal ones ∷ decimal twos ∷ [])

abbrev pub steps_line : ℕ → List ℕ
steps_line steps = text_line (codes "steps") (decimal steps ∷ [])

-- how a run ended, its steps, the lines that this machine has, and the answers
unfoldable pub summary_text : End → ℕ → Machine → ℕ → ℕ → ℕ → List ℕ
summary_text end steps m zeros ones twos =
    end_line end
    ++ (steps_line steps
    ++ (room_line (length (lines (width_of m) (held m))) m.capacity
    ++ answers_line zeros ones twos))

-- 48 is '0'
abbrev pub summary : Ran → List ℕ
summary r = summary_text r.end r.steps r.last (count_of 48 r.out) (count_of 49 r.out) (count_of 50 r.out)
