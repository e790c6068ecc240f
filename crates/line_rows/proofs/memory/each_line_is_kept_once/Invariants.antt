use Rattle.line_rows.proofs.memory.each_line_is_kept_once.Given as goal

abbrev pub ghosts-flat_answers : goal.ghosts-flat_answers
ghosts-flat_answers g a = record { name = a.blank.name; parts = a.blank.parts }
