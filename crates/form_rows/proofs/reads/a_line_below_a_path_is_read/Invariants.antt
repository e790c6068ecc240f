use Rattle.form_rows.proofs.reads.a_line_below_a_path_is_read.Given as goal

abbrev pub ghosts-flat_answers : goal.ghosts-flat_answers
ghosts-flat_answers g a = record { name = a.blank.name; parts = a.blank.parts }
