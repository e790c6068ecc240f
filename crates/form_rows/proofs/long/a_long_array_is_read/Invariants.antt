use Rattle.form_rows.proofs.long.a_long_array_is_read.Given as goal

abbrev pub ghosts-flat_agrees : goal.ghosts-flat_agrees
ghosts-flat_agrees g a = record { name = a.blank.name; parts = a.blank.parts }
