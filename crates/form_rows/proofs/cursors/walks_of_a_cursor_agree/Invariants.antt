use Rattle.form_rows.proofs.cursors.walks_of_a_cursor_agree.Given as goal

abbrev pub ghosts-flat_agrees : goal.ghosts-flat_agrees
ghosts-flat_agrees g a = record { name = a.blank.name; parts = a.blank.parts }
