use Rattle.form_rows.proofs.iterators.writes_wait.Given as goal

abbrev pub ghosts-flat_rows : goal.ghosts-flat_rows
ghosts-flat_rows g a = record { name = a.blank.name; parts = a.blank.parts }
