use Rattle.form_rows.proofs.loads.loads_of_one_line.Given as goal

abbrev pub ghosts-flat_loads : goal.ghosts-flat_loads
ghosts-flat_loads g a = record { name = a.blank.name; parts = a.blank.parts }
