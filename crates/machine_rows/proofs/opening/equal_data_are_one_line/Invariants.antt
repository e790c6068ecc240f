use Rattle.machine_rows.proofs.opening.equal_data_are_one_line.Given as goal

abbrev pub ghosts-begun : goal.ghosts-begun
ghosts-begun g a = record { name = a.blank.name; parts = a.blank.parts }
