use Rattle.form_rows.proofs.merges.cleared_ones.Given as goal

abbrev pub ghosts-flat_cleared : goal.ghosts-flat_cleared
ghosts-flat_cleared a = record { name = a.blank.name; parts = a.blank.parts }
