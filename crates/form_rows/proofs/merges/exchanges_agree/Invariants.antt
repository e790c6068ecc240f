use Rattle.form_rows.proofs.merges.exchanges_agree.Given as goal

abbrev pub ghosts-flat_written_agrees : goal.ghosts-flat_written_agrees
ghosts-flat_written_agrees a = record { name = a.blank.name; parts = a.blank.parts }
