use Rattle.form_rows.proofs.merges.commits_agree.Given as goal

abbrev pub ghosts-flat_agrees : goal.ghosts-flat_agrees
ghosts-flat_agrees a = record { name = a.blank.name; parts = a.blank.parts }
