use Rattle.form_rows.proofs.registers.agrees.Given as goal

abbrev pub ghosts-flat_seen : goal.ghosts-flat_seen
ghosts-flat_seen a = record { name = a.blank.name; parts = a.blank.parts }
