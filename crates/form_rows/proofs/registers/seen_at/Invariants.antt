use Rattle.form_rows.proofs.registers.seen_at.Given as goal

abbrev pub ghosts-flat_seen : goal.ghosts-flat_seen
ghosts-flat_seen a = record { name = a.blank.name; parts = a.blank.parts }
