use Rattle.form_rows.proofs.updates.arrays_are_exchanged_merged_or_conflict.Given as goal

abbrev pub ghosts-flat_exchanged : goal.ghosts-flat_exchanged
ghosts-flat_exchanged g a = record { name = a.blank.name; parts = a.blank.parts }
