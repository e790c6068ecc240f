use Rattle.form_rows.proofs.updates.commits_swap_merge_or_conflict.Given as goal

abbrev pub ghosts-flat_committed : goal.ghosts-flat_committed
ghosts-flat_committed g a = record { name = a.blank.name; parts = a.blank.parts }
