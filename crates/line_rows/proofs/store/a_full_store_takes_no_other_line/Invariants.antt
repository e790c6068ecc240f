use Rattle.line_rows.proofs.store.a_full_store_takes_no_other_line.Given as goal

abbrev pub ghosts-tried_at_eight : goal.ghosts-tried_at_eight
ghosts-tried_at_eight g a = record { name = a.blank.name; parts = a.blank.parts }
