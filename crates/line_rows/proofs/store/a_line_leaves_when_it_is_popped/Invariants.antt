use Rattle.line_rows.proofs.store.a_line_leaves_when_it_is_popped.Given as goal

abbrev pub ghosts-seen_at_one : goal.ghosts-seen_at_one
ghosts-seen_at_one g a = record { name = a.blank.name; parts = a.blank.parts }
