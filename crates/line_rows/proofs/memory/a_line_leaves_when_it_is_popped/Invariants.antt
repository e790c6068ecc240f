use Rattle.line_rows.proofs.memory.a_line_leaves_when_it_is_popped.Given as goal

abbrev pub ghosts-flat_freed : goal.ghosts-flat_freed
ghosts-flat_freed g a = record { name = a.blank.name; parts = a.blank.parts }
