use Rattle.line_rows.proofs.holds.lines_leave_with_the_last_hold.Given as goal

abbrev pub ghosts-flat_row : goal.ghosts-flat_row
ghosts-flat_row g a = record { name = a.blank.name; parts = a.blank.parts }
