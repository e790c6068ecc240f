use Rattle.form_rows.proofs.reads.a_packed_array_is_read_without_a_line.Given as goal

abbrev pub ghosts-flat_packed : goal.ghosts-flat_packed
ghosts-flat_packed g a = record { name = a.blank.name; parts = a.blank.parts }
