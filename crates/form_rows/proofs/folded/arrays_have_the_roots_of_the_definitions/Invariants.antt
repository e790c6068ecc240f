use Rattle.form_rows.proofs.folded.arrays_have_the_roots_of_the_definitions.Given as goal

abbrev pub ghosts-flat_array : goal.ghosts-flat_array
ghosts-flat_array g a = record { name = a.blank.name; parts = a.blank.parts }
