use Rattle.form_rows.proofs.differences.arrays_of_heights_0_1_and_16_are_compared.Given as goal

abbrev pub ghosts-flat_answers : goal.ghosts-flat_answers
ghosts-flat_answers g a = record { name = a.blank.name; parts = a.blank.parts }
