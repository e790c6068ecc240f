use Rattle.form_rows.proofs.ends.words_at_both_ends_are_found.Given as goal

abbrev pub ghosts-flat_answers : goal.ghosts-flat_answers
ghosts-flat_answers g a = record { name = a.blank.name; parts = a.blank.parts }
