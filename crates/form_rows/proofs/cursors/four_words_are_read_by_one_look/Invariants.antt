use Rattle.form_rows.proofs.cursors.four_words_are_read_by_one_look.Given as goal

abbrev pub ghosts-flat_four : goal.ghosts-flat_four
ghosts-flat_four g a = record { name = a.blank.name; parts = a.blank.parts }
