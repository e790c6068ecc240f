use Rattle.form_rows.proofs.iterators.a_register_holds_its_words.Given as goal

abbrev pub ghosts-flat_lines : goal.ghosts-flat_lines
ghosts-flat_lines g a = record { name = a.blank.name; parts = a.blank.parts }
