use Rattle.line_rows.proofs.file.a_register_holds_its_word.Given as goal

abbrev pub ghosts-flat_registers : goal.ghosts-flat_registers
ghosts-flat_registers g a = record { name = a.blank.name; parts = a.blank.parts }
