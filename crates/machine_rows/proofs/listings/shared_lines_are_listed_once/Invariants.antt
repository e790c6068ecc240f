use Rattle.machine_rows.proofs.listings.shared_lines_are_listed_once.Given as goal

abbrev pub ghosts-listed : goal.ghosts-listed
ghosts-listed g a = record { name = a.blank.name; parts = a.blank.parts }
