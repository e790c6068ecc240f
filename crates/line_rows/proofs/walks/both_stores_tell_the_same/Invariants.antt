use Rattle.line_rows.proofs.walks.both_stores_tell_the_same.Given as goal

abbrev pub ghosts-flat_walk : goal.ghosts-flat_walk
ghosts-flat_walk g a = record { name = a.blank.name; parts = a.blank.parts }

abbrev pub ghosts-bucket_walk : goal.ghosts-bucket_walk
ghosts-bucket_walk g a = record { name = a.blank.name; parts = a.blank.parts }
