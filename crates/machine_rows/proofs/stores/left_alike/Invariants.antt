use Rattle.machine_rows.proofs.stores.left_alike.Given as goal

abbrev pub ghosts-left_in_slots : goal.ghosts-left_in_slots
ghosts-left_in_slots g a = record { name = a.blank.name; parts = a.blank.parts }

abbrev pub ghosts-left_in_buckets : goal.ghosts-left_in_buckets
ghosts-left_in_buckets g a = record { name = a.blank.name; parts = a.blank.parts }
