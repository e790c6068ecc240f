use Rattle.hicamp.proofs.top.run_demo.Given as goal

abbrev pub ghosts-run_object : goal.ghosts-run_object
ghosts-run_object g a = record { name = a.blank.name; parts = a.blank.parts }
