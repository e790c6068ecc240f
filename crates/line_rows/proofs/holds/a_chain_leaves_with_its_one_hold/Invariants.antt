use Rattle.line_rows.proofs.holds.a_chain_leaves_with_its_one_hold.Given as goal

abbrev pub ghosts-flat_chain : goal.ghosts-flat_chain
ghosts-flat_chain g a = record { name = a.blank.name; parts = a.blank.parts }
