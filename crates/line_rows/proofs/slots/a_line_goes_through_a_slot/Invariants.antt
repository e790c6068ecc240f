use Rattle.line_rows.proofs.slots.a_line_goes_through_a_slot.Given as goal

abbrev pub ghosts-counted_slot : goal.ghosts-counted_slot
ghosts-counted_slot g a = record { name = a.blank.name; parts = a.blank.parts }
