use Rattle.hicamp.proofs.files.read_input.Goals as goal

pub returns-in-Some-clause-refused : goal.returns-in-Some-clause-refused
returns-in-Some-clause-refused g c = rw c.in-Some.is c.read_file.ensures.refused
