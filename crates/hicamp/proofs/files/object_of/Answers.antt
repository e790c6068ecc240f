use Rattle.hicamp.proofs.OutcomeLaws.{refuses-object}
use Rattle.hicamp.proofs.files.object_of.Goals as goal

pub returns-in-Err-clause-refused : goal.returns-in-Err-clause-refused
returns-in-Err-clause-refused g c =
    refuses-object c.args.bytes.now c.in-Err.fault c.refuse_object.ensures.wants c.refuse_object.ensures.refused c.in-Err.ensures.exact
