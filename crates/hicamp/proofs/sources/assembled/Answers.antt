use Rattle.hicamp.proofs.OutcomeLaws.{refuses-source}
use Rattle.hicamp.proofs.sources.assembled.Goals as goal

pub returns-in-Err-clause-refused : goal.returns-in-Err-clause-refused
returns-in-Err-clause-refused g c =
    refuses-source c.args.text.now c.in-Err.fault c.refuse_source.ensures.wants c.refuse_source.ensures.refused c.in-Err.ensures
