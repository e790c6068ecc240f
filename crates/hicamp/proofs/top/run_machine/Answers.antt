use Rattle.std.proofs.Common.{◌∙◌, ap}
use Rattle.hicamp.specs.Running.{run_by}
use Rattle.hicamp.proofs.OutcomeLaws.{leaves-broken, leaves-no_memory, leaves-run, run-unbroken}
use Rattle.hicamp.proofs.top.run_machine.Goals as goal

pub returns-in-WriteFault-clause-last : goal.returns-in-WriteFault-clause-last
returns-in-WriteFault-clause-last g c = leaves-broken

pub returns-in-NoMemory-clause-last : goal.returns-in-NoMemory-clause-last
returns-in-NoMemory-clause-last g c = leaves-no_memory

pub returns-in_default-clause-last : goal.returns-in_default-clause-last
returns-in_default-clause-last g c =
    let unbroken = run-unbroken c.tell.ensures.run c.in_default.not-WriteFault c.in_default.not-NoMemory in
    leaves-run c.args.terms.telling (run_by c.args.machine.plain c.args.schedule c.args.terms.steps) unbroken (ap (λ m. m.plain) c.counted_by.ensures ∙ c.tell.ensures.last unbroken)
