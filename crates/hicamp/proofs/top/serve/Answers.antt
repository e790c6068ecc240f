use Rattle.std.proofs.Common.{refl}
use Rattle.command_line.specs.Seen.{demo_of}
use Rattle.hicamp.specs.Asked.{asked_of_demo}
use Rattle.hicamp.proofs.OutcomeLaws.{of_all, serves-always}
use Rattle.hicamp.proofs.TextLaws.{asm-leaves, dis-leaves}
use Rattle.hicamp.proofs.top.serve.Goals as goal

pub returns-in-Assemble-clause-last : goal.returns-in-Assemble-clause-last
returns-in-Assemble-clause-last g c = rw c.in-Assemble.is (asm-leaves _ _ _)

pub returns-in-Disassemble-clause-last : goal.returns-in-Disassemble-clause-last
returns-in-Disassemble-clause-last g c = rw c.in-Disassemble.is (dis-leaves _ _ _)

pub returns-in-Demonstrate-clause-serves : goal.returns-in-Demonstrate-clause-serves
returns-in-Demonstrate-clause-serves g c =
    let x = asked_of_demo (demo_of c.in-Demonstrate.demo) in
    rw c.in-Demonstrate.is (serves-always x (λ files. x) (λ files. Unit {0}) (λ files. refl) c.run_demo.ensures.fulfils)

pub returns-in-Demonstrate-clause-last : goal.returns-in-Demonstrate-clause-last
returns-in-Demonstrate-clause-last g c = rw c.in-Demonstrate.is (of_all _ _ (λ files. c.run_demo.ensures.last))
