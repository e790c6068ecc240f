use Rattle.hic_task.proofs.Wider.{acts_so, alone_acts, numbered_acts, ready_alone}
use Rattle.hic_task.proofs.task.Task.act.Goals as goal

pub halt-requires : goal.halt-requires
halt-requires g c = ready_alone c.requires

pub li-requires : goal.li-requires
li-requires g c = ready_alone c.requires

pub lih-requires : goal.lih-requires
lih-requires g c = ready_alone c.requires

pub mov-requires : goal.mov-requires
mov-requires g c = ready_alone c.requires

pub addi-requires : goal.addi-requires
addi-requires g c = ready_alone c.requires

pub alu-requires : goal.alu-requires
alu-requires g c = ready_alone c.requires

pub eq-requires : goal.eq-requires
eq-requires g c = ready_alone c.requires

pub isref-requires : goal.isref-requires
isref-requires g c = ready_alone c.requires

pub openr-requires : goal.openr-requires
openr-requires g c = ready_alone c.requires

pub pos-requires : goal.pos-requires
pos-requires g c = ready_alone c.requires

pub load-requires : goal.load-requires
load-requires g c = ready_alone c.requires

pub store-requires : goal.store-requires
store-requires g c = ready_alone c.requires

pub find-requires : goal.find-requires
find-requires g c = ready_alone c.requires

pub next-requires : goal.next-requires
next-requires g c = ready_alone c.requires

pub abort-requires : goal.abort-requires
abort-requires g c = ready_alone c.requires

pub close-requires : goal.close-requires
close-requires g c = ready_alone c.requires

pub snap-requires : goal.snap-requires
snap-requires g c = ready_alone c.requires

pub seal-requires : goal.seal-requires
seal-requires g c = ready_alone c.requires

pub task-requires : goal.task-requires
task-requires g c = ready_alone c.requires

pub seek-requires : goal.seek-requires
seek-requires g c = (g.M.HoldCounts.memory c.args.mem.now, ready_alone c.requires)

pub returns-in-Halt-clause-row : goal.returns-in-Halt-clause-row
returns-in-Halt-clause-row g c = alone_acts c.requires c.in-Halt.is c.halt.ensures.row

pub returns-in-Li-clause-row : goal.returns-in-Li-clause-row
returns-in-Li-clause-row g c = alone_acts c.requires c.in-Li.is c.li.ensures.row

pub returns-in-Lih-clause-row : goal.returns-in-Lih-clause-row
returns-in-Lih-clause-row g c = alone_acts c.requires c.in-Lih.is c.lih.ensures.row

pub returns-in-Mov-clause-row : goal.returns-in-Mov-clause-row
returns-in-Mov-clause-row g c = alone_acts c.requires c.in-Mov.is c.mov.ensures.row

pub returns-in-Addi-clause-row : goal.returns-in-Addi-clause-row
returns-in-Addi-clause-row g c = alone_acts c.requires c.in-Addi.is c.addi.ensures.row

pub returns-in-Alu-clause-row : goal.returns-in-Alu-clause-row
returns-in-Alu-clause-row g c = alone_acts c.requires c.in-Alu.is c.alu.ensures.row

pub returns-in-Eq-clause-row : goal.returns-in-Eq-clause-row
returns-in-Eq-clause-row g c = alone_acts c.requires c.in-Eq.is c.eq.ensures.row

pub returns-in-Isref-clause-row : goal.returns-in-Isref-clause-row
returns-in-Isref-clause-row g c = alone_acts c.requires c.in-Isref.is c.isref.ensures.row

pub returns-in-Jmp-clause-row : goal.returns-in-Jmp-clause-row
returns-in-Jmp-clause-row g c = alone_acts c.requires c.in-Jmp.is (c.jmp.ensures.row (g.M.HoldCounts.memory c.args.mem.now))

pub returns-in-Jz-clause-row : goal.returns-in-Jz-clause-row
returns-in-Jz-clause-row g c = alone_acts c.requires c.in-Jz.is (c.jz.ensures.row (g.M.HoldCounts.memory c.args.mem.now))

pub returns-in-Jnz-clause-row : goal.returns-in-Jnz-clause-row
returns-in-Jnz-clause-row g c = alone_acts c.requires c.in-Jnz.is (c.jnz.ensures.row (g.M.HoldCounts.memory c.args.mem.now))

pub returns-in-Getb-clause-row : goal.returns-in-Getb-clause-row
returns-in-Getb-clause-row g c = acts_so c.in-Getb.is (c.getb.ensures.row c.args.number)

pub returns-in-Putb-clause-row : goal.returns-in-Putb-clause-row
returns-in-Putb-clause-row g c = acts_so c.in-Putb.is (c.putb.ensures.row (g.M.HoldCounts.memory c.args.mem.now) c.args.number)

pub returns-in-Putn-clause-row : goal.returns-in-Putn-clause-row
returns-in-Putn-clause-row g c = acts_so c.in-Putn.is (c.putn.ensures.row (g.M.HoldCounts.memory c.args.mem.now) c.args.number)

pub returns-in-Task-clause-row : goal.returns-in-Task-clause-row
returns-in-Task-clause-row g c = numbered_acts c.requires c.in-Task.is c.task.ensures.row

pub returns-in-Open-clause-row : goal.returns-in-Open-clause-row
returns-in-Open-clause-row g c = acts_so c.in-Open.is (c.open.ensures.row c.args.number)

pub returns-in-Openr-clause-row : goal.returns-in-Openr-clause-row
returns-in-Openr-clause-row g c = alone_acts c.requires c.in-Openr.is c.openr.ensures.row

pub returns-in-Seek-clause-row : goal.returns-in-Seek-clause-row
returns-in-Seek-clause-row g c = alone_acts c.requires c.in-Seek.is (c.seek.ensures.row (g.M.HoldCounts.memory c.args.mem.now) (ready_alone c.requires))

pub returns-in-Pos-clause-row : goal.returns-in-Pos-clause-row
returns-in-Pos-clause-row g c = alone_acts c.requires c.in-Pos.is c.pos.ensures.row

pub returns-in-Load-clause-row : goal.returns-in-Load-clause-row
returns-in-Load-clause-row g c = alone_acts c.requires c.in-Load.is c.load.ensures.row

pub returns-in-Store-clause-row : goal.returns-in-Store-clause-row
returns-in-Store-clause-row g c = alone_acts c.requires c.in-Store.is c.store.ensures.row

pub returns-in-Find-clause-row : goal.returns-in-Find-clause-row
returns-in-Find-clause-row g c = alone_acts c.requires c.in-Find.is c.find.ensures.row

pub returns-in-Next-clause-row : goal.returns-in-Next-clause-row
returns-in-Next-clause-row g c = alone_acts c.requires c.in-Next.is c.next.ensures.row

pub returns-in-Commit-clause-row : goal.returns-in-Commit-clause-row
returns-in-Commit-clause-row g c = acts_so c.in-Commit.is (c.commit.ensures.row c.args.number)

pub returns-in-Abort-clause-row : goal.returns-in-Abort-clause-row
returns-in-Abort-clause-row g c = alone_acts c.requires c.in-Abort.is c.abort.ensures.row

pub returns-in-Close-clause-row : goal.returns-in-Close-clause-row
returns-in-Close-clause-row g c = alone_acts c.requires c.in-Close.is c.close.ensures.row

pub returns-in-Root-clause-row : goal.returns-in-Root-clause-row
returns-in-Root-clause-row g c = acts_so c.in-Root.is (c.root.ensures.row c.args.number)

pub returns-in-Snap-clause-row : goal.returns-in-Snap-clause-row
returns-in-Snap-clause-row g c = alone_acts c.requires c.in-Snap.is c.snap.ensures.row

pub returns-in-Seal-clause-row : goal.returns-in-Seal-clause-row
returns-in-Seal-clause-row g c = alone_acts c.requires c.in-Seal.is c.seal.ensures.row

pub returns-in-Mcas-clause-row : goal.returns-in-Mcas-clause-row
returns-in-Mcas-clause-row g c = acts_so c.in-Mcas.is (c.mcas.ensures.row c.args.number)
