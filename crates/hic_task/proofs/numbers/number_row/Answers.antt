use Rattle.std.proofs.Common.{Some, sym, subst}
use Rattle.hic_task.specs.OnNumbers.{IsMadeIf}
use Rattle.hic_task.proofs.OnNumbers.{jmp_made}
use Rattle.hic_task.proofs.numbers.number_row.Goals as goal

pub returns-in-Li : goal.returns-in-Li
returns-in-Li c = subst (IsMadeIf c.li.result c.args.regs.now c.li.new.regs c.args.pc c.args.number) (sym c.in-Li.is) (c.li.ensures c.args.number)

pub returns-in-Lih : goal.returns-in-Lih
returns-in-Lih c = subst (IsMadeIf c.lih.result c.args.regs.now c.lih.new.regs c.args.pc c.args.number) (sym c.in-Lih.is) (c.lih.ensures c.args.number)

pub returns-in-Mov : goal.returns-in-Mov
returns-in-Mov c = subst (IsMadeIf c.mov.result c.args.regs.now c.mov.new.regs c.args.pc c.args.number) (sym c.in-Mov.is) (c.mov.ensures c.args.number)

pub returns-in-Addi : goal.returns-in-Addi
returns-in-Addi c = subst (IsMadeIf c.addi.result c.args.regs.now c.addi.new.regs c.args.pc c.args.number) (sym c.in-Addi.is) (c.addi.ensures c.args.number)

pub returns-in-Alu : goal.returns-in-Alu
returns-in-Alu c = subst (IsMadeIf c.alu.result c.args.regs.now c.alu.new.regs c.args.pc c.args.number) (sym c.in-Alu.is) (c.alu.ensures c.args.number)

pub returns-in-Eq : goal.returns-in-Eq
returns-in-Eq c = subst (IsMadeIf c.eq.result c.args.regs.now c.eq.new.regs c.args.pc c.args.number) (sym c.in-Eq.is) (c.eq.ensures c.args.number)

pub returns-in-Isref : goal.returns-in-Isref
returns-in-Isref c = subst (IsMadeIf c.isref.result c.args.regs.now c.isref.new.regs c.args.pc c.args.number) (sym c.in-Isref.is) (c.isref.ensures c.args.number)

pub returns-in-Jz : goal.returns-in-Jz
returns-in-Jz c = subst (IsMadeIf c.jz.result c.args.regs.now c.args.regs.now c.args.pc c.args.number) (sym c.in-Jz.is) (c.jz.ensures c.args.number)

pub returns-in-Jnz : goal.returns-in-Jnz
returns-in-Jnz c = subst (IsMadeIf c.jnz.result c.args.regs.now c.args.regs.now c.args.pc c.args.number) (sym c.in-Jnz.is) (c.jnz.ensures c.args.number)

pub returns-in-Task : goal.returns-in-Task
returns-in-Task c = subst (IsMadeIf c.own_number.result c.args.regs.now c.own_number.new.regs c.args.pc c.args.number) (sym c.in-Task.is) c.own_number.ensures

pub returns-in-Jmp : goal.returns-in-Jmp
returns-in-Jmp c = subst (IsMadeIf (Some c.in-Jmp.imm) c.args.regs.now c.args.regs.now c.args.pc c.args.number) (sym c.in-Jmp.is) (jmp_made c.args.regs.now c.args.pc c.args.number c.in-Jmp.imm)
