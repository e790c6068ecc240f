use Rattle.std.proofs.Common.{arith}
use Rattle.std.proofs.lemmas.Option.{slice_get_within}
use Rattle.hic_machine.proofs.Keeping.{got, made_there}
use Rattle.hic_machine.proofs.numbers.number_step.Goals as goal

pub number_row-requires : goal.number_row-requires
number_row-requires c =
    let short = c.requires in
    let within = slice_get_within c.args.code.now c.args.pc c.in-Some.instr.now (got c.args.code.now c.args.pc c.get.result c.in-Some.instr c.in-Some.is c.get.ensures.lookup) in
    omega (arith, short, within)

pub returns-in-Some : goal.returns-in-Some
returns-in-Some c = made_there c.args.code.now c.args.regs.now c.number_row.new.regs c.args.pc c.args.task c.number_row.result c.in-Some.instr.now (got c.args.code.now c.args.pc c.get.result c.in-Some.instr c.in-Some.is c.get.ensures.lookup) c.number_row.ensures
