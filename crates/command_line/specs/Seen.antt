-- The code's own types as the definitions see them.
use Rattle.std.specs.Prelude.{option_map}
use Rattle.clap.specs.Walk.{Rule}
use Rattle.command_line.specs.Asked.{Run, Demo, Asked, Runs, Lists, Assembles, Disassembles, Demonstrates}
use Rattle.command_line.specs.Commands.{Command, positional, optional, run_command, lines_command, asm_command, dis_command, demo_command}
use Rattle.command_line.specs.declared.asked.Run.{Run as LentRun}
use Rattle.command_line.specs.declared.asked.Demo.{Demo as WordedDemo}
use Rattle.command_line.specs.declared.asked.Request.{Request}
use Rattle.command_line.specs.declared.asked.Request.TheVariants as request
use Rattle.command_line.specs.declared.commands.CommandKind.{CommandKind}
use Rattle.command_line.specs.declared.commands.CommandKind.TheVariants as kind
use Rattle.command_line.specs.declared.commands.Argument.{Argument}
use Rattle.command_line.specs.declared.commands.Argument.TheVariants as argument

abbrev pub run_of : LentRun → Run
run_of r = record {
  program = r.program.now;
  input = option_map (λ name. name.now) r.input;
  schedule = option_map (λ name. name.now) r.schedule;
  steps = r.steps;
  capacity = r.capacity;
}

abbrev pub demo_of : WordedDemo → Demo
demo_of d = record { seed = d.seed; size = d.size }

abbrev pub asked_of : Request → Asked
asked_of (request.Run r) = Runs (run_of r)
asked_of (request.List r) = Lists (run_of r)
asked_of (request.Assemble source) = Assembles source.now
asked_of (request.Disassemble program) = Disassembles program.now
asked_of (request.Demonstrate d) = Demonstrates (demo_of d)

abbrev pub command_of : CommandKind → Command
command_of kind.Run = run_command
command_of kind.Lines = lines_command
command_of kind.Asm = asm_command
command_of kind.Dis = dis_command
command_of kind.Demo = demo_command

abbrev pub rule_of_argument : Argument → Rule
rule_of_argument (argument.Positional name) = positional name.now
rule_of_argument (argument.Optional name) = optional name.now
