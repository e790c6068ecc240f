use Rattle.std.proofs.Common.{◌≡◌, map, take}
use Rattle.clap.specs.Simple.{app_of}
use Rattle.command_line.specs.Seen.{rule_of_argument}
use Rattle.command_line.specs.Request.{simple_command}
use Rattle.command_line.proofs.matching.command_taking.Given as goal

-- the command takes the arguments so far
abbrev pub invariant-loop-argument : goal.invariant-loop-argument
invariant-loop-argument l = app_of l.command ≡ simple_command (map rule_of_argument (take l.argument-index l.arguments))
