use Rattle.std.proofs.Common.{sym}
use Rattle.command_line.specs.Commands.{commands}
use Rattle.command_line.proofs.Naming.{none_named}
use Rattle.command_line.proofs.commands.CommandKind.named.Goals as goal

pub returns-in_default : goal.returns-in_default
returns-in_default c =
    let word = c.in_default in
    sym (none_named c.args.word.now commands (word.not-run, (word.not-lines, (word.not-asm, (word.not-dis, (word.not-demo, tt))))))
