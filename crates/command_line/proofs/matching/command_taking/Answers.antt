use Rattle.std.proofs.Common.{◌∙◌, ap₂, rules}
use Rattle.clap.specs.Simple.{with_rule}
use Rattle.command_line.proofs.Taking.{with_rule-simple_command}
use Rattle.command_line.proofs.matching.command_taking.Goals as goal

pub loop-argument-preserved : goal.loop-argument-preserved
loop-argument-preserved c =
    let added = c.in_ok-command.ensures.shape c.arg_of.ensures.local ∙ ap₂ with_rule c.loop-argument.invariant c.arg_of.ensures.rule in
    added ∙ search (rules, with_rule-simple_command)
