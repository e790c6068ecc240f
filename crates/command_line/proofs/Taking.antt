-- What the commands of `clap` are, and when words are refused.
use Rattle.std.proofs.Common.{◌≡◌, ◌∙◌, ◌<◌, ◌+◌, ℕ, List, [], ◌∷◌, ◌++◌, None, true, refl, sym, ap, map, take, get_or, length}
use Rattle.std.proofs.lemmas.List.{take_more, map-append}
use Rattle.clap.specs.Walk.{Text}
use Rattle.clap.specs.Simple.{App, matches_of, with_rule}
use Rattle.clap.specs.Kinds.{Kinds, IsAmong}
use Rattle.clap.specs.Faults.{fault_of, is_simple_and_free}
use Rattle.clap.specs.declared.error.kind.ErrorKind.{ErrorKind}
use Rattle.command_line.specs.declared.commands.CommandKind.{CommandKind}
use Rattle.command_line.specs.declared.commands.CommandKind.TheVariants as kind
use Rattle.command_line.specs.declared.commands.Argument.{Argument}
use Rattle.command_line.specs.Seen.{command_of, rule_of_argument}
use Rattle.command_line.specs.Request.{matched, simple_command, unless_refused}

-- each command is one of which `clap` says which words it refuses
pub is_simple-command_of : (k : CommandKind) → is_simple_and_free (simple_command (command_of k).takes) ≡ true
is_simple-command_of kind.Run = refl
is_simple-command_of kind.Lines = refl
is_simple-command_of kind.Asm = refl
is_simple-command_of kind.Dis = refl
is_simple-command_of kind.Demo = refl

-- words with a fault are refused
pub matched-refused : (app : App) (words : List Text) (k : ErrorKind) → IsAmong k (fault_of app words) → matched app words ≡ None
matched-refused app words k = go (fault_of app words)
  where
    go : (faults : Kinds) → IsAmong k faults → unless_refused faults (matches_of app words) ≡ None
    go [] among = absurd among
    go (fault ∷ faults) among = refl

-- a command that takes one argument more
pub with_rule-simple_command : (arguments : List Argument) (i : ℕ) (argument : Argument) → i < length arguments → argument ≡ get_or arguments i argument
    → with_rule (simple_command (map rule_of_argument (take i arguments))) (rule_of_argument argument) ≡ simple_command (map rule_of_argument (take (i + 1) arguments))
with_rule-simple_command arguments i argument within is =
    let one_more : take (i + 1) arguments ≡ take i arguments ++ argument ∷ [] = take_more arguments i argument within ∙ ap (λ (a : Argument). take i arguments ++ a ∷ []) (sym is) in
    ap simple_command (sym (ap (map rule_of_argument) one_more ∙ map-append rule_of_argument (take i arguments) (argument ∷ [])))
