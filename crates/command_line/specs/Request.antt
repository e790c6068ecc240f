-- What the words of the command line ask for.
use Rattle.std.specs.Prelude.{true, List, [], ◌∷◌, Option, Some, None, find, option_and_then, codes, bytes_eq}
use Rattle.clap.specs.Walk.{Rule, Row, Text}
use Rattle.clap.specs.Simple.{App, new_shape, matches_of}
use Rattle.clap.specs.Kinds.{Kinds}
use Rattle.clap.specs.Faults.{fault_of}
use Rattle.command_line.specs.Asked.{Asked}
use Rattle.command_line.specs.Commands.{Command, commands}

-- the simple command of `clap` that takes these arguments and nothing else: no help, no version, and no name of the
-- program before its words
abbrev pub simple_command : List Rule → App
simple_command takes = record {
  top = record (new_shape (codes "hicamp")) { rules = takes; no_binary_name = true; disable_help_flag = true };
  subs = [];
}

abbrev pub unless_refused : Kinds → List Row → Option (List Row)
unless_refused [] rows = Some rows
unless_refused (fault ∷ faults) rows = None

-- what a command matches in the words, where `clap` finds no fault with them
abbrev pub matched : App → List Text → Option (List Row)
matched app words = unless_refused (fault_of app words) (matches_of app words)

-- the command that a word names
abbrev pub command_named : Text → Option Command
command_named word = find (λ command. bytes_eq command.word word) commands

-- the command that words begin with
abbrev pub command_at : List Text → Option Command
command_at [] = None
command_at (word ∷ words) = command_named word

-- what a command asks for, with the words behind its name
abbrev pub asked_by : Command → List Text → Option Asked
asked_by command words = option_and_then command.asks (matched (simple_command command.takes) words)

-- what the words ask for. None is a faulty command line
abbrev pub request : List Text → Option Asked
request [] = None
request (word ∷ words) = option_and_then (λ command. asked_by command words) (command_named word)
