-- The commands: the word of each, what it takes, and what it asks for.
use Rattle.std.specs.Prelude.{ℕ, true, List, [], ◌∷◌, Option, Some, None, option_and_then, option_map, codes}
use Rattle.clap.specs.Walk.{Rule, Row, Text, first_of}
use Rattle.clap.specs.Simple.{new_rule}
use Rattle.command_line.specs.Limits.{default_steps, most_steps, default_capacity, least_capacity, most_capacity, most_seed, least_size, most_size}
use Rattle.command_line.specs.Number.{number_in, number_or}
use Rattle.command_line.specs.Asked.{Run, Demo, Asked, Runs, Lists, Assembles, Disassembles, Demonstrates}

-- ---- what a command may take, as arguments of `clap`

-- a text that has to be there, known by its place
abbrev pub positional : Text → Rule
positional name = record (new_rule name) { required = true }

-- `--name VALUE` or `--name=VALUE`, which may be left out
abbrev pub optional : Text → Rule
optional name = record (new_rule name) { long = Some name }

-- ---- what a command asks for, by the texts that it matched: `first_of` of `clap` gives the text of a name

abbrev pub steps_in : List Row → Option ℕ
steps_in rows = number_or default_steps 0 most_steps (first_of (codes "steps") rows)

abbrev pub capacity_in : List Row → Option ℕ
capacity_in rows = number_or default_capacity least_capacity most_capacity (first_of (codes "capacity") rows)

-- a run of a program, where each number is one
abbrev pub run_from : Option Text → Option Text → Option Text → Option ℕ → Option ℕ → Option Run
run_from (Some program) input schedule (Some steps) (Some capacity) =
    Some (record { program = program; input = input; schedule = schedule; steps = steps; capacity = capacity })
run_from _ _ _ _ _ = None

abbrev pub run_in : List Row → Option Run
run_in rows =
    run_from (first_of (codes "program") rows) (first_of (codes "input") rows) (first_of (codes "schedule") rows) (steps_in rows) (capacity_in rows)

abbrev pub seed_in : List Row → Option ℕ
seed_in rows = option_and_then (number_in 0 most_seed) (first_of (codes "seed") rows)

abbrev pub size_in : List Row → Option ℕ
size_in rows = option_and_then (number_in least_size most_size) (first_of (codes "size") rows)

-- a demo, where both numbers are
abbrev pub demo_from : Option ℕ → Option ℕ → Option Demo
demo_from (Some seed) (Some size) = Some (record { seed = seed; size = size })
demo_from _ _ = None

abbrev pub demo_in : List Row → Option Demo
demo_in rows = demo_from (seed_in rows) (size_in rows)

-- ---- the table

pub record Command : Type 0 where
  pub word : Text
  pub takes : List Rule
  pub asks : List Row → Option Asked

abbrev pub run_takes : List Rule
run_takes =
    positional (codes "program")
    ∷ optional (codes "input")
    ∷ optional (codes "schedule")
    ∷ optional (codes "steps")
    ∷ optional (codes "capacity")
    ∷ []

abbrev pub run_command : Command
run_command = record {
  word = codes "run";
  takes = run_takes;
  asks = λ rows. option_map Runs (run_in rows);
}

abbrev pub lines_command : Command
lines_command = record {
  word = codes "lines";
  takes = run_takes;
  asks = λ rows. option_map Lists (run_in rows);
}

abbrev pub asm_command : Command
asm_command = record {
  word = codes "asm";
  takes = positional (codes "source") ∷ [];
  asks = λ rows. option_map Assembles (first_of (codes "source") rows);
}

abbrev pub dis_command : Command
dis_command = record {
  word = codes "dis";
  takes = positional (codes "program") ∷ [];
  asks = λ rows. option_map Disassembles (first_of (codes "program") rows);
}

abbrev pub demo_command : Command
demo_command = record {
  word = codes "demo";
  takes = positional (codes "seed") ∷ positional (codes "size") ∷ [];
  asks = λ rows. option_map Demonstrates (demo_in rows);
}

abbrev pub commands : List Command
commands = run_command ∷ lines_command ∷ asm_command ∷ dis_command ∷ demo_command ∷ []
