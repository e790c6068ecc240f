-- What can be asked of the program.
use Rattle.std.specs.Prelude.{ℕ, ◌≤◌, Option}
use Rattle.clap.specs.Walk.{Text}
use Rattle.command_line.specs.Limits.{most_steps, least_capacity, most_capacity, least_size, most_size}

-- a program that is to be run, with the files and the limits of its run
pub record Run : Type 0 where
  pub program : Text
  pub input : Option Text
  pub schedule : Option Text
  pub steps : ℕ
  pub capacity : ℕ

-- a demo: a program and its schedule that are made from a seed and a size
pub record Demo : Type 0 where
  pub seed : ℕ
  pub size : ℕ

pub data Asked : Type 0 where
  Runs : Run → Asked
  -- the lines of what a run leaves are to be listed
  Lists : Run → Asked
  -- the source in this file is to be assembled
  Assembles : Text → Asked
  -- the program in this file is to be disassembled
  Disassembles : Text → Asked
  -- a demo is to be made, run and summed up
  Demonstrates : Demo → Asked

-- each number is in its range
pub record IsRunWithin (r : Run) : Type 0 where
  pub steps : r.steps ≤ most_steps
  pub least : least_capacity ≤ r.capacity
  pub most : r.capacity ≤ most_capacity

pub record IsDemoWithin (d : Demo) : Type 0 where
  pub least : least_size ≤ d.size
  pub most : d.size ≤ most_size

abbrev pub IsWithin : Asked → Type 0
IsWithin (Runs r) = IsRunWithin r
IsWithin (Lists r) = IsRunWithin r
IsWithin (Assembles source) = Unit {0}
IsWithin (Disassembles program) = Unit {0}
IsWithin (Demonstrates d) = IsDemoWithin d
