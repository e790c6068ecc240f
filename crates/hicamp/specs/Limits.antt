-- The limits of the program. The code has its own constants, so that a wrong one is found by the contracts.
use Rattle.std.specs.Prelude.{ℕ, List, codes}
use Rattle.hicamp.specs.declared.files.FileKind.{FileKind}
use Rattle.hicamp.specs.declared.files.FileKind.TheVariants.{Program, Source, Schedule, Input}

-- what a file is called
abbrev pub file_name : FileKind → List ℕ
file_name Program = codes "program"
file_name Source = codes "source"
file_name Schedule = codes "schedule"
file_name Input = codes "input"

-- the most bytes that it may have
abbrev pub most_bytes : FileKind → ℕ
most_bytes Program = 16777216
most_bytes Source = 16777216
most_bytes Schedule = 1048576
most_bytes Input = 16777216
