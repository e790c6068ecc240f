use Rattle.std.proofs.Common.{◌≡◌, drop}
use Rattle.hic_io.specs.MemFiles.{files_of}
use Rattle.std.specs.FinMap as map
use Rattle.hic_io.proofs.mem_files.find.Given as goal

abbrev pub invariant-loop-i : goal.invariant-loop-i
invariant-loop-i l = map.get (files_of (drop l.i l.files)) l.name ≡ map.get (files_of l.files) l.name
