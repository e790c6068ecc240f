-- What the assembler has seen and built.
use Rattle.std.specs.Prelude.{map}
use Rattle.hic_asm.specs.declared.assembler.Assembler.{Assembler}
use Rattle.hic_asm.specs.declared.program.Program.{Program}
use Rattle.hic_asm.specs.Assembly.{Seen, seen, named, Built, built}

abbrev pub seen_of : Assembler → Seen
seen_of a = seen (map (λ e. named e.0.now e.1) a.labels.entries) a.tasks a.kinds.items a.words.items a.code

abbrev pub built_of : Program → Built
built_of p = built p.entries.items p.code.items
