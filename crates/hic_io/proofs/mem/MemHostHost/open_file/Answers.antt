use Rattle.hic_io.specs.MemHost.{mem_state}
use Rattle.hic_io.proofs.MemLaws.{opens-as-host}
use Rattle.hic_io.proofs.mem.MemHostHost.open_file.Goals as goal

pub returns-clause-call : goal.returns-clause-call
returns-clause-call c = opens-as-host (mem_state c.args.self.now) c.open.ensures.in_range c.args.name.now (mem_state c.open.new.self) c.open.result c.open.ensures.exact
