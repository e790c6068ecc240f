use Rattle.hic_io.specs.MemHost.{mem_state}
use Rattle.hic_io.proofs.MemLaws.{reads-as-host}
use Rattle.hic_io.proofs.mem.MemHostHost.read.Goals as goal

pub returns-clause-call : goal.returns-clause-call
returns-clause-call c = reads-as-host (mem_state c.args.self.now) c.take.ensures.in_range c.args.buf.now c.take.new.buf (mem_state c.take.new.self) c.take.result c.take.ensures.exact
