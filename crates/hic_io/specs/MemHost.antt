-- What a `MemHost` is seen as.
use Rattle.hic_io.specs.MemState.{MemState}
use Rattle.hic_io.specs.MemFiles.{files_of, left_of}
use Rattle.hic_io.specs.declared.mem.MemHost.{MemHost}

abbrev pub mem_state : MemHost → MemState
mem_state m = record {
  files = files_of m.files.items;
  left = left_of m.files.items m.opened;
  out = m.out.items;
  err = m.err.items;
  failing = m.failing.items;
  most = m.most;
  room = m.room;
  counts = m.counts;
}
