-- What a host counts, and what a call does to it.
use Rattle.std.specs.Prelude.{◌≡◌, ◌<◌, ◌^◌, ◌||◌, false, Result, MatchResult}
use Rattle.hic_io.specs.HostState.{one_more, had_fault}
use Rattle.hic_io.specs.declared.counts.Counts.{Counts}

-- before the first call
abbrev pub no_call : Counts
no_call = record { calls = 0; read_faults = 0; write_faults = 0; late = false }

-- a call is counted, and is late after a fault
abbrev pub with_call : Counts → Counts
with_call c = record c { calls = one_more c.calls; late = (c.late || had_fault c.read_faults c.write_faults) }

abbrev pub with_read_fault : Counts → Counts
with_read_fault c = record c { read_faults = one_more c.read_faults }

abbrev pub with_write_fault : Counts → Counts
with_write_fault c = record c { write_faults = one_more c.write_faults }

-- an `open_file` or a `read` counts a fault exactly where it fails
abbrev pub CountsRead : {A E : Type 0} → Counts → Counts → Result A E → Type 0
CountsRead old new result =
    MatchResult result (λ _. new ≡ with_call old) (λ _. new ≡ with_read_fault (with_call old))

-- a write counts a fault exactly where it fails
abbrev pub CountsWrite : {A E : Type 0} → Counts → Counts → Result A E → Type 0
CountsWrite old new result =
    MatchResult result (λ _. new ≡ with_call old) (λ _. new ≡ with_write_fault (with_call old))

-- the counts of faults fit 64 bits
pub record AreInRange (c : Counts) : Type 0 where
  pub reads : c.read_faults < 2 ^ 64
  pub writes : c.write_faults < 2 ^ 64
