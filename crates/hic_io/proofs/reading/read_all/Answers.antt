use Rattle.std.proofs.Common.{◌≡◌, ◌+◌, ◌≤◌, ◌++◌, ℕ, take, length, length-append, sym, subst, arith}
use Rattle.std.proofs.lemmas.List.{length-take, length-take-le}
use Rattle.hic_io.specs.WholeFile.{ReadsFile}
use Rattle.hic_io.proofs.ReadLaws.{read-more, is_err, reads-fault, reads-too_long, reads-no_memory}
use Rattle.hic_io.proofs.reading.read_all.Goals as goal

pub returns-in_err-count-clause-read : goal.returns-in_err-count-clause-read
returns-in_err-count-clause-read g c =
    let bytes = c.loop-bytes.bytes.items in
    let short : length bytes ≤ c.args.max = omega (arith, c.loop-bytes.invariant.room) in
    let read = c.in_err-count.ensures in
    subst (λ r. ReadsFile (g.H.Host.state c.args.host.now) (g.H.Host.state c.read.new.self) c.args.name.now c.args.max r)
    (sym (is_err c.from_residual-in_err-count.result _ c.from_residual-in_err-count.ensures.1))
    (reads-fault c.args.max bytes short c.loop-bytes.invariant.so_far read.call read.gives.0)

pub returns-then-most-len-clause-read : goal.returns-then-most-len-clause-read
returns-then-most-len-clause-read g c =
    let piece = take c.in_ok-count.count c.read.new.buf in
    let ok = c.in_ok-count.ensures.gives in
    let taken : length piece ≡ c.in_ok-count.count = length-take-le c.in_ok-count.count c.read.new.buf ok.0 in
    let all : length (c.loop-bytes.bytes.items ++ piece) ≡ c.args.max + 1 = omega (arith, taken, ok.0, length-append c.loop-bytes.bytes.items piece, c.loop-bytes.invariant.room, length-take {A = ℕ}) in
    reads-too_long c.args.max (c.loop-bytes.bytes.items ++ piece) all (read-more piece c.loop-bytes.invariant.so_far ok.1)

pub returns-in_err-extend_from_slice-clause-read : goal.returns-in_err-extend_from_slice-clause-read
returns-in_err-extend_from_slice-clause-read g c =
    let piece = take c.in_ok-count.count c.read.new.buf in
    let ok = c.in_ok-count.ensures.gives in
    let taken : length piece ≡ c.in_ok-count.count = length-take-le c.in_ok-count.count c.read.new.buf ok.0 in
    let short : length (c.loop-bytes.bytes.items ++ piece) ≤ c.args.max = omega (arith, taken, length-append c.loop-bytes.bytes.items piece) in
    subst (λ r. ReadsFile (g.H.Host.state c.args.host.now) (g.H.Host.state c.read.new.self) c.args.name.now c.args.max r)
    (sym (is_err c.from_residual-in_err-extend_from_slice.result _ c.from_residual-in_err-extend_from_slice.ensures.1))
    (reads-no_memory c.args.max (c.loop-bytes.bytes.items ++ piece) short (read-more piece c.loop-bytes.invariant.so_far ok.1))
