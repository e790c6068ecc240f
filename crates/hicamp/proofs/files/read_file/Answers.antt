use Rattle.std.proofs.Common.{Err, None, ℕ, List, [], ◌++◌, ◌∙◌, ap, subst}
use Rattle.std.specs.Prelude.{IsSome, codes}
use Rattle.std.specs.FinMap as map
use Rattle.hicamp.specs.declared.status.Status.TheVariants.{Refused}
use Rattle.hic_io.specs.WholeFile.{IsLonger}
use Rattle.hicamp.specs.Limits.{file_name}
use Rattle.hicamp.specs.Messages.{message}
use Rattle.hicamp.specs.Asked.{refused, asked_of_file}
use Rattle.hicamp.specs.Outcome.{Fulfils}
use Rattle.hicamp.proofs.OutcomeLaws.{serves-fulfils, serves-read_fault, serves-no_memory, never-has, asked-too_long}
use Rattle.hicamp.proofs.files.read_file.Goals as goal

pub returns-in-Err-TooLong-clause-refused : goal.returns-in-Err-TooLong-clause-refused
returns-in-Err-TooLong-clause-refused g c next =
    let read = c.in-Err-TooLong.ensures in
    let told = subst (λ (bytes : List ℕ). Fulfils (g.H.Host.state c.read_all.new.host) (g.H.Host.state c.report.new.host) c.report.result (record { out = []; err = bytes; status = Refused; last = None }))
    (c.as_slice.ensures.value ∙ c.message_of-message.ensures ∙ ap (λ (xs : List ℕ). message (xs ++ codes " too long")) c.name.ensures.name) c.report.ensures.fulfils in
    serves-fulfils (refused (file_name c.args.kind ++ codes " too long")) (λ files. asked_of_file c.args.kind (map.get files c.args.name.now) (next files)) (λ files. IsSome (map.get files c.args.name.now))
    (record { only = read.only_reads; read_faults = read.faults.stays (λ fault. absurd cc) })
    (asked-too_long (g.H.Host.state c.args.host.now).files c.args.kind c.args.name.now next (subst (IsLonger (g.H.Host.state c.args.host.now) c.args.name.now) c.most_bytes.ensures (read.longer (ap Err c.in-Err-TooLong.field-0-is)))) told

pub returns-in-Err-Fault-clause-refused : goal.returns-in-Err-Fault-clause-refused
returns-in-Err-Fault-clause-refused g c next =
    let read = c.in-Err-Fault.ensures in
    serves-read_fault (λ files. asked_of_file c.args.kind (map.get files c.args.name.now) (next files)) (λ files. IsSome (map.get files c.args.name.now))
    read.only_reads (read.faults.rose (ap Err c.in-Err-Fault.field-0-is))
    (λ sound. never-has (g.H.Host.state c.args.host.now).files c.args.name.now (λ has. read.sound sound has (ap Err c.in-Err-Fault.field-0-is)))

pub returns-in-Err-OutOfMemory-clause-refused : goal.returns-in-Err-OutOfMemory-clause-refused
returns-in-Err-OutOfMemory-clause-refused g c next =
    let read = c.in-Err-OutOfMemory.ensures in
    serves-no_memory (λ files. asked_of_file c.args.kind (map.get files c.args.name.now) (next files)) (λ files. IsSome (map.get files c.args.name.now))
    (record { only = read.only_reads; read_faults = read.faults.stays (λ fault. absurd cc) })
