use Rattle.std.proofs.Common.{◌≡◌, refl, subst, ℕ, arith}
use Rattle.hic_plain.specs.Machine.{start}
use Rattle.command_line.specs.Seen.{run_of}
use Rattle.hic_io.specs.HostState.{Files}
use Rattle.hicamp.specs.Asked.{asked_from, asked_of_run, asked_of_schedule}
use Rattle.hicamp.specs.Outcome.{HasFile, HasFiles, Serves}
use Rattle.hicamp.proofs.OutcomeLaws.{asked-input, asked-program, asked-schedule, asked-then, leaves-asked, leaves-early, read-then, refused-program, same_files, serves-fulfils, serves-later, with_program, with_schedule}
use Rattle.hicamp.proofs.top.run_program.Goals as goal

pub returns-in-Err-clause-serves : goal.returns-in-Err-clause-serves
returns-in-Err-clause-serves g c =
    let k = c.args.telling in
    let r = run_of c.args.request.now in
    refused-program (asked_of_run k r) r.program (HasFiles r) (λ files named. named.0) (c.in-Err.ensures.refused (λ files o. with_program k r o files))

pub returns-in-Err-clause-last : goal.returns-in-Err-clause-last
returns-in-Err-clause-last g c =
    let k = c.args.telling in
    let r = run_of c.args.request.now in
    leaves-early (g.H.Host.state c.args.host.now) _ _ k r c.in-Err.ensures.early (refused-program (asked_of_run k r) r.program (HasFiles r) (λ files named. named.0) (c.in-Err.ensures.refused (λ files o. with_program k r o files))).gives

pub returns-in-Err-read_schedule-clause-serves : goal.returns-in-Err-read_schedule-clause-serves
returns-in-Err-read_schedule-clause-serves g c =
    let k = c.args.telling in
    let r = run_of c.args.request.now in
    let o = c.in-Ok.object in
    let program = c.in-Ok.ensures.read in
    serves-later (asked_of_run k r) (with_program k r o) (HasFiles r) (HasFile r.schedule) program.read (asked-program k _ r o program.goes_on) (λ files named. named.1)
    (subst (λ (n : ℕ). Serves (g.H.Host.state c.read_program.new.host) (g.H.Host.state c.read_schedule.new.host) c.in-Err-read_schedule.status (λ files. asked_of_schedule r.schedule n files (λ es. with_schedule k r o es files)) (HasFile r.schedule)) c.tasks.ensures.count
    (c.in-Err-read_schedule.ensures.refused (λ files es. with_schedule k r o es files)))

pub returns-in-Err-read_schedule-clause-last : goal.returns-in-Err-read_schedule-clause-last
returns-in-Err-read_schedule-clause-last g c =
    let k = c.args.telling in
    let r = run_of c.args.request.now in
    let o = c.in-Ok.object in
    let program = c.in-Ok.ensures.read in
    leaves-early (g.H.Host.state c.args.host.now) _ _ k r c.in-Err-read_schedule.ensures.early (serves-later (asked_of_run k r) (with_program k r o) (HasFiles r) (HasFile r.schedule) program.read (asked-program k _ r o program.goes_on) (λ files named. named.1)
    (subst (λ (n : ℕ). Serves (g.H.Host.state c.read_program.new.host) (g.H.Host.state c.read_schedule.new.host) c.in-Err-read_schedule.status (λ files. asked_of_schedule r.schedule n files (λ es. with_schedule k r o es files)) (HasFile r.schedule)) c.tasks.ensures.count
    (c.in-Err-read_schedule.ensures.refused (λ files es. with_schedule k r o es files)))).gives

pub returns-in-Err-read_input-clause-serves : goal.returns-in-Err-read_input-clause-serves
returns-in-Err-read_input-clause-serves g c =
    let k = c.args.telling in
    let r = run_of c.args.request.now in
    let o = c.in-Ok.object in
    let program = c.in-Ok.ensures.read in
    let es = c.in-Ok-read_schedule.schedule.entries in
    let schedule = c.in-Ok-read_schedule.ensures.read in
    let both = read-then program.read schedule.read in
    let goes_on = asked-then _ (asked_of_run k r) (with_program k r o) (with_schedule k r o es) (asked-program k _ r o program.goes_on) (same_files (λ fs. with_program k r o fs ≡ with_schedule k r o es fs) program.read (asked-schedule k _ r o c.tasks.result es c.tasks.ensures.count schedule.goes_on)) in
    serves-later (asked_of_run k r) (with_schedule k r o es) (HasFiles r) (HasFile r.input) both goes_on (λ files named. named.2)
    (c.in-Err-read_input.ensures.refused (λ files input. asked_from k (start o input r.capacity) es r.steps))

pub returns-in-Err-read_input-clause-last : goal.returns-in-Err-read_input-clause-last
returns-in-Err-read_input-clause-last g c =
    let k = c.args.telling in
    let r = run_of c.args.request.now in
    let o = c.in-Ok.object in
    let program = c.in-Ok.ensures.read in
    let es = c.in-Ok-read_schedule.schedule.entries in
    let schedule = c.in-Ok-read_schedule.ensures.read in
    let both = read-then program.read schedule.read in
    let goes_on = asked-then _ (asked_of_run k r) (with_program k r o) (with_schedule k r o es) (asked-program k _ r o program.goes_on) (same_files (λ fs. with_program k r o fs ≡ with_schedule k r o es fs) program.read (asked-schedule k _ r o c.tasks.result es c.tasks.ensures.count schedule.goes_on)) in
    leaves-early (g.H.Host.state c.args.host.now) _ _ k r c.in-Err-read_input.ensures.early (serves-later (asked_of_run k r) (with_schedule k r o es) (HasFiles r) (HasFile r.input) both goes_on (λ files named. named.2)
    (c.in-Err-read_input.ensures.refused (λ files input. asked_from k (start o input r.capacity) es r.steps))).gives

pub run_object-requires-clause-blank : goal.run_object-requires-clause-blank
run_object-requires-clause-blank g c = record { named = refl; whole = refl; some = (let one = c.new.ensures in omega (arith, one)) }

pub returns-clause-serves : goal.returns-clause-serves
returns-clause-serves g c =
    let k = c.args.telling in
    let r = run_of c.args.request.now in
    let o = c.in-Ok.object in
    let program = c.in-Ok.ensures.read in
    let es = c.in-Ok-read_schedule.schedule.entries in
    let schedule = c.in-Ok-read_schedule.ensures.read in
    let both = read-then program.read schedule.read in
    let goes_on = asked-then _ (asked_of_run k r) (with_program k r o) (with_schedule k r o es) (asked-program k _ r o program.goes_on) (same_files (λ fs. with_program k r o fs ≡ with_schedule k r o es fs) program.read (asked-schedule k _ r o c.tasks.result es c.tasks.ensures.count schedule.goes_on)) in
    let input = c.in-Ok-read_input.ensures.read in
    let bytes = c.in-Ok-read_input.input.items in
    let ran = λ (fs : Files). asked_from k (start o bytes r.capacity) es r.steps in
    let all = asked-then _ (asked_of_run k r) (with_schedule k r o es) ran goes_on (same_files (λ fs. with_schedule k r o es fs ≡ ran fs) both (asked-input k _ r o es bytes input.goes_on)) in
    serves-fulfils (asked_from k (start o bytes r.capacity) es r.steps) (asked_of_run k r) (HasFiles r) (read-then both input.read) all c.run_object.ensures.fulfils

pub returns-clause-last : goal.returns-clause-last
returns-clause-last g c =
    let k = c.args.telling in
    let r = run_of c.args.request.now in
    let o = c.in-Ok.object in
    let program = c.in-Ok.ensures.read in
    let es = c.in-Ok-read_schedule.schedule.entries in
    let schedule = c.in-Ok-read_schedule.ensures.read in
    let both = read-then program.read schedule.read in
    let goes_on = asked-then _ (asked_of_run k r) (with_program k r o) (with_schedule k r o es) (asked-program k _ r o program.goes_on) (same_files (λ fs. with_program k r o fs ≡ with_schedule k r o es fs) program.read (asked-schedule k _ r o c.tasks.result es c.tasks.ensures.count schedule.goes_on)) in
    let input = c.in-Ok-read_input.ensures.read in
    let bytes = c.in-Ok-read_input.input.items in
    let ran = λ (fs : Files). asked_from k (start o bytes r.capacity) es r.steps in
    let all = asked-then _ (asked_of_run k r) (with_schedule k r o es) ran goes_on (same_files (λ fs. with_schedule k r o es fs ≡ ran fs) both (asked-input k _ r o es bytes input.goes_on)) in
    leaves-asked _ (asked_of_run k r) all c.run_object.ensures.last
