-- What a run of the program leaves, from what its parts leave.
use Rattle.std.proofs.Common.{◌≡◌, ◌≢◌, ℕ, List, [], ◌∷◌, ◌++◌, length, take, drop, take-append-drop, Bool, true, false, cond, Result, Ok, Err, Option, Some, None, IsTrue, refl, sym, ◌∙◌, ap, subst, arith, ◌⊎◌, inl, inr}
use Rattle.std.specs.Prelude.{◌<◌, IfSome, IsSome, IsSomeAnd, IfErr, IfOk, if◌then◌else◌, nat_lt, codes}
use Rattle.std.specs.FinMap as map
use Rattle.std.specs.Io.KnownBytes.{append_known}
use Rattle.hic_io.specs.HostState.{HostState, Files, IsCalm}
use Rattle.hic_io.specs.Calls.{Rose, Wrote, IsCall, FailsToWrite}
use Rattle.hic_io.specs.Output.{Puts, WrotePart}
use Rattle.hic_io.specs.declared.writing.Side.TheVariants.{Output, Error}
use Rattle.hic_io.proofs.CallLaws.{append_known-nil, calm-then, late-calm, wrote-then}
use Rattle.hic_io.specs.WholeFile.{OnlyReads}
use Rattle.std.proofs.lemmas.Bool.{lt-ltb}
use Rattle.std.proofs.lemmas.List.{append-nil}
use Rattle.hicamp.specs.declared.status.Status.{Status}
use Rattle.hicamp.specs.declared.status.Status.TheVariants as status
use Rattle.hicamp.specs.Messages.{object_text, schedule_text, source_text, end_status}
use Rattle.hic_plain.specs.declared.turn.End.{End}
use Rattle.hic_plain.specs.declared.turn.End.TheVariants as ends
use Rattle.hic_object.specs.Parts.{Parts}
use Rattle.command_line.specs.Asked.{Run}
use Rattle.hic_object.specs.declared.error.ObjectError.{ObjectError}
use Rattle.hic_object.specs.declared.error.ObjectError.TheVariants as errors
use Rattle.hic_object.specs.Reading.{object_at}
use Rattle.hic_asm.specs.declared.error.AsmError.{AsmError}
use Rattle.hic_asm.specs.declared.error.AsmError.TheVariants as asm
use Rattle.hic_asm.specs.Assembly.{assembled}
use Rattle.hicamp.specs.Limits.{file_name, most_bytes}
use Rattle.hicamp.specs.declared.files.FileKind.{FileKind}
use Rattle.hicamp.specs.declared.files.FileKind.TheVariants as file
use Rattle.hicamp.specs.declared.telling.Telling.{Telling}
use Rattle.hicamp.specs.declared.telling.Telling.TheVariants as telling
use Rattle.hic_machine.specs.declared.opening.OpenError.{OpenError}
use Rattle.hic_machine.specs.declared.opening.OpenError.TheVariants as opens
use Rattle.hic_machine.specs.Opens.{ToldBy}
use Rattle.hic_plain.specs.Full.{full_at_load}
use Rattle.hic_plain.specs.Machine.{Machine, start}
use Rattle.hic_plain.specs.Run.{Ran, run}
use Rattle.task_sched.specs.declared.error.SchedError.{SchedError}
use Rattle.task_sched.specs.declared.error.SchedError.TheVariants as wrong
use Rattle.task_sched.specs.Faults.{sched_fault}
use Rattle.task_sched.specs.Items.{entries}
use Rattle.task_sched.specs.Order.{Order}
use Rattle.hicamp.specs.Asked.{Answer, refused, not_there, no_room, asked_from, asked_of_assembly, asked_of_entries, asked_of_file, asked_of_object, asked_of_program, asked_of_schedule, asked_of_input, asked_of_run, answer_by}
use Rattle.hicamp.specs.Outcome.{TookFront, TookFronts, WroteNothing, IsEarly, IsRunStatus, IsUnbroken, Leaves, TellsWriteFault, TellsNoFault, HasRoomFor, Gives, Fulfils, Serves, HasFile, HasRead, ReadsSchedule, Refuses, WantsMemory, Refused}
use Rattle.hicamp.specs.Running.{run_by}

-- ---- answers that depend on a file

pub if_some : {A : Type 0} (P Q : A → Type 0) (o : Option A) → IfSome o P → ((x : A) → P x → Q x) → IfSome o Q
if_some P Q None p f = tt
if_some P Q (Some x) p f = f x p

pub of_all : {A : Type 0} (Q : A → Type 0) (o : Option A) → ((x : A) → Q x) → IfSome o Q
of_all Q None f = tt
of_all Q (Some x) f = f x

both : {A : Type 0} (P Q R : A → Type 0) (o : Option A) → IfSome o P → IfSome o Q → ((x : A) → P x → Q x → R x) → IfSome o R
both P Q R None p q f = tt
both P Q R (Some x) p q f = f x p q

pub if_err : {T E : Type 0} {P Q : E → Type 0} (r : Result T E) → IfErr r P → ((e : E) → P e → Q e) → IfErr r Q
if_err (Ok x) p f = tt
if_err (Err e) p f = f e p

pub if_ok : {T E : Type 0} {P Q R : T → Type 0} (r : Result T E) → IfOk r P → IfOk r Q → ((x : T) → P x → Q x → R x) → IfOk r R
if_ok (Ok x) p q f = f x p q
if_ok (Err e) p q f = tt

-- ---- fronts

took-all : {old new : Option (List ℕ)} {bytes : List ℕ} → new ≡ append_known old bytes → TookFront old new bytes
took-all {bytes = bytes} is = record { front = bytes; rest = []; split = append-nil bytes; took = is }

took-none : {old new : Option (List ℕ)} (bytes : List ℕ) → new ≡ old → TookFront old new bytes
took-none {old = old} bytes is = record { front = []; rest = bytes; split = refl; took = is ∙ sym (append_known-nil old) }

-- what was asked is given as a whole
pub gives-all : {a b : HostState} {got : Status} (x : Answer) → b.out ≡ append_known a.out x.out → b.err ≡ append_known a.err x.err → got ≡ x.status → Gives a b got x
gives-all x out err told = record { whole = λ unbroken. record { out = out; err = err; status = told }; front = record { out = took-all out; err = took-all err } }

-- a fault or want of memory is told, and nothing was written
pub gives-none : {a b : HostState} {got : Status} (x : Answer) → (IsUnbroken got → ⊥) → b.out ≡ a.out → b.err ≡ a.err → Gives a b got x
gives-none x broken out err = record { whole = λ unbroken. absurd (broken unbroken); front = record { out = took-none x.out out; err = took-none x.err err } }

took-later : {a b c : Option (List ℕ)} {bytes bytes' : List ℕ} → b ≡ a → bytes' ≡ bytes → TookFront b c bytes → TookFront a c bytes'
took-later is same p = record { front = p.front; rest = p.rest; split = p.split ∙ sym same; took = p.took ∙ ap (λ o. append_known o p.front) is }

-- what is given after reading is given from before
gives-later : {a b c : HostState} {got : Status} {x y : Answer} → OnlyReads a b → y ≡ x → Gives b c got x → Gives a c got y
gives-later {a = a} {c = c} {got = got} {x = x} p same q = record {
  whole = λ unbroken.
      let was = q.whole unbroken in
      record {
        out = was.out ∙ ap (λ o. append_known o x.out) p.out ∙ ap (λ z. append_known a.out z.out) (sym same);
        err = was.err ∙ ap (λ o. append_known o x.err) p.err ∙ ap (λ z. append_known a.err z.err) (sym same);
        status = was.status ∙ ap (λ z. z.status) (sym same);
      };
  front = record { out = took-later p.out (ap (λ z. z.out) same) q.front.out; err = took-later p.err (ap (λ z. z.err) same) q.front.err };
}

-- ---- what is told on the error side

-- a write failed after each side took a front of the answer's bytes
fulfils-failed : {a m b : HostState} (x : Answer) {out err : List ℕ} → Wrote a m out err → IsCall m b → FailsToWrite m b → Rose a.write_faults b.write_faults → TookFronts a b x → (IsTrue a.sound → HasRoomFor a x → ⊥) → Fulfils a b status.WriteFault x
fulfils-failed x p call fails rose fronts never = record {
  gives = record { whole = λ unbroken. absurd (unbroken.no_write_fault refl); front = fronts };
  no_read_fault = λ is. absurd cc;
  read_faults = fails.read_faults ∙ p.quiet.read_faults;
  write_fault = record { rose = λ fault. rose; stays = λ other. absurd (other refl) };
  no_memory = λ none. absurd cc;
  in_time = λ calm. late-calm call (calm-then p.quiet calm);
  sound = λ sound room. absurd (never sound room);
}

took-part : {old new : Option (List ℕ)} (count : ℕ) (bytes : List ℕ) → new ≡ append_known old (take count bytes) → TookFront old new bytes
took-part count bytes is = record { front = take count bytes; rest = drop count bytes; split = take-append-drop count bytes; took = is }

-- a message was not written as a whole
pub fulfils-part : {a b : HostState} (x : Answer) → WrotePart Error a b x.err → (IsTrue a.sound → HasRoomFor a x → ⊥) → Fulfils a b status.WriteFault x
fulfils-part {a = a} x p never =
    let bytes = p.front.fails.bytes in
    fulfils-failed x p.front.wrote p.front.call p.front.fails p.rose
    (record { out = took-none x.out (bytes.out ∙ p.front.wrote.out ∙ append_known-nil a.out); err = took-part p.count x.err (bytes.err ∙ p.front.wrote.err) }) never

-- ---- what a run writes

-- the output was not written as a whole
pub fulfils-cut : {a b : HostState} (x : Answer) {bytes : List ℕ} → bytes ≡ x.out → WrotePart Output a b bytes → (IsTrue a.sound → HasRoomFor a x → ⊥) → Fulfils a b status.WriteFault x
fulfils-cut {a = a} {b = b} x is whole never =
    let p = subst (λ (bytes : List ℕ). WrotePart Output a b bytes) is whole in
    let bytes = p.front.fails.bytes in
    fulfils-failed x p.front.wrote p.front.call p.front.fails p.rose
    (record { out = took-part p.count x.out (bytes.out ∙ p.front.wrote.out); err = took-none x.err (bytes.err ∙ p.front.wrote.err ∙ append_known-nil a.err) }) never

-- what was put and then flushed is written as a whole
pub puts-flushed : {a b c : HostState} {put bytes kept : List ℕ} → put ≡ bytes → Puts a b put kept → Wrote b c kept [] → Wrote a c bytes []
puts-flushed {a = a} {c = c} is p q = subst (λ (xs : List ℕ). Wrote a c xs []) (p.split ∙ is) (wrote-then p.wrote q)

-- how a run ended is told without want of memory
pub end-some : (end : End) {got : Status} → (got ≡ end_status end) ⊎ (got ≡ status.WriteFault) → got ≢ status.NoMemory
end-some ends.Halted (inl is) = λ none. absurd cc
end-some ends.Budget (inl is) = λ none. absurd cc
end-some (ends.Trapped trap task pc) (inl is) = λ none. absurd cc
end-some end (inr is) = λ none. absurd cc

-- the output was written, and then the message
pub fulfils-then : {a b c : HostState} {got : Status} (out err : List ℕ) (s : Status) (last : Option Machine) → Wrote a b out [] → got ≢ status.NoMemory → Fulfils b c got (record { out = []; err = err; status = s; last = None }) → Fulfils a c got (record { out = out; err = err; status = s; last = last })
fulfils-then {a = a} {b = b} {c = c} {got = got} out err s last p some q =
    let err_is : b.err ≡ a.err = p.err ∙ append_known-nil a.err in
    let all_out : c.out ≡ append_known b.out q.gives.front.out.front = q.gives.front.out.took in
    let none : q.gives.front.out.front ≡ [] = nothing _ _ q.gives.front.out.split in
    let out_is : c.out ≡ append_known a.out out = all_out ∙ ap (λ (xs : List ℕ). append_known b.out xs) none ∙ append_known-nil b.out ∙ p.out in
    record {
      gives = record {
        whole = λ unbroken.
            let was = q.gives.whole unbroken in
            record { out = out_is; err = was.err ∙ ap (λ o. append_known o err) err_is; status = was.status };
        front = record { out = took-all out_is; err = took-later err_is refl q.gives.front.err };
      };
      no_read_fault = q.no_read_fault;
      read_faults = q.read_faults ∙ p.quiet.read_faults;
      write_fault = record {
        rose = λ fault. subst (λ (n : ℕ). Rose n c.write_faults) p.quiet.write_faults (q.write_fault.rose fault);
        stays = λ other. q.write_fault.stays other ∙ p.quiet.write_faults;
      };
      no_memory = λ none. absurd (some none);
      in_time = λ calm. q.in_time (calm-then p.quiet calm);
      sound = λ sound room.
          let left = p.room sound in
          q.sound (subst IsTrue (sym p.quiet.sound) sound) (omega (arith, left, room));
    }
  where
    nothing : (xs ys : List ℕ) → xs ++ ys ≡ [] → xs ≡ []
    nothing [] ys is = refl
    nothing (x ∷ xs) ys is = absurd cc

-- ---- after reading

pub read-then_calm : {a b : HostState} → HasRead a b → IsCalm a → IsCalm b
read-then_calm p calm = record { reads = p.read_faults ∙ calm.reads; writes = p.only.write_faults ∙ calm.writes; in_time = p.only.in_time calm }

-- after reading, the count of write faults tells the same
write-later : {a b : HostState} (c : HostState) (got : Status) → HasRead a b → TellsWriteFault b c got → TellsWriteFault a c got
write-later c got p q = record {
  rose = λ fault. subst (λ (n : ℕ). Rose n c.write_faults) p.only.write_faults (q.rose fault);
  stays = λ other. q.stays other ∙ p.only.write_faults;
}

nothing-later : {a b c : HostState} → HasRead a b → WroteNothing b c → WroteNothing a c
nothing-later p q = record { out = q.out ∙ p.only.out; err = q.err ∙ p.only.err }

silent-memory : {a b : HostState} {got : Status} → got ≢ status.ReadFault → (got ≡ status.NoMemory → WroteNothing a b) → (got ≡ status.ReadFault) ⊎ (got ≡ status.NoMemory) → WroteNothing a b
silent-memory no_read_fault nothing (inl fault) = absurd (no_read_fault fault)
silent-memory no_read_fault nothing (inr none) = nothing none

-- an answer that was given after reading is the one for these files
pub serves-fulfils : {a b c : HostState} {got : Status} (x : Answer) (asks : Files → Answer) (Needs : Files → Type 0) → HasRead a b → IfSome a.files (λ files. asks files ≡ x) → Fulfils b c got x → Serves a c got asks Needs
serves-fulfils {a = a} {b = b} {c = c} {got = got} x asks Needs p is q = record {
  gives = if_some (λ files. asks files ≡ x) (λ files. Gives a c got (asks files)) a.files is (λ files same. gives-later p.only same q.gives);
  read_fault = record { rose = λ fault. absurd (q.no_read_fault fault); stays = λ other. q.read_faults ∙ p.read_faults };
  write_fault = write-later c got p q.write_fault;
  silent = λ why. nothing-later p (silent-memory q.no_read_fault q.no_memory why);
  in_time = λ calm. q.in_time (read-then_calm p calm);
  sound = λ sound. if_some (λ files. asks files ≡ x) (λ files. Needs files → HasRoomFor a (asks files) → TellsNoFault got) a.files is (λ files same needs room.
      let enough : HasRoomFor b x = omega (arith, room, ap (λ y. length y.out) same, ap (λ y. length y.err) same, p.only.room) in
      record { no_read_fault = q.no_read_fault; no_write_fault = q.sound (subst IsTrue (sym p.only.sound) sound) enough });
}

-- there was no memory for the file
pub serves-no_memory : {a b : HostState} (asks : Files → Answer) (Needs : Files → Type 0) → HasRead a b → Serves a b status.NoMemory asks Needs
serves-no_memory {a = a} {b = b} asks Needs p = record {
  gives = of_all (λ files. Gives a b status.NoMemory (asks files)) a.files (λ files. gives-none (asks files) (λ unbroken. unbroken.some_memory refl) p.only.out p.only.err);
  read_fault = record { rose = λ fault. absurd cc; stays = λ other. p.read_faults };
  write_fault = record { rose = λ fault. absurd cc; stays = λ other. p.only.write_faults };
  silent = λ why. record { out = p.only.out; err = p.only.err };
  in_time = p.only.in_time;
  sound = λ sound. of_all (λ files. Needs files → HasRoomFor a (asks files) → TellsNoFault status.NoMemory) a.files (λ files needs room.
      record { no_read_fault = λ is. absurd cc; no_write_fault = λ is. absurd cc });
}

-- a file could not be read
pub serves-read_fault : {a b : HostState} (asks : Files → Answer) (Needs : Files → Type 0) → OnlyReads a b → Rose a.read_faults b.read_faults → (IsTrue a.sound → IfSome a.files (λ files. Needs files → ⊥)) → Serves a b status.ReadFault asks Needs
serves-read_fault {a = a} {b = b} asks Needs p rose never = record {
  gives = of_all (λ files. Gives a b status.ReadFault (asks files)) a.files (λ files. gives-none (asks files) (λ unbroken. unbroken.no_read_fault refl) p.out p.err);
  read_fault = record { rose = λ fault. rose; stays = λ other. absurd (other refl) };
  write_fault = record { rose = λ fault. absurd cc; stays = λ other. p.write_faults };
  silent = λ why. record { out = p.out; err = p.err };
  in_time = p.in_time;
  sound = λ sound. if_some (λ files. Needs files → ⊥) (λ files. Needs files → HasRoomFor a (asks files) → TellsNoFault status.ReadFault) a.files (never sound) (λ files none needs room. absurd (none needs));
}

read-nothing : (a : HostState) → HasRead a a
read-nothing a = record { only = record { files = refl; out = refl; err = refl; sound = refl; room = refl; write_faults = refl; in_time = λ calm. calm.in_time }; read_faults = refl }

-- an answer that reads no file is the one for all files
pub serves-always : {a b : HostState} {got : Status} (x : Answer) (asks : Files → Answer) (Needs : Files → Type 0) → ((files : Files) → asks files ≡ x) → Fulfils a b got x → Serves a b got asks Needs
serves-always {a = a} x asks Needs is q =
    serves-fulfils x asks Needs (read-nothing a) (of_all (λ files. asks files ≡ x) a.files is) q

pub read-then : {a b c : HostState} → HasRead a b → HasRead b c → HasRead a c
read-then p q = record {
  only = record {
    files = q.only.files ∙ p.only.files;
    out = q.only.out ∙ p.only.out;
    err = q.only.err ∙ p.only.err;
    sound = q.only.sound ∙ p.only.sound;
    room = q.only.room ∙ p.only.room;
    write_faults = q.only.write_faults ∙ p.only.write_faults;
    in_time = λ calm. q.only.in_time (read-then_calm p calm);
  };
  read_faults = q.read_faults ∙ p.read_faults;
}

-- an answer given after a file was read is one for what was asked before
pub serves-later : {a b c : HostState} {got : Status} (first asks : Files → Answer) (All Needs : Files → Type 0) → HasRead a b → IfSome a.files (λ files. first files ≡ asks files) → ((files : Files) → All files → Needs files) → Serves b c got asks Needs → Serves a c got first All
serves-later {a = a} {b = b} {c = c} {got = got} first asks All Needs p is part q =
    let files_are = p.only.files in
    let told = subst (λ o. IfSome o (λ files. Gives b c got (asks files))) files_are q.gives in
    let quiet : IsTrue a.sound → IfSome a.files (λ files. Needs files → HasRoomFor b (asks files) → TellsNoFault got) = λ sound.
    subst (λ o. IfSome o (λ files. Needs files → HasRoomFor b (asks files) → TellsNoFault got)) files_are (q.sound (subst IsTrue (sym p.only.sound) sound)) in
    record {
      gives = both (λ files. first files ≡ asks files) (λ files. Gives b c got (asks files)) (λ files. Gives a c got (first files)) a.files is told (λ files same gives. gives-later p.only same gives);
      read_fault = record {
        rose = λ fault. subst (λ (n : ℕ). Rose n c.read_faults) p.read_faults (q.read_fault.rose fault);
        stays = λ other. q.read_fault.stays other ∙ p.read_faults;
      };
      write_fault = write-later c got p q.write_fault;
      silent = λ why. nothing-later p (q.silent why);
      in_time = λ calm. q.in_time (read-then_calm p calm);
      sound = λ sound. both (λ files. first files ≡ asks files) (λ files. Needs files → HasRoomFor b (asks files) → TellsNoFault got) (λ files. All files → HasRoomFor a (first files) → TellsNoFault got) a.files is (quiet sound) (λ files same undisturbed needs room.
          let enough : HasRoomFor b (asks files) = omega (arith, room, ap (λ y. length y.out) same, ap (λ y. length y.err) same, p.only.room) in
          undisturbed (part files needs) enough);
    }

-- a refusal while the program was read
pub refused-program : {a b : HostState} {got : Status} (asks : Files → Answer) (name : List ℕ) (All : Files → Type 0) → ((files : Files) → All files → IsSome (map.get files name)) → Serves a b got asks (λ files. IsSome (map.get files name)) → Serves a b got asks All
refused-program {a = a} {b = b} {got = got} asks name All part q = record {
  gives = q.gives;
  read_fault = q.read_fault;
  write_fault = q.write_fault;
  silent = q.silent;
  in_time = q.in_time;
  sound = λ sound. if_some (λ files. IsSome (map.get files name) → HasRoomFor a (asks files) → TellsNoFault got) (λ files. All files → HasRoomFor a (asks files) → TellsNoFault got) a.files (q.sound sound) (λ files undisturbed needs room. undisturbed (part files needs) room);
}

-- ---- what is asked once files were read

-- with the object and the entries
abbrev pub with_schedule : Telling → Run → Parts → List ℕ → Files → Answer
with_schedule k r o es files = asked_of_input r.input files (λ input. asked_from k (start o input r.capacity) es r.steps)

-- with the object
abbrev pub with_program : Telling → Run → Parts → Files → Answer
with_program k r o files = asked_of_schedule r.schedule (length o.entries) files (λ es. with_schedule k r o es files)

pub asked-program : (k : Telling) (files : Option Files) (r : Run) (o : Parts) → IfSome files (λ fs. (next : Parts → Answer) → asked_of_program (map.get fs r.program) next ≡ next o) → IfSome files (λ fs. asked_of_run k r fs ≡ with_program k r o fs)
asked-program k files r o first = if_some (λ fs. (next : Parts → Answer) → asked_of_program (map.get fs r.program) next ≡ next o) (λ fs. asked_of_run k r fs ≡ with_program k r o fs) files first (λ fs goes_on. goes_on (λ p. with_program k r p fs))

pub asked-schedule : (k : Telling) (files : Option Files) (r : Run) (o : Parts) (tasks : ℕ) (es : List ℕ) → tasks ≡ length o.entries → IfSome files (λ fs. (next : List ℕ → Answer) → asked_of_schedule r.schedule tasks fs next ≡ next es) → IfSome files (λ fs. with_program k r o fs ≡ with_schedule k r o es fs)
asked-schedule k files r o tasks es count second = if_some (λ fs. (next : List ℕ → Answer) → asked_of_schedule r.schedule tasks fs next ≡ next es) (λ fs. with_program k r o fs ≡ with_schedule k r o es fs) files second (λ fs goes_on.
    ap (λ (n : ℕ). asked_of_schedule r.schedule n fs (λ es. with_schedule k r o es fs)) (sym count) ∙ goes_on (λ es. with_schedule k r o es fs))

pub asked-input : (k : Telling) (files : Option Files) (r : Run) (o : Parts) (es input : List ℕ) → IfSome files (λ fs. (next : List ℕ → Answer) → asked_of_input r.input fs next ≡ next input) → IfSome files (λ fs. with_schedule k r o es fs ≡ asked_from k (start o input r.capacity) es r.steps)
asked-input k files r o es input third = if_some (λ fs. (next : List ℕ → Answer) → asked_of_input r.input fs next ≡ next input) (λ fs. with_schedule k r o es fs ≡ asked_from k (start o input r.capacity) es r.steps) files third (λ fs goes_on. goes_on (λ input. asked_from k (start o input r.capacity) es r.steps))

pub asked-then : (files : Option Files) (f g h : Files → Answer) → IfSome files (λ fs. f fs ≡ g fs) → IfSome files (λ fs. g fs ≡ h fs) → IfSome files (λ fs. f fs ≡ h fs)
asked-then files f g h first second = both (λ fs. f fs ≡ g fs) (λ fs. g fs ≡ h fs) (λ fs. f fs ≡ h fs) files first second (λ fs a b. a ∙ b)

-- what holds for the files holds for the same files
pub same_files : {a b : HostState} (P : Files → Type 0) → HasRead a b → IfSome b.files P → IfSome a.files P
same_files P p = subst (λ files. IfSome files P) p.only.files

-- ---- a file

-- a host that has the file does not fail, so one that failed has it not
pub never-has : (files : Option Files) (name : List ℕ) → (IsSomeAnd files (λ fs. IsSome (map.get fs name)) → ⊥) → IfSome files (λ fs. IsSome (map.get fs name) → ⊥)
never-has None name never = tt
never-has (Some fs) name never = never

-- a file that is too long is refused
pub asked-too_long : (files : Option Files) (kind : FileKind) (name : List ℕ) (next : Files → List ℕ → Answer) → IfSome files (λ fs. IsSomeAnd (map.get fs name) (λ bytes. most_bytes kind < length bytes)) → IfSome files (λ fs. asked_of_file kind (map.get fs name) (next fs) ≡ refused (file_name kind ++ codes " too long"))
asked-too_long files kind name next is = if_some (λ fs. IsSomeAnd (map.get fs name) (λ bytes. most_bytes kind < length bytes)) (λ fs. asked_of_file kind (map.get fs name) (next fs) ≡ refused (file_name kind ++ codes " too long")) files is (λ fs long. refuses-long (map.get fs name) (next fs) long)
  where
    refuses-long : (file : Option (List ℕ)) (next : List ℕ → Answer) → IsSomeAnd file (λ bytes. most_bytes kind < length bytes) → asked_of_file kind file next ≡ refused (file_name kind ++ codes " too long")
    refuses-long None next long = absurd long
    refuses-long (Some bytes) next long =
        let longer : nat_lt (most_bytes kind) (length bytes) ≡ true = lt-ltb _ _ long in
        ap (λ (b : Bool). cond b (refused (file_name kind ++ codes " too long")) (next bytes)) longer

-- what is asked with the bytes of a file
pub asked-bytes : {T : Type 0} (kind : FileKind) (asks : List ℕ → (T → Answer) → Answer) (files : Option Files) (name items bytes : List ℕ) → bytes ≡ items → (next : Files → T → Answer) → IfSome files (λ fs. (goes : List ℕ → Answer) → asked_of_file kind (map.get fs name) goes ≡ goes items) → IfSome files (λ fs. asked_of_file kind (map.get fs name) (λ bytes. asks bytes (next fs)) ≡ asks bytes (next fs))
asked-bytes kind asks files name items bytes same next is = if_some (λ fs. (goes : List ℕ → Answer) → asked_of_file kind (map.get fs name) goes ≡ goes items) (λ fs. asked_of_file kind (map.get fs name) (λ bytes. asks bytes (next fs)) ≡ asks bytes (next fs)) files is (λ fs goes_on.
    goes_on (λ bytes. asks bytes (next fs)) ∙ ap (λ (bytes : List ℕ). asks bytes (next fs)) (sym same))

abbrev pub object_asked : List ℕ → (Parts → Answer) → Answer
object_asked bytes next = asked_of_object (object_at bytes) next

abbrev pub source_asked : List ℕ → (Parts → Answer) → Answer
source_asked text next = asked_of_assembly (assembled text) next

abbrev pub entries_asked : List ℕ → ℕ → (List ℕ → Answer) → Answer
entries_asked bytes tasks next = asked_of_entries (sched_fault bytes tasks) (entries bytes) next

-- a text without a fault is gone on with
pub asked-faultless : (bytes es : List ℕ) (tasks : ℕ) → sched_fault bytes tasks ≡ None → es ≡ entries bytes → (next : List ℕ → Answer) → entries_asked bytes tasks next ≡ next es
asked-faultless bytes es tasks none is next = ap (λ fault. asked_of_entries fault (entries bytes) next) none ∙ ap next (sym is)

-- bytes with a fault are refused, unless memory was wanted
pub refuses-object : {b c : HostState} {got : Status} (bytes : List ℕ) (e : ObjectError) → (e ≡ errors.OutOfMemory → (got ≡ status.NoMemory) × (c ≡ b)) → (e ≢ errors.OutOfMemory → Fulfils b c got (refused (object_text e))) → (e ≢ errors.OutOfMemory → object_at bytes ≡ Err e) → Refuses Parts b c got (asked_of_object (object_at bytes))
refuses-object bytes errors.OutOfMemory wants q read = WantsMemory (wants refl).0 (wants refl).1
refuses-object bytes e wants q read =
    let some : e ≢ errors.OutOfMemory = λ is. absurd cc in
    Refused (refused (object_text e)) (q some) (λ next. ap (λ r. asked_of_object r next) (read some))

-- so is a source
pub refuses-source : {b c : HostState} {got : Status} (text : List ℕ) (e : AsmError) → (e ≡ asm.OutOfMemory → (got ≡ status.NoMemory) × (c ≡ b)) → (e ≢ asm.OutOfMemory → Fulfils b c got (refused (source_text e))) → (e ≢ asm.OutOfMemory → assembled text ≡ Err e) → Refuses Parts b c got (source_asked text)
refuses-source text asm.OutOfMemory wants q is = WantsMemory (wants refl).0 (wants refl).1
refuses-source text e wants q is =
    let some : e ≢ asm.OutOfMemory = λ same. absurd cc in
    Refused (refused (source_text e)) (q some) (λ next. ap (λ r. asked_of_assembly r next) (is some))

-- so is a schedule's text
pub refuses-schedule : {b c : HostState} {got : Status} (bytes : List ℕ) (tasks : ℕ) (e : SchedError) → (e ≡ wrong.OutOfMemory → (got ≡ status.NoMemory) × (c ≡ b)) → (e ≢ wrong.OutOfMemory → Fulfils b c got (refused (schedule_text e))) → (e ≡ wrong.OutOfMemory) ⊎ (sched_fault bytes tasks ≡ Some e) → Refuses (List ℕ) b c got (entries_asked bytes tasks)
refuses-schedule bytes tasks e wants q (inl none) = WantsMemory (wants none).0 (wants none).1
refuses-schedule bytes tasks wrong.OutOfMemory wants q (inr is) = WantsMemory (wants refl).0 (wants refl).1
refuses-schedule bytes tasks e wants q (inr is) =
    let some : e ≢ wrong.OutOfMemory = λ same. absurd cc in
    Refused (refused (schedule_text e)) (q some) (λ next. ap (λ fault. asked_of_entries fault (entries bytes) next) is)

pub serves-refuses : {T : Type 0} {a b c : HostState} {got : Status} (asks : Files → Answer) (last : (T → Answer) → Answer) (next : Files → T → Answer) (Needs : Files → Type 0) → HasRead a b → IfSome a.files (λ files. asks files ≡ last (next files)) → Refuses T b c got last → Serves a c got asks Needs
serves-refuses {a = a} {b = b} {c = c} {got = got} asks last next Needs p is (WantsMemory wants still) =
    subst (λ g. Serves a c g asks Needs) (sym wants) (subst (λ s. Serves a s status.NoMemory asks Needs) (sym still) (serves-no_memory asks Needs p))
serves-refuses {a = a} asks last next Needs p is (Refused x q all) =
    serves-fulfils x asks Needs p (if_some (λ files. asks files ≡ last (next files)) (λ files. asks files ≡ x) a.files is (λ files same. same ∙ all (next files))) q

-- without a name the entries are those of no byte
pub reads-no_schedule : (a b : HostState) (tasks : ℕ) (es : List ℕ) → b ≡ a → ((next : List ℕ → Answer) → entries_asked [] tasks next ≡ next es) → ReadsSchedule a b None tasks es
reads-no_schedule a b tasks es still goes_on = record {
  read = subst (HasRead a) (sym still) (read-nothing a);
  goes_on = of_all (λ files. (next : List ℕ → Answer) → asked_of_schedule None tasks files next ≡ next es) a.files (λ files. goes_on);
}

pub no_schedule-refused : {a b : HostState} {got : Status} (tasks : ℕ) (next : Files → List ℕ → Answer) → Refuses (List ℕ) a b got (entries_asked [] tasks) → Serves a b got (λ files. asked_of_schedule None tasks files (next files)) (HasFile None)
no_schedule-refused {a = a} tasks next refuses =
    serves-refuses (λ files. asked_of_schedule None tasks files (next files)) (entries_asked [] tasks) next (HasFile None) (read-nothing a)
    (of_all (λ files. asked_of_schedule None tasks files (next files) ≡ entries_asked [] tasks (next files)) a.files (λ files. refl)) refuses

-- ---- what is left where no run is told

-- memory was wanted before any byte
pub fulfils-no_memory : (a : HostState) (x : Answer) → Fulfils a a status.NoMemory x
fulfils-no_memory a x = record {
  gives = gives-none x (λ unbroken. unbroken.some_memory refl) refl refl;
  no_read_fault = λ is. absurd cc;
  read_faults = refl;
  write_fault = record { rose = λ fault. absurd cc; stays = λ other. refl };
  no_memory = λ none. record { out = refl; err = refl };
  in_time = λ calm. calm.in_time;
  sound = λ sound room fault. absurd cc;
}

pub leaves-none : {got : Status} {x : Answer} → x.last ≡ None → Leaves got None x
leaves-none none = record { whole = λ unbroken. sym none; broken = λ _. refl }

-- What is asked has a property that each refusal has, where what would follow has it.
module _ (P : Answer → Type 0) (told : (x : Answer) → x.last ≡ None → P x) where
  pub file-each : (kind : FileKind) (file : Option (List ℕ)) (next : List ℕ → Answer) → ((bytes : List ℕ) → P (next bytes)) → P (asked_of_file kind file next)
  file-each kind None next each = told not_there refl
  file-each kind (Some bytes) next each = go (nat_lt (most_bytes kind) (length bytes))
    where
      go : (b : Bool) → P (if b then refused (file_name kind ++ codes " too long") else next bytes)
      go true = told _ refl
      go false = each bytes

  pub object-each : (r : Result Parts ObjectError) (next : Parts → Answer) → ((o : Parts) → P (next o)) → P (asked_of_object r next)
  object-each (Err fault) next each = told _ refl
  object-each (Ok o) next each = each o

  pub assembly-each : (r : Result Parts AsmError) (next : Parts → Answer) → ((o : Parts) → P (next o)) → P (asked_of_assembly r next)
  assembly-each (Err fault) next each = told _ refl
  assembly-each (Ok o) next each = each o

  pub entries-each : (fault : Option SchedError) (es : List ℕ) (next : List ℕ → Answer) → ((es : List ℕ) → P (next es)) → P (asked_of_entries fault es next)
  entries-each (Some fault) es next each = told _ refl
  entries-each None es next each = each es

  pub schedule-each : (name : Option (List ℕ)) (tasks : ℕ) (files : Files) (next : List ℕ → Answer) → ((es : List ℕ) → P (next es)) → P (asked_of_schedule name tasks files next)
  schedule-each None tasks files next each = each []
  schedule-each (Some name) tasks files next each = file-each file.Schedule (map.get files name) (λ bytes. entries_asked bytes tasks next) (λ bytes. entries-each (sched_fault bytes tasks) (entries bytes) next each)

  pub input-each : (name : Option (List ℕ)) (files : Files) (next : List ℕ → Answer) → ((bytes : List ℕ) → P (next bytes)) → P (asked_of_input name files next)
  input-each None files next each = each []
  input-each (Some name) files next each = file-each file.Input (map.get files name) next each

-- what is refused before a run leaves no machine
abbrev RefusesAlone : Answer → Type 0
RefusesAlone x = x.status ≡ status.Refused → x.last ≡ None

abbrev alone : (x : Answer) → x.last ≡ None → RefusesAlone x
alone x none is = none

end-alone : (end : End) → end_status end ≡ status.Refused → ⊥
end-alone ends.Halted is = cc
end-alone ends.Budget is = cc
end-alone (ends.Trapped trap task pc) is = cc

told-alone : (k : Telling) (r : Ran) → (answer_by k r).status ≡ status.Refused → ⊥
told-alone telling.Output r is = end-alone r.end is
told-alone telling.Listing r is = cc
told-alone telling.Summary r is = cc

from-alone : (k : Telling) (m : Machine) (es : List ℕ) (steps : ℕ) → RefusesAlone (asked_from k m es steps)
from-alone k m es steps = go (full_at_load m)
  where
    go : (b : Bool) → RefusesAlone (if b then no_room else answer_by k (run m es steps))
    go true = λ is. refl
    go false = λ is. absurd (told-alone k (run m es steps) is)

pub refused-alone : (k : Telling) (r : Run) (files : Files) → RefusesAlone (asked_of_run k r files)
refused-alone k r files =
    file-each RefusesAlone alone file.Program (map.get files r.program) (λ bytes. object_asked bytes (λ o. with_program k r o files)) (λ bytes.
    object-each RefusesAlone alone (object_at bytes) (λ o. with_program k r o files) (λ o.
    schedule-each RefusesAlone alone r.schedule (length o.entries) files (λ es. with_schedule k r o es files) (λ es.
    input-each RefusesAlone alone r.input files (λ input. asked_from k (start o input r.capacity) es r.steps) (λ input.
    from-alone k (start o input r.capacity) es r.steps))))

leaves_early : {a b : HostState} {got : Status} {x : Answer} → IsEarly got → RefusesAlone x → Gives a b got x → Leaves got None x
leaves_early {got = status.Refused} early alone gives = record { whole = λ unbroken. sym (alone (sym (gives.whole unbroken).status)); broken = λ _. refl }
leaves_early {got = status.ReadFault} early alone gives = record { whole = λ unbroken. absurd (unbroken.no_read_fault refl); broken = λ _. refl }
leaves_early {got = status.WriteFault} early alone gives = record { whole = λ unbroken. absurd (unbroken.no_write_fault refl); broken = λ _. refl }
leaves_early {got = status.NoMemory} early alone gives = record { whole = λ unbroken. absurd (unbroken.some_memory refl); broken = λ _. refl }
leaves_early early alone gives = absurd early

pub leaves-early : (a b : HostState) (got : Status) (k : Telling) (r : Run) → IsEarly got → IfSome a.files (λ files. Gives a b got (asked_of_run k r files)) → IfSome a.files (λ files. Leaves got None (asked_of_run k r files))
leaves-early a b got k r early gives = if_some (λ files. Gives a b got (asked_of_run k r files)) (λ files. Leaves got None (asked_of_run k r files)) a.files gives (λ files given. leaves_early early (refused-alone k r files) given)

-- what is left by an answer is left by what is asked, where that is the answer
pub leaves-asked : {got : Status} {last : Option Machine} {x : Answer} (files : Option Files) (asks : Files → Answer) → IfSome files (λ fs. asks fs ≡ x) → Leaves got last x → IfSome files (λ fs. Leaves got last (asks fs))
leaves-asked {got = got} {last = last} {x = x} files asks is left = if_some (λ fs. asks fs ≡ x) (λ fs. Leaves got last (asks fs)) files is (λ fs same. subst (Leaves got last) (sym same) left)

pub early-other : {got : Status} → IsEarly got → got ≢ status.Usage
early-other {got = status.Usage} early is = absurd early
early-other early is = absurd cc

pub leaves-no_memory : {x : Answer} → Leaves status.NoMemory None x
leaves-no_memory = record { whole = λ unbroken. absurd (unbroken.some_memory refl); broken = λ _. refl }

-- memory was wanted before anything was read
pub serves-nothing : (a : HostState) (asks : Files → Answer) (Needs : Files → Type 0) → Serves a a status.NoMemory asks Needs
serves-nothing a asks Needs = serves-no_memory asks Needs (read-nothing a)

-- ---- what is left of a run

-- a status of a run tells no fault but a write fault, and want of memory
pub run-unbroken : {got : Status} → IsRunStatus got → got ≢ status.WriteFault → got ≢ status.NoMemory → IsUnbroken got
run-unbroken ran no_fault some = record { no_read_fault = λ is. absurd (subst IsRunStatus is ran); no_write_fault = no_fault; some_memory = some }

-- the machine that is left beside what was asked for changes nothing of what was told
pub fulfils-left : {a b : HostState} {got : Status} {x : Answer} (last : Option Machine) → Fulfils a b got x → Fulfils a b got (record x { last = last })
fulfils-left last p = record {
  gives = record {
    whole = λ unbroken. (let was = p.gives.whole unbroken in record { out = was.out; err = was.err; status = was.status });
    front = record { out = p.gives.front.out; err = p.gives.front.err };
  };
  no_read_fault = p.no_read_fault;
  read_faults = p.read_faults;
  write_fault = p.write_fault;
  no_memory = p.no_memory;
  in_time = p.in_time;
  sound = p.sound;
}

-- each answer of a run has the machine that it left
answer-last : (k : Telling) (r : Ran) → (answer_by k r).last ≡ Some r.last
answer-last telling.Output r = refl
answer-last telling.Listing r = refl
answer-last telling.Summary r = refl

pub leaves-run : {got : Status} {m : Machine} (k : Telling) (r : Ran) → IsUnbroken got → m ≡ r.last → Leaves got (Some m) (answer_by k r)
leaves-run k r unbroken is = record { whole = λ _. ap Some is ∙ sym (answer-last k r); broken = λ never. absurd (never unbroken) }

pub leaves-broken : {x : Answer} → Leaves status.WriteFault None x
leaves-broken = record { whole = λ unbroken. absurd (unbroken.no_write_fault refl); broken = λ _. refl }

-- the run by a schedule that was not begun
pub asked-run : (k : Telling) (m : Machine) (order : Order) (steps : ℕ) → order.last ≡ None → full_at_load m ≡ false → answer_by k (run_by m order steps) ≡ asked_from k m order.entries steps
asked-run k m order steps fresh room =
    ap (λ (l : Option ℕ). answer_by k (run_by m (record { entries = order.entries; last = l }) steps)) fresh
    ∙ ap (λ (b : Bool). if b then no_room else answer_by k (run m order.entries steps)) (sym room)

pub asked-full : (k : Telling) (m : Machine) (es : List ℕ) (steps : ℕ) → full_at_load m ≡ true → asked_from k m es steps ≡ no_room
asked-full k m es steps full = ap (λ (b : Bool). if b then no_room else answer_by k (run m es steps)) full

-- a refusal for want of room, in a store of this capacity
pub told-full : (o : Parts) (input : List ℕ) {n cap : ℕ} {e : OpenError} → n ≡ cap → e ≡ opens.Full → ToldBy e (full_at_load (start o input n)) → full_at_load (start o input cap) ≡ true
told-full o input {n} {cap} {e} same is told = ap (λ (k : ℕ). full_at_load (start o input k)) (sym same) ∙ subst (λ e. ToldBy e (full_at_load (start o input n))) is told
