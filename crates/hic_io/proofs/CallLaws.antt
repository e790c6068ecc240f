-- Laws of host calls in a row, for what is built on a host.
use Rattle.std.proofs.Common.{◌≡◌, ℕ, ◌+◌, ◌-◌, ◌<◌, ◌≤◌, false, List, [], ◌++◌, length, take, drop, refl, sym, ◌∙◌, ap, subst, arith, length-append, length-drop, append_assoc, IsTrue, Option, Some, None}
use Rattle.std.proofs.lemmas.List.{append-nil, drop_all, take-append-le}
use Rattle.std.proofs.Math.Seq.{take-add, take-length, take-append-add}
use Rattle.std.specs.Io.KnownBytes.{append_known}
use Rattle.hic_io.specs.HostState.{HostState, IsCalm}
use Rattle.hic_io.specs.Calls.{Rose, IsCall, IsQuiet, Wrote, WroteTo}
use Rattle.hic_io.specs.Output.{WroteThenFailed, WrotePart, Puts, KeepsUnwritten}
use Rattle.hic_io.specs.declared.writing.Side.{Side}
use Rattle.hic_io.specs.declared.writing.Side.TheVariants.{Output, Error}

-- appending twice appends both
pub append_known-twice : (known : Option (List ℕ)) (xs ys : List ℕ) → append_known (append_known known xs) ys ≡ append_known known (xs ++ ys)
append_known-twice None xs ys = refl
append_known-twice (Some zs) xs ys = ap Some (append_assoc zs xs ys)

-- appending nothing changes nothing
pub append_known-nil : (known : Option (List ℕ)) → append_known known [] ≡ known
append_known-nil None = refl
append_known-nil (Some zs) = ap Some (append-nil zs)

-- without a call nothing changes
pub quiet-still : (s : HostState) → IsQuiet s s
quiet-still s = record { files = refl; read_faults = refl; write_faults = refl; sound = refl; in_time = λ calm. calm.in_time }

-- without a fault the host stays calm
pub calm-then : {a b : HostState} → IsQuiet a b → IsCalm a → IsCalm b
calm-then p calm = record { reads = p.read_faults ∙ calm.reads; writes = p.write_faults ∙ calm.writes; in_time = p.in_time calm }

-- calls without a fault, and then more of them
pub quiet-then : {a b c : HostState} → IsQuiet a b → IsQuiet b c → IsQuiet a c
quiet-then p q = record {
  files = q.files ∙ p.files;
  read_faults = q.read_faults ∙ p.read_faults;
  write_faults = q.write_faults ∙ p.write_faults;
  sound = q.sound ∙ p.sound;
  in_time = λ calm. q.in_time (calm-then p calm);
}

-- without a call nothing is written
pub wrote-still : (s : HostState) → Wrote s s [] []
wrote-still s = record { quiet = quiet-still s; left = refl; out = sym (append_known-nil s.out); err = sym (append_known-nil s.err); room = λ _. omega arith }

-- what is written in two parts is written, one part after the other
pub wrote-then : {a b c : HostState} {xs ys es fs : List ℕ} → Wrote a b xs es → Wrote b c ys fs → Wrote a c (xs ++ ys) (es ++ fs)
wrote-then {a = a} {b = b} {c = c} {xs = xs} {ys = ys} {es = es} {fs = fs} p q = record {
  quiet = quiet-then p.quiet q.quiet;
  left = q.left ∙ p.left;
  out = q.out ∙ ap (λ k. append_known k ys) p.out ∙ append_known-twice a.out xs ys;
  err = q.err ∙ ap (λ k. append_known k fs) p.err ∙ append_known-twice a.err es fs;
  room = λ sound.
      let first = p.room sound in
      let second = q.room (subst IsTrue (sym p.quiet.sound) sound) in
      omega (arith, first, second, length-append xs ys, length-append es fs);
}

-- one more piece at the front: what a call took of the bytes that were left
pub front_more : (bytes : List ℕ) (d n : ℕ) → d ≤ length bytes → take (d + n) bytes ≡ take d bytes ++ take n (take (length bytes - d) (drop d bytes))
front_more bytes d n le =
    let whole : take (length bytes - d) (drop d bytes) ≡ drop d bytes = ap (λ (m : ℕ). take m (drop d bytes)) (sym (length-drop d bytes)) ∙ take-length (drop d bytes) in
    take-add d n bytes ∙ ap (λ (ys : List ℕ). take d bytes ++ take n ys) (sym whole)

-- what one side takes in two parts it takes, one part after the other
pub wrote_to-then : (side : Side) {a b c : HostState} (xs ys : List ℕ) → WroteTo side a b xs → WroteTo side b c ys → WroteTo side a c (xs ++ ys)
wrote_to-then Output xs ys p q = wrote-then p q
wrote_to-then Error xs ys p q = wrote-then p q

-- of what was kept and then more, a part goes out that is longer than what went before
take-later : (gone kept rest : List ℕ) (count : ℕ) → count ≤ length kept → take (length gone + count) ((gone ++ kept) ++ rest) ≡ gone ++ take count kept
take-later gone kept rest count fits =
    ap (λ (xs : List ℕ). take (length gone + count) xs) (append_assoc gone kept rest) ∙ take-append-add gone (kept ++ rest) count
    ∙ ap (λ (xs : List ℕ). gone ++ xs) (take-append-le count kept rest fits)

-- a fault that comes while the kept bytes go out leaves a front of the whole written
pub part-later : {a b c : HostState} {xs kept : List ℕ} (whole rest : List ℕ) → Puts a b xs kept → WrotePart Output b c kept → whole ≡ xs ++ rest → WrotePart Output a c whole
part-later {a = a} {b = b} {c = c} {xs = xs} {kept = kept} whole rest p q is =
    let whole_is : whole ≡ (p.gone ++ kept) ++ rest = is ∙ ap (λ (ys : List ℕ). ys ++ rest) (sym p.split) in
    let fits : q.count ≤ length kept = omega (arith, q.short) in
    record {
      count = length p.gone + q.count;
      short = omega (arith, q.short, ap length whole_is, length-append (p.gone ++ kept) rest, length-append p.gone kept);
      front = record {
        before = q.front.before;
        wrote = subst (λ (ys : List ℕ). Wrote a q.front.before ys [])
            (sym (ap (λ (ys : List ℕ). take (length p.gone + q.count) ys) whole_is ∙ take-later p.gone kept rest q.count fits)) (wrote-then p.wrote q.front.wrote);
        call = q.front.call;
        fails = q.front.fails;
      };
      rose = subst (λ (n : ℕ). Rose n c.write_faults) p.wrote.quiet.write_faults q.rose;
    }

-- a write that failed after these bytes raised the count of write faults
pub failed-rose : (side : Side) {a b : HostState} (xs : List ℕ) (p : WroteThenFailed side a b xs) → Rose a.write_faults b.write_faults
failed-rose side {b = b} xs p = subst (λ (n : ℕ). Rose n b.write_faults) p.wrote.quiet.write_faults p.fails.rose

-- a front of what was kept went out, and the rest of it is still kept
pub keeps-rest : {a b : HostState} (kept : List ℕ) (count : ℕ) → count < length kept → WroteThenFailed Output a b (take count kept) → KeepsUnwritten a b kept [] (drop count kept)
keeps-rest {a = a} {b = b} kept count short p = record {
  part = record {
    count = count;
    short = omega (arith, short, length-append {A = ℕ});
    front = subst (λ (xs : List ℕ). WroteThenFailed Output a b (take count xs)) (sym (append-nil kept)) p;
    rose = failed-rose Output (take count kept) p;
  };
  keeps = refl;
}

-- where what was kept did not go out as a whole, nothing of what is put did
pub keeps-more : {a b : HostState} {kept now : List ℕ} (put : List ℕ) → KeepsUnwritten a b kept [] now → KeepsUnwritten a b kept put now
keeps-more {a = a} {b = b} {kept = kept} put p =
    let nothing = append-nil kept in
    let short : p.part.count < length kept = omega (arith, p.part.short, ap length nothing) in
    let fits : p.part.count ≤ length kept = omega (arith, short) in
    record {
      part = record {
        count = p.part.count;
        short = omega (arith, short, length-append kept put);
        front = subst (λ (xs : List ℕ). WroteThenFailed Output a b xs) (ap (λ (xs : List ℕ). take p.part.count xs) nothing ∙ sym (take-append-le p.part.count kept put fits)) p.part.front;
        rose = p.part.rose;
      };
      keeps = p.keeps;
    }

-- what was kept went out as a whole, and then a front of what is put
pub keeps-none : {a b c : HostState} (kept put : List ℕ) → Wrote a b kept [] → WrotePart Output b c put → KeepsUnwritten a c kept put []
keeps-none {a = a} {c = c} kept put p q = record {
  part = record {
    count = length kept + q.count;
    short = omega (arith, q.short, length-append kept put);
    front = record {
      before = q.front.before;
      wrote = subst (λ (xs : List ℕ). Wrote a q.front.before xs []) (sym (take-append-add kept put q.count)) (wrote-then p q.front.wrote);
      call = q.front.call;
      fails = q.front.fails;
    };
    rose = subst (λ (n : ℕ). Rose n c.write_faults) p.quiet.write_faults q.rose;
  };
  keeps = sym (drop_all (length kept + q.count) kept (omega arith));
}

-- where there is room for the whole, there is room for what is kept
pub room-kept : {a b : HostState} {xs kept : List ℕ} (whole rest : List ℕ) → Puts a b xs kept → whole ≡ xs ++ rest → IsTrue a.sound → length whole ≤ a.room → length kept ≤ b.room
room-kept {xs = xs} {kept = kept} whole rest p is sound room =
    let left = p.wrote.room sound in
    omega (arith, left, ap length is, length-append xs rest, ap length p.split, length-append p.gone kept)

-- a call of a calm host is not late
pub late-calm : {a b : HostState} → IsCall a b → IsCalm a → b.late ≡ false
late-calm {a = a} {b = b} call calm = rw (call.late, calm.in_time, calm.reads, calm.writes) refl

-- bytes are kept behind what was kept
pub puts-more : {a b : HostState} {xs kept : List ℕ} (ys : List ℕ) → Puts a b xs kept → Puts a b (xs ++ ys) (kept ++ ys)
puts-more {xs = xs} {kept = kept} ys p = record {
  gone = p.gone;
  split = sym (append_assoc p.gone kept ys) ∙ ap (λ (zs : List ℕ). zs ++ ys) p.split;
  wrote = p.wrote;
}

-- what is kept is put in turn, so both turns together put the whole
pub puts-then : {a b c : HostState} {xs ys zs : List ℕ} → Puts a b xs ys → Puts b c ys zs → Puts a c xs zs
puts-then {zs = zs} p q = record {
  gone = p.gone ++ q.gone;
  split = append_assoc p.gone q.gone zs ∙ ap (λ (ws : List ℕ). p.gone ++ ws) q.split ∙ p.split;
  wrote = wrote-then p.wrote q.wrote;
}

-- without a call, all that was kept is still kept
pub puts-still : (s : HostState) (kept : List ℕ) → Puts s s kept kept
puts-still s kept = record { gone = []; split = refl; wrote = wrote-still s }
