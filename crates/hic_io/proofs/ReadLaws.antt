-- What reading a file piece by piece makes of the answer.
use Rattle.std.proofs.Common.{◌≡◌, ℕ, ◌+◌, ◌≤◌, List, ◌++◌, length, refl, sym, ◌∙◌, ap, inr, arith, append_assoc, Option, Some, None, Result, Ok, Err}
use Rattle.std.specs.Prelude.{IsErrAnd}
use Rattle.std.specs.Io.KnownBytes.{prepend_known}
use Rattle.hic_io.specs.HostState.{HostState}
use Rattle.hic_io.specs.Calls.{Took, IsCall, FailsToRead}
use Rattle.hic_io.specs.WholeFile.{ReadSoFar, ReadsFile}
use Rattle.hic_io.specs.declared.reading.ReadRefusal.TheVariants.{Fault, TooLong, OutOfMemory}
use Rattle.hic_io.proofs.CallLaws.{quiet-then}

-- bytes in front of bytes are both in front
prepend_known-twice : (known : Option (List ℕ)) (xs ys : List ℕ) → prepend_known xs (prepend_known ys known) ≡ prepend_known (xs ++ ys) known
prepend_known-twice None xs ys = refl
prepend_known-twice (Some zs) xs ys = ap Some (sym (append_assoc xs ys zs))

-- what was read, and then more of it
pub read-more : {a b c : HostState} {name xs : List ℕ} (ys : List ℕ) → ReadSoFar a b name xs → Took b c ys → ReadSoFar a c name (xs ++ ys)
read-more {c = c} {xs = xs} ys p q = record {
  middle = p.middle;
  opened = p.opened;
  took = record {
    quiet = quiet-then p.took.quiet q.quiet;
    left = p.took.left ∙ ap (λ k. prepend_known xs k) q.left ∙ prepend_known-twice c.left xs ys;
    out = q.out ∙ p.took.out;
    err = q.err ∙ p.took.err;
    room = q.room ∙ p.took.room;
  };
}

-- the error that a call was turned into
pub is_err : {T E : Type 0} (r : Result T E) (e : E) → IsErrAnd r (λ x. x ≡ e) → r ≡ Err e
is_err (Ok x) e is = absurd is
is_err (Err x) e is = ap Err is

module _ {A : Type 0} {old new : HostState} {name : List ℕ} (max : ℕ) (bytes : List ℕ) where
  pub reads-fault : {before : HostState} → length bytes ≤ max → ReadSoFar old before name bytes → IsCall before new → FailsToRead before new → ReadsFile {A = A} old new name max (Err Fault)
  reads-fault {before = before} short read call fails = record {
    bytes = bytes;
    most = omega arith;
    ok = tt;
    too_long = (λ is. absurd (cc is), λ long. absurd (omega arith));
    fault = λ _. record { before = before; read = inr read; call = call; fails = fails };
    no_fault = λ other. absurd (other refl);
  }

  pub reads-too_long : length bytes ≡ max + 1 → ReadSoFar old new name bytes → ReadsFile {A = A} old new name max (Err TooLong)
  reads-too_long long read = record {
    bytes = bytes;
    most = omega arith;
    ok = tt;
    too_long = (λ _. long, λ _. refl);
    fault = λ is. absurd (cc is);
    no_fault = λ _. read;
  }

  pub reads-no_memory : length bytes ≤ max → ReadSoFar old new name bytes → ReadsFile {A = A} old new name max (Err OutOfMemory)
  reads-no_memory short read = record {
    bytes = bytes;
    most = omega arith;
    ok = tt;
    too_long = (λ is. absurd (cc is), λ long. absurd (omega arith));
    fault = λ is. absurd (cc is);
    no_fault = λ _. read;
  }
