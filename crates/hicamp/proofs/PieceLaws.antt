-- Bytes that are put on the output piece by piece.
use Rattle.std.proofs.Common.{◌≡◌, ◌+◌, ◌≤◌, ℕ, List, [], ◌++◌, length, IsTrue, sym, ◌∙◌, ap, subst, append_assoc}
use Rattle.std.specs.Prelude.{Err, Ok, OnErr, OnOk, Result}
use Rattle.std.proofs.lemmas.List.{append-nil}
use Rattle.hic_io.specs.Calls.{Wrote}
use Rattle.hic_io.specs.HostState.{HostState}
use Rattle.hic_io.specs.Output.{Puts, WrotePart}
use Rattle.hic_io.specs.declared.writing.Side.TheVariants.{Output}
use Rattle.hic_io.proofs.CallLaws.{part-later, puts-more, puts-still, puts-then, room-kept, wrote-then}

-- of the whole a front was put, of which some is kept, and the rest is left
pub record PutSoFar (a b : HostState) (kept whole rest : List ℕ) : Type 0 where
  pub so_far : List ℕ
  pub is : whole ≡ so_far ++ rest
  pub puts : Puts a b so_far kept

pub put-none : (s : HostState) (kept whole : List ℕ) → kept ≡ [] → PutSoFar s s kept whole whole
put-none s kept whole none = record { so_far = kept; is = ap (λ (xs : List ℕ). xs ++ whole) (sym none); puts = puts-still s kept }

module _ {a b : HostState} {kept whole : List ℕ} (piece rest : List ℕ) (p : PutSoFar a b kept whole (piece ++ rest)) where
  split : whole ≡ (p.so_far ++ piece) ++ rest
  split = p.is ∙ sym (append_assoc p.so_far piece rest)

  -- a piece more is put
  pub put-more : {c : HostState} {now : List ℕ} → Puts b c (kept ++ piece) now → PutSoFar a c now whole rest
  put-more q = record { so_far = p.so_far ++ piece; is = split; puts = puts-then (puts-more piece p.puts) q }

  -- a write failed where a piece more was put
  pub put-failed : {c : HostState} → WrotePart Output b c (kept ++ piece) → WrotePart Output a c whole
  put-failed q = part-later whole rest (puts-more piece p.puts) q split

  -- where there is room for the whole, there is room for a piece more
  pub put-room : IsTrue a.sound → length whole ≤ a.room → length (kept ++ piece) ≤ b.room
  put-room sound room = room-kept whole rest (puts-more piece p.puts) split sound room

-- with nothing left, what is kept goes out
pub put-all : {a b c : HostState} {kept whole : List ℕ} → PutSoFar a b kept whole [] → Wrote b c kept [] → Wrote a c whole []
put-all {a = a} {c = c} p q = subst (λ (xs : List ℕ). Wrote a c xs []) (p.puts.split ∙ sym (p.is ∙ append-nil p.so_far)) (wrote-then p.puts.wrote q)

-- ---- what an answer tells

pub on_ok : {T E P Q : Type 0} (r : Result T E) → (Q → P) → OnOk r Q → OnOk r P
on_ok (Ok x) f h = f h
on_ok (Err e) f h = h

pub on_err : {T E P Q : Type 0} (r : Result T E) → (Q → P) → OnErr r Q → OnErr r P
on_err (Ok x) f h = h
on_err (Err e) f h = f h
