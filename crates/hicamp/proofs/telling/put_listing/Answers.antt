use Rattle.std.proofs.Common.{◌≡◌, ◌+◌, ◌≤◌, ◌++◌, ℕ, List, [], length, IsTrue, sym, ◌∙◌, ap, subst, arith}
use Rattle.std.proofs.lemmas.List.{append-nil}
use Rattle.std.proofs.lemmas.Result.{MatchResult-from_err}
use Rattle.hic_io.specs.Output.{Puts, WrotePart}
use Rattle.hic_io.specs.declared.writing.Side.TheVariants.{Output}
use Rattle.hic_list.specs.UnderWay.{lines_from, text_of}
use Rattle.hicamp.proofs.PieceLaws.{PutSoFar, on_err, on_ok, put-all, put-failed, put-more, put-none, put-room}
use Rattle.hicamp.proofs.telling.put_listing.Goals as goal

-- ---- the first lines

pub loop-number-init : goal.loop-number-init
loop-number-init g c =
    let P = c.args.machine.now.plain in
    let l = c.args.listing.now in
    let a = g.H.Host.state c.args.host.now in
    let start = put-none a c.make-out.result (text_of P l) c.make-out.ensures in
    put-more l.head (lines_from P 0) start (subst (λ (xs : List ℕ). Puts a (g.H.Host.state c.put.new.host) (c.make-out.result ++ xs) c.put.new.self) c.head.ensures c.in_ok-put.ensures.ok)

pub returns-in_err-put-clause-failed : goal.returns-in_err-put-clause-failed
returns-in_err-put-clause-failed g c =
    let P = c.args.machine.now.plain in
    let l = c.args.listing.now in
    let a = g.H.Host.state c.args.host.now in
    let start = put-none a c.make-out.result (text_of P l) c.make-out.ensures in
    let part = subst (λ (xs : List ℕ). WrotePart Output a (g.H.Host.state c.put.new.host) (c.make-out.result ++ xs)) c.head.ensures c.in_err-put.ensures.failed.part in
    MatchResult-from_err c.from_residual.result _ _ c.from_residual.ensures.0 (λ _. put-failed l.head (lines_from P 0) start part)

pub returns-in_err-put-clause-sound : goal.returns-in_err-put-clause-sound
returns-in_err-put-clause-sound g c sound room =
    let P = c.args.machine.now.plain in
    let l = c.args.listing.now in
    let a = g.H.Host.state c.args.host.now in
    let start = put-none a c.make-out.result (text_of P l) c.make-out.ensures in
    let enough = put-room l.head (lines_from P 0) start sound room in
    absurd (cc (c.in_err-put.ensures.sound sound (subst (λ (xs : List ℕ). length (c.make-out.result ++ xs) ≤ a.room) (sym c.head.ensures) enough)))

-- ---- a line

pub put_line-requires-clause-listing : goal.put_line-requires-clause-listing
put_line-requires-clause-listing g c = let (end, is) = c.requires in is.numbered

pub loop-number-preserved : goal.loop-number-preserved
loop-number-preserved g c =
    let P = c.args.machine.now.plain in
    let l = c.args.listing.now in
    let a = g.H.Host.state c.args.host.now in
    let b = g.H.Host.state c.loop-number.host in
    let line = c.put_line.new.line.items in
    let rest = lines_from P (c.loop-number.number + 1) in
    let next = subst (λ (left : List ℕ). PutSoFar a b c.loop-number.out (text_of P l) left) c.put_line.ensures.line c.loop-number.invariant in
    put-more line rest next (subst (λ (xs : List ℕ). Puts b (g.H.Host.state c.put-in-loop-number.new.host) (c.loop-number.out ++ xs) c.put-in-loop-number.new.self) c.as_slice.ensures.value c.in_ok-put-2.ensures.ok)

pub returns-in_err-put-2-clause-failed : goal.returns-in_err-put-2-clause-failed
returns-in_err-put-2-clause-failed g c =
    let P = c.args.machine.now.plain in
    let l = c.args.listing.now in
    let a = g.H.Host.state c.args.host.now in
    let b = g.H.Host.state c.loop-number.host in
    let line = c.put_line.new.line.items in
    let rest = lines_from P (c.loop-number.number + 1) in
    let next = subst (λ (left : List ℕ). PutSoFar a b c.loop-number.out (text_of P l) left) c.put_line.ensures.line c.loop-number.invariant in
    let part = subst (λ (xs : List ℕ). WrotePart Output b (g.H.Host.state c.put-in-loop-number.new.host) (c.loop-number.out ++ xs)) c.as_slice.ensures.value c.in_err-put-2.ensures.failed.part in
    MatchResult-from_err c.from_residual-in_err-put-2.result _ _ c.from_residual-in_err-put-2.ensures.0 (λ _. put-failed line rest next part)

pub returns-in_err-put-2-clause-sound : goal.returns-in_err-put-2-clause-sound
returns-in_err-put-2-clause-sound g c sound room =
    let P = c.args.machine.now.plain in
    let l = c.args.listing.now in
    let a = g.H.Host.state c.args.host.now in
    let b = g.H.Host.state c.loop-number.host in
    let line = c.put_line.new.line.items in
    let rest = lines_from P (c.loop-number.number + 1) in
    let next = subst (λ (left : List ℕ). PutSoFar a b c.loop-number.out (text_of P l) left) c.put_line.ensures.line c.loop-number.invariant in
    let enough = put-room line rest next sound room in
    absurd (cc (c.in_err-put-2.ensures.sound (subst IsTrue (sym c.loop-number.invariant.puts.wrote.quiet.sound) sound) (subst (λ (xs : List ℕ). length (c.loop-number.out ++ xs) ≤ b.room) (sym c.as_slice.ensures.value) enough)))

-- ---- the end

pub returns-clause-ok : goal.returns-clause-ok
returns-clause-ok g c =
    let P = c.args.machine.now.plain in
    let l = c.args.listing.now in
    let a = g.H.Host.state c.args.host.now in
    let b = g.H.Host.state c.loop-number.host in
    let (end, is) = c.requires in
    let last : c.loop-number.number ≡ length l.ids = omega (arith, c.loop-number-test.false, c.loop-number.auto.number-end, c.lines-number-end.ensures) in
    let done = subst (λ (left : List ℕ). PutSoFar a b c.loop-number.out (text_of P l) left) (ap (lines_from P) last ∙ is.ends) c.loop-number.invariant in
    on_ok c.flush.result (λ flushed. put-all done flushed.1) c.flush.ensures.ok

pub returns-clause-failed : goal.returns-clause-failed
returns-clause-failed g c =
    let P = c.args.machine.now.plain in
    let l = c.args.listing.now in
    let a = g.H.Host.state c.args.host.now in
    let b = g.H.Host.state c.loop-number.host in
    let (end, is) = c.requires in
    let last : c.loop-number.number ≡ length l.ids = omega (arith, c.loop-number-test.false, c.loop-number.auto.number-end, c.lines-number-end.ensures) in
    let done = subst (λ (left : List ℕ). PutSoFar a b c.loop-number.out (text_of P l) left) (ap (lines_from P) last ∙ is.ends) c.loop-number.invariant in
    on_err c.flush.result (λ kept. put-failed [] [] done kept.part) c.flush.ensures.failed

pub returns-clause-sound : goal.returns-clause-sound
returns-clause-sound g c sound room =
    let P = c.args.machine.now.plain in
    let l = c.args.listing.now in
    let a = g.H.Host.state c.args.host.now in
    let b = g.H.Host.state c.loop-number.host in
    let (end, is) = c.requires in
    let last : c.loop-number.number ≡ length l.ids = omega (arith, c.loop-number-test.false, c.loop-number.auto.number-end, c.lines-number-end.ensures) in
    let done = subst (λ (left : List ℕ). PutSoFar a b c.loop-number.out (text_of P l) left) (ap (lines_from P) last ∙ is.ends) c.loop-number.invariant in
    let enough = put-room [] [] done sound room in
    c.flush.ensures.sound (subst IsTrue (sym c.loop-number.invariant.puts.wrote.quiet.sound) sound) (subst (λ (xs : List ℕ). length xs ≤ b.room) (append-nil c.loop-number.out) enough)
