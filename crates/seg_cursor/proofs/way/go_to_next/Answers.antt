use Rattle.std.proofs.Common.{Some, arith}
use Rattle.hic_word.specs.Memory.{line_at}
use Rattle.seg_canon.proofs.Filling.{zero_value, zero_word}
use Rattle.seg_read.proofs.Rooting.{root_low}
use Rattle.seg_read.proofs.Seeking.{found_next}
use Rattle.seg_cursor.proofs.Nexts.{here_found, here_kept, kept_past, looks_past, near_past, next_past, walks_looks, walks_near}
use Rattle.seg_cursor.proofs.Walking.{zero_at_way}
use Rattle.seg_cursor.proofs.way.go_to_next.Goals as goal

pub go_past-requires-clause-low : goal.go_past-requires-clause-low
go_past-requires-clause-low g c = root_low c.requires.1

pub go_past-requires-clause-kept : goal.go_past-requires-clause-kept
go_past-requires-clause-kept g c =
    let (A, r, kept) = c.requires in
    (c.args.root, A, zero_at_way c.go_to-end.result.1 r (c.go_to-end.ensures.kept A r kept) (zero_value (c.go_to-end.ensures.word A r kept) (c.is_zero.ensures.word.0 c.if-is_zero.true)))

pub returns-then-is_zero-clause-next : goal.returns-then-is_zero-clause-next
returns-then-is_zero-clause-next g c = λ A r kept.
    let z = zero_at_way c.go_to-end.result.1 r (c.go_to-end.ensures.kept A r kept) (zero_value (c.go_to-end.ensures.word A r kept) (c.is_zero.ensures.word.0 c.if-is_zero.true)) in
    next_past (g.M.HoldCounts.memory c.args.mem.now) c.args.root A c.go_past.new.lines c.go_to-end.result.1 c.args.root.height c.args.offset c.go_to-end.new.steps c.go_past.new.steps c.go_past.result r.valid (c.go_past.ensures c.args.root A z)

pub returns-then-is_zero-clause-kept : goal.returns-then-is_zero-clause-kept
returns-then-is_zero-clause-kept g c = λ A r kept.
    let z = zero_at_way c.go_to-end.result.1 r (c.go_to-end.ensures.kept A r kept) (zero_value (c.go_to-end.ensures.word A r kept) (c.is_zero.ensures.word.0 c.if-is_zero.true)) in
    kept_past (g.M.HoldCounts.memory c.args.mem.now) c.args.root A c.go_past.new.lines c.go_to-end.result.1 c.args.root.height c.args.offset c.go_to-end.new.steps c.go_past.new.steps c.go_past.result (c.go_past.ensures c.args.root A z)

pub returns-then-is_zero-clause-looks : goal.returns-then-is_zero-clause-looks
returns-then-is_zero-clause-looks g c =
    let (A, r, kept) = c.requires in
    let z = zero_at_way c.go_to-end.result.1 r (c.go_to-end.ensures.kept A r kept) (zero_value (c.go_to-end.ensures.word A r kept) (c.is_zero.ensures.word.0 c.if-is_zero.true)) in
    looks_past (g.M.HoldCounts.memory c.args.mem.now) c.args.root A c.go_past.new.lines c.go_to-end.result.1 c.args.root.height c.args.offset c.go_to-end.new.steps c.go_past.new.steps c.args.last c.args.steps.now c.go_past.result (c.go_to-end.ensures.walk A r kept) (c.go_past.ensures c.args.root A z)

pub returns-then-is_zero-clause-near : goal.returns-then-is_zero-clause-near
returns-then-is_zero-clause-near g c = λ p last from next.
    let (A, r, kept) = c.requires in
    let z = zero_at_way c.go_to-end.result.1 r (c.go_to-end.ensures.kept A r kept) (zero_value (c.go_to-end.ensures.word A r kept) (c.is_zero.ensures.word.0 c.if-is_zero.true)) in
    near_past (g.M.HoldCounts.memory c.args.mem.now) c.args.root A c.go_past.new.lines c.go_to-end.result.1 c.args.root.height c.args.offset c.go_to-end.new.steps c.go_past.new.steps c.args.last c.args.steps.now p c.go_past.result (c.go_to-end.ensures.walk A r kept) (c.go_past.ensures c.args.root A z) last from next

pub returns-else-is_zero-clause-next : goal.returns-else-is_zero-clause-next
returns-else-is_zero-clause-next g c = λ A r kept.
    let word = c.go_to-end.ensures.word A r kept in
    found_next (g.M.HoldCounts.memory c.args.mem.now) A c.args.offset (Some (c.args.offset, c.go_to-end.result.0)) r.valid (here_found {A = A} {i = c.args.offset} word (λ e. let yes = c.is_zero.ensures.word.1 (zero_word word e) in let no = c.if-is_zero.false in cc))

pub returns-else-is_zero-clause-kept : goal.returns-else-is_zero-clause-kept
returns-else-is_zero-clause-kept g c = λ A r kept.
    let word = c.go_to-end.ensures.word A r kept in
    here_kept (line_at (g.M.HoldCounts.memory c.args.mem.now)) c.args.root A c.go_to-end.new.lines c.go_to-end.result.1 c.args.offset (c.go_to-end.ensures.kept A r kept) (λ e. let yes = c.is_zero.ensures.word.1 (zero_word word e) in let no = c.if-is_zero.false in cc)

pub returns-else-is_zero-clause-looks : goal.returns-else-is_zero-clause-looks
returns-else-is_zero-clause-looks g c =
    let (A, r, kept) = c.requires in
    let way = walks_looks A c.args.root.height c.args.last c.args.offset c.go_to-end.result.1 c.args.steps.now c.go_to-end.new.steps (c.go_to-end.ensures.walk A r kept) in
    let more = way.0 in
    let most = way.1 in
    (more, omega (arith, most))

pub returns-else-is_zero-clause-near : goal.returns-else-is_zero-clause-near
returns-else-is_zero-clause-near g c = λ p last from next.
    let (A, r, kept) = c.requires in
    walks_near A c.args.root.height c.args.last c.args.offset c.go_to-end.result.1 c.args.steps.now c.go_to-end.new.steps p (c.go_to-end.ensures.walk A r kept) last
