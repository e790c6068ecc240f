use Rattle.std.proofs.Common.{None, Some, sym, ◌∙◌}
use Rattle.hic_word.specs.Values.{array}
use Rattle.hic_plain.specs.Iters.{attached}
use Rattle.hic_plain.specs.Turns.{reg}
use Rattle.hic_plain.proofs.RowLaws.{openr_of, openr_type}
use Rattle.hic_task.proofs.IterRows.{attached_for, held_at, is_nothing, is_there, place, put_row, word_live, word_room}
use Rattle.hic_task.proofs.Ready.{root_in}
use Rattle.hic_task.proofs.Rows.{number_told, reference_told, trapped}
use Rattle.hic_task.proofs.task.Task.openr.Goals as goal

pub returns-then-is_some-clause-row : goal.returns-then-is_some-clause-row
returns-then-is_some-clause-row g c = trapped (λ P t T can.
    let m = g.M.HoldCounts.memory c.args.mem.now in
    let (n, is) = is_there c.number.result (sym c.is_some.ensures ∙ c.if-is_some.true) in
    openr_type P t T c.args.a c.args.b n (number_told (reg T c.args.b) n (sym (c.number.ensures m (reg T c.args.b) (c.word-word.ensures m P t T can)) ∙ is)))

pub attach_ref-requires-clause-held : goal.attach_ref-requires-clause-held
attach_ref-requires-clause-held g c = held_at (place c.get.result c.index-self-get.result c.requires c.get.ensures.number c.get.ensures.bound)

pub attach_ref-requires-clause-live : goal.attach_ref-requires-clause-live
attach_ref-requires-clause-live g c = word_live c.requires c.args.b c.word-word.result (c.word-word.ensures (g.M.HoldCounts.memory c.args.mem.now))

pub attach_ref-requires-clause-room : goal.attach_ref-requires-clause-room
attach_ref-requires-clause-room g c = word_room c.requires c.args.b c.word-word.result (c.word-word.ensures (g.M.HoldCounts.memory c.args.mem.now)) (g.met.M.LineMem.sound c.args.mem.now)

pub returns-clause-row : goal.returns-clause-row
returns-clause-row g c =
    let m = g.M.HoldCounts.memory c.args.mem.now in
    let p = place c.get.result c.index-self-get.result c.requires c.get.ensures.number c.get.ensures.bound in
    put_row p c.attach_ref.new.self c.attach_ref.ensures.exchanges (λ P t T can.
    let word = c.word-word.ensures m P t T can in
    let (H, is) = reference_told (reg T c.args.b) (sym (c.number.ensures m (reg T c.args.b) word) ∙ is_nothing c.number.result (sym c.is_some.ensures ∙ c.if-is_some.false)) in
    (Some (attached None (array H)), attached_for None c.attach_ref.ensures.open (root_in can c.args.b c.word-word.result H word is), openr_of P t T c.args.a c.args.b H is))
