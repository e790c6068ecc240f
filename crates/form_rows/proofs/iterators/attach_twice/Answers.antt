use Rattle.std.proofs.Common.{[], ◌∷◌, Some, ◌∙◌, ap, arith}
use Rattle.ref_counts.proofs.Linked.{held_live, held_room}
use Rattle.iter_regs.specs.Iters.{iter_words}
use Rattle.iter_regs.proofs.Passing.{held_alone, held_for_both, words_among, words_passed}
use Rattle.iter_regs.proofs.Sought.{words_after_seek}
use Rattle.form_rows.proofs.iterators.attach_twice.Goals as goal

pub attach-requires-clause-held : goal.attach-requires-clause-held
attach-requires-clause-held g c = words_among (g.M.HoldCounts.memory c.args.mem.now) c.args.reg.now [] (c.args.root ∷ []) (ap iter_words c.requires.closed) c.requires.held

pub attach-requires-clause-live : goal.attach-requires-clause-live
attach-requires-clause-live g c = held_live (g.M.HoldCounts.memory c.args.mem.now) [] c.args.root c.requires.held

pub attach-requires-clause-room : goal.attach-requires-clause-room
attach-requires-clause-room g c = held_room (g.M.HoldCounts.memory c.args.mem.now) [] c.args.root (g.met.M.LineMem.sound c.args.mem.now) c.requires.held (omega arith)

pub release-requires : goal.release-requires
release-requires g c = (c.args.root ∷ [], held_for_both (g.M.HoldCounts.memory c.args.mem.now) (g.M.HoldCounts.memory c.attach.new.mem) c.args.reg.now c.attach.new.self (Some 3) c.args.root c.requires.closed c.attach.ensures.open c.attach.ensures.exchanges c.requires.held)

pub attach-requires-2-clause-held : goal.attach-requires-2-clause-held
attach-requires-2-clause-held g c =
    let m = g.M.HoldCounts.memory c.args.mem.now in
    let n = g.M.HoldCounts.memory c.attach.new.mem in
    let k = g.M.HoldCounts.memory c.release.new.mem in
    let alone = held_alone m n c.args.reg.now c.attach.new.self (Some 3) c.args.root c.requires.closed c.attach.ensures.open c.attach.ensures.exchanges c.requires.held k c.release.ensures.exchanges in
    words_among k c.seek.new.self (c.args.root ∷ []) [] (words_after_seek c.attach.new.self c.seek.new.self 9 c.seek.result c.seek.ensures ∙ ap iter_words c.attach.ensures.open) alone

pub attach-requires-2-clause-live : goal.attach-requires-2-clause-live
attach-requires-2-clause-live g c =
    let m = g.M.HoldCounts.memory c.args.mem.now in
    let n = g.M.HoldCounts.memory c.attach.new.mem in
    let k = g.M.HoldCounts.memory c.release.new.mem in
    held_live k [] c.args.root (held_alone m n c.args.reg.now c.attach.new.self (Some 3) c.args.root c.requires.closed c.attach.ensures.open c.attach.ensures.exchanges c.requires.held k c.release.ensures.exchanges)

pub attach-requires-2-clause-room : goal.attach-requires-2-clause-room
attach-requires-2-clause-room g c =
    let m = g.M.HoldCounts.memory c.args.mem.now in
    let n = g.M.HoldCounts.memory c.attach.new.mem in
    let k = g.M.HoldCounts.memory c.release.new.mem in
    held_room k [] c.args.root (g.met.M.LineMem.sound c.release.new.mem) (held_alone m n c.args.reg.now c.attach.new.self (Some 3) c.args.root c.requires.closed c.attach.ensures.open c.attach.ensures.exchanges c.requires.held k c.release.ensures.exchanges) (omega arith)

pub returns-clause-held : goal.returns-clause-held
returns-clause-held g c =
    let m = g.M.HoldCounts.memory c.args.mem.now in
    let n = g.M.HoldCounts.memory c.attach.new.mem in
    let k = g.M.HoldCounts.memory c.release.new.mem in
    let alone = held_alone m n c.args.reg.now c.attach.new.self (Some 3) c.args.root c.requires.closed c.attach.ensures.open c.attach.ensures.exchanges c.requires.held k c.release.ensures.exchanges in
    words_passed k (g.M.HoldCounts.memory c.attach-2.new.mem) c.seek.new.self c.attach-2.new.self (c.args.root ∷ []) (c.args.root ∷ []) []
    (words_after_seek c.attach.new.self c.seek.new.self 9 c.seek.result c.seek.ensures ∙ ap iter_words c.attach.ensures.open) (ap iter_words c.attach-2.ensures.open) c.attach-2.ensures.exchanges alone
