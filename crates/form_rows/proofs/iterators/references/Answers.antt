use Rattle.std.proofs.Common.{[], ◌∷◌, Some, ap, arith}
use Rattle.hic_word.proofs.callers.Holds.{among_after}
use Rattle.ref_counts.proofs.Linked.{held_live, held_room}
use Rattle.iter_regs.specs.Iters.{iter_words}
use Rattle.iter_regs.proofs.Passing.{first_stored, words_among, words_passed}
use Rattle.iter_regs.proofs.Sought.{held_after_seek, held_after_store}
use Rattle.form_rows.proofs.iterators.references.Goals as goal

pub store-requires-clause-room : goal.store-requires-clause-room
store-requires-clause-room g c = held_room (g.M.HoldCounts.memory c.attach_twice.new.mem) [] c.in_ok-root.root (g.met.M.LineMem.sound c.attach_twice.new.mem) c.in_ok-attached.ensures.held (omega arith)

pub store-requires-2-clause-held : goal.store-requires-2-clause-held
store-requires-2-clause-held g c =
    let m = g.M.HoldCounts.memory c.attach_twice.new.mem in
    let n = g.M.HoldCounts.memory c.store.new.mem in
    held_after_seek n c.store.new.self c.seek.new.self 7 c.seek.result c.seek.ensures
    (held_after_store m n c.attach_twice.new.reg c.store.new.self c.store.result c.store.ensures.exchanges c.store.ensures.unchanged (words_among m c.attach_twice.new.reg (c.in_ok-root.root ∷ []) [] (ap iter_words c.in_ok-attached.ensures.open) c.in_ok-attached.ensures.held))

pub store-requires-2-clause-live : goal.store-requires-2-clause-live
store-requires-2-clause-live g c =
    let m = g.M.HoldCounts.memory c.attach_twice.new.mem in
    let n = g.M.HoldCounts.memory c.store.new.mem in
    held_live n (c.in_ok-root.root ∷ []) c.in_ok-root.root (words_passed m n c.attach_twice.new.reg c.store.new.self (c.in_ok-root.root ∷ []) (c.in_ok-root.root ∷ c.in_ok-root.root ∷ []) [] (ap iter_words c.in_ok-attached.ensures.open) (first_stored c.attach_twice.new.reg c.store.new.self (Some 3) c.in_ok-root.root c.in_ok-root.root c.in_ok-attached.ensures.open c.in_ok-store.ensures.open) c.in_ok-store.ensures.exchanges c.in_ok-attached.ensures.held)

pub store-requires-2-clause-room : goal.store-requires-2-clause-room
store-requires-2-clause-room g c =
    let m = g.M.HoldCounts.memory c.attach_twice.new.mem in
    let n = g.M.HoldCounts.memory c.store.new.mem in
    held_room n (c.in_ok-root.root ∷ []) c.in_ok-root.root (g.met.M.LineMem.sound c.store.new.mem) (words_passed m n c.attach_twice.new.reg c.store.new.self (c.in_ok-root.root ∷ []) (c.in_ok-root.root ∷ c.in_ok-root.root ∷ []) [] (ap iter_words c.in_ok-attached.ensures.open) (first_stored c.attach_twice.new.reg c.store.new.self (Some 3) c.in_ok-root.root c.in_ok-root.root c.in_ok-attached.ensures.open c.in_ok-store.ensures.open) c.in_ok-store.ensures.exchanges c.in_ok-attached.ensures.held) (omega arith)

pub put-requires : goal.put-requires
put-requires g c =
    let m = g.M.HoldCounts.memory c.attach_twice.new.mem in
    let n = g.M.HoldCounts.memory c.store.new.mem in
    held_after_store n (g.M.HoldCounts.memory c.store-2.new.mem) c.seek.new.self c.store-2.new.self c.store-2.result c.store-2.ensures.exchanges c.store-2.ensures.unchanged
    (held_after_seek n c.store.new.self c.seek.new.self 7 c.seek.result c.seek.ensures
    (held_after_store m n c.attach_twice.new.reg c.store.new.self c.store.result c.store.ensures.exchanges c.store.ensures.unchanged (words_among m c.attach_twice.new.reg (c.in_ok-root.root ∷ []) [] (ap iter_words c.in_ok-attached.ensures.open) c.in_ok-attached.ensures.held)))

pub renew-requires-clause-held : goal.renew-requires-clause-held
renew-requires-clause-held g c = among_after (g.M.HoldCounts.memory c.put.new.mem) (g.M.HoldCounts.memory c.abort.new.mem) _ _ c.abort.ensures.exchanges.holds c.put.ensures
