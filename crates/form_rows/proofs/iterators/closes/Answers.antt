use Rattle.std.proofs.Common.{[], ◌∷◌, None, ap, arith}
use Rattle.hic_word.proofs.callers.Holds.{held_later}
use Rattle.ref_counts.proofs.Linked.{held_live, held_room, turned}
use Rattle.iter_regs.specs.Iters.{iter_words}
use Rattle.iter_regs.proofs.Passing.{first_stored, words_among, words_passed}
use Rattle.form_rows.proofs.iterators.closes.Goals as goal

pub attach_ref-requires-clause-held : goal.attach_ref-requires-clause-held
attach_ref-requires-clause-held g c = words_among (g.M.HoldCounts.memory c.array.new.mem) c.closed-reg.result [] (c.in_ok-root.root ∷ []) (ap iter_words c.closed-reg.ensures) c.in_ok-root.ensures

pub store-requires-clause-held : goal.store-requires-clause-held
store-requires-clause-held g c =
    let m = g.M.HoldCounts.memory c.array.new.mem in
    let n = g.M.HoldCounts.memory c.attach_ref.new.mem in
    let root = c.in_ok-root.root in
    let nothing = c.empty.result in
    words_among n c.attach_ref.new.self (nothing ∷ []) (root ∷ []) (ap iter_words c.attach_ref.ensures.open) (words_passed m n c.closed-reg.result c.attach_ref.new.self [] (nothing ∷ []) (root ∷ []) (ap iter_words c.closed-reg.ensures) (ap iter_words c.attach_ref.ensures.open) c.attach_ref.ensures.exchanges c.in_ok-root.ensures)

pub store-requires-clause-live : goal.store-requires-clause-live
store-requires-clause-live g c =
    let m = g.M.HoldCounts.memory c.array.new.mem in
    let n = g.M.HoldCounts.memory c.attach_ref.new.mem in
    let root = c.in_ok-root.root in
    let nothing = c.empty.result in
    held_live n (nothing ∷ []) root (turned n nothing root (words_passed m n c.closed-reg.result c.attach_ref.new.self [] (nothing ∷ []) (root ∷ []) (ap iter_words c.closed-reg.ensures) (ap iter_words c.attach_ref.ensures.open) c.attach_ref.ensures.exchanges c.in_ok-root.ensures))

pub store-requires-clause-room : goal.store-requires-clause-room
store-requires-clause-room g c =
    let m = g.M.HoldCounts.memory c.array.new.mem in
    let n = g.M.HoldCounts.memory c.attach_ref.new.mem in
    let root = c.in_ok-root.root in
    let nothing = c.empty.result in
    held_room n (nothing ∷ []) root (g.met.M.LineMem.sound c.attach_ref.new.mem) (turned n nothing root (words_passed m n c.closed-reg.result c.attach_ref.new.self [] (nothing ∷ []) (root ∷ []) (ap iter_words c.closed-reg.ensures) (ap iter_words c.attach_ref.ensures.open) c.attach_ref.ensures.exchanges c.in_ok-root.ensures)) (omega arith)

pub release-requires : goal.release-requires
release-requires g c =
    let m = g.M.HoldCounts.memory c.array.new.mem in
    let n = g.M.HoldCounts.memory c.attach_ref.new.mem in
    let root = c.in_ok-root.root in
    let nothing = c.empty.result in
    let k = g.M.HoldCounts.memory c.store.new.mem in
    (nothing ∷ root ∷ [], held_later k (root ∷ []) nothing (root ∷ []) (words_passed n k c.attach_ref.new.self c.store.new.self (nothing ∷ []) (nothing ∷ root ∷ []) (root ∷ []) (ap iter_words c.attach_ref.ensures.open) (first_stored c.attach_ref.new.self c.store.new.self None nothing root c.attach_ref.ensures.open c.in_ok-store.ensures.open) c.in_ok-store.ensures.exchanges (words_passed m n c.closed-reg.result c.attach_ref.new.self [] (nothing ∷ []) (root ∷ []) (ap iter_words c.closed-reg.ensures) (ap iter_words c.attach_ref.ensures.open) c.attach_ref.ensures.exchanges c.in_ok-root.ensures)))

pub close-requires : goal.close-requires
close-requires g c =
    let m = g.M.HoldCounts.memory c.array.new.mem in
    let n = g.M.HoldCounts.memory c.attach_ref.new.mem in
    let root = c.in_ok-root.root in
    let nothing = c.empty.result in
    let k = g.M.HoldCounts.memory c.store.new.mem in
    words_among (g.M.HoldCounts.memory c.release.new.mem) c.store.new.self (nothing ∷ root ∷ []) [] (first_stored c.attach_ref.new.self c.store.new.self None nothing root c.attach_ref.ensures.open c.in_ok-store.ensures.open)
    (c.release.ensures.exchanges.holds (nothing ∷ root ∷ []) (held_later k (root ∷ []) nothing (root ∷ []) (words_passed n k c.attach_ref.new.self c.store.new.self (nothing ∷ []) (nothing ∷ root ∷ []) (root ∷ []) (ap iter_words c.attach_ref.ensures.open) (first_stored c.attach_ref.new.self c.store.new.self None nothing root c.attach_ref.ensures.open c.in_ok-store.ensures.open) c.in_ok-store.ensures.exchanges (words_passed m n c.closed-reg.result c.attach_ref.new.self [] (nothing ∷ []) (root ∷ []) (ap iter_words c.closed-reg.ensures) (ap iter_words c.attach_ref.ensures.open) c.attach_ref.ensures.exchanges c.in_ok-root.ensures))))
