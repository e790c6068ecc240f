use Rattle.std.proofs.Common.{[], ◌∷◌, Some, refl, sym, ◌∙◌, ap, subst, inl, inr, arith}
use Rattle.hic_word.proofs.callers.Holds.{fewer_keep}
use Rattle.ref_counts.proofs.Linked.{held_live, held_room}
use Rattle.iter_regs.specs.Iters.{iter_words}
use Rattle.iter_regs.proofs.Passing.{words_among, words_passed}
use Rattle.form_rows.specs.OneLine.{IsOneLine}
use Rattle.form_rows.proofs.Loading.{opened_usable, third_live, third_room}
use Rattle.form_rows.proofs.Rooting.{root_stays}
use Rattle.form_rows.proofs.loads.loads.Goals as goal

pub attach-requires-clause-held : goal.attach-requires-clause-held
attach-requires-clause-held g c = words_among (g.M.HoldCounts.memory c.args.mem.now) c.closed-reg.result [] (c.args.root ∷ c.args.changed ∷ []) (ap iter_words c.closed-reg.ensures) c.requires.held

pub attach-requires-clause-live : goal.attach-requires-clause-live
attach-requires-clause-live g c = held_live (g.M.HoldCounts.memory c.args.mem.now) (c.args.changed ∷ []) c.args.root c.requires.held

pub attach-requires-clause-room : goal.attach-requires-clause-room
attach-requires-clause-room g c = held_room (g.M.HoldCounts.memory c.args.mem.now) (c.args.changed ∷ []) c.args.root (g.met.M.LineMem.sound c.args.mem.now) c.requires.held (omega arith)

pub load_four-requires-clause-usable : goal.load_four-requires-clause-usable
load_four-requires-clause-usable g c =
    let m = g.M.HoldCounts.memory c.args.mem.now in
    let n = g.M.HoldCounts.memory c.attach.new.mem in
    let held_n = words_passed m n c.closed-reg.result c.attach.new.self [] (c.args.root ∷ []) (c.args.root ∷ c.args.changed ∷ []) (ap iter_words c.closed-reg.ensures) (ap iter_words c.attach.ensures.open) c.attach.ensures.exchanges c.requires.held in
    let (A, stands) = c.requires.root in
    opened_usable n c.attach.new.self (Some 3) c.args.root A (c.args.root ∷ c.args.changed ∷ []) c.attach.ensures.open held_n (root_stays m n (c.args.root ∷ c.args.root ∷ c.args.changed ∷ []) c.args.root A (fewer_keep m n c.attach.ensures.exchanges.lines) held_n (inl refl) stands)

pub load_four-requires-clause-line : goal.load_four-requires-clause-line
load_four-requires-clause-line g c = subst IsOneLine (sym c.attach.ensures.open) (refl, c.requires.height)

pub load_renewed-requires-clause-live : goal.load_renewed-requires-clause-live
load_renewed-requires-clause-live g c =
    let m = g.M.HoldCounts.memory c.args.mem.now in
    let n = g.M.HoldCounts.memory c.attach.new.mem in
    let held_n = words_passed m n c.closed-reg.result c.attach.new.self [] (c.args.root ∷ []) (c.args.root ∷ c.args.changed ∷ []) (ap iter_words c.closed-reg.ensures) (ap iter_words c.attach.ensures.open) c.attach.ensures.exchanges c.requires.held in
    let k = g.M.HoldCounts.memory c.load_aborted.new.mem in
    let words = c.load_four.ensures.words ∙ ap iter_words c.attach.ensures.open in
    let held_k = words_passed n k c.load_four.new.reg c.load_aborted.new.reg (c.args.root ∷ []) (c.args.root ∷ []) (c.args.root ∷ c.args.changed ∷ []) words (c.load_aborted.ensures.words ∙ words) c.load_aborted.ensures.exchanges held_n in
    third_live k c.args.root c.args.root c.args.changed held_k

pub load_renewed-requires-clause-room : goal.load_renewed-requires-clause-room
load_renewed-requires-clause-room g c =
    let m = g.M.HoldCounts.memory c.args.mem.now in
    let n = g.M.HoldCounts.memory c.attach.new.mem in
    let held_n = words_passed m n c.closed-reg.result c.attach.new.self [] (c.args.root ∷ []) (c.args.root ∷ c.args.changed ∷ []) (ap iter_words c.closed-reg.ensures) (ap iter_words c.attach.ensures.open) c.attach.ensures.exchanges c.requires.held in
    let k = g.M.HoldCounts.memory c.load_aborted.new.mem in
    let words = c.load_four.ensures.words ∙ ap iter_words c.attach.ensures.open in
    let held_k = words_passed n k c.load_four.new.reg c.load_aborted.new.reg (c.args.root ∷ []) (c.args.root ∷ []) (c.args.root ∷ c.args.changed ∷ []) words (c.load_aborted.ensures.words ∙ words) c.load_aborted.ensures.exchanges held_n in
    third_room k c.args.root c.args.root c.args.changed held_k (g.met.M.LineMem.sound c.load_aborted.new.mem)

pub load_renewed-requires-clause-root : goal.load_renewed-requires-clause-root
load_renewed-requires-clause-root g c =
    let m = g.M.HoldCounts.memory c.args.mem.now in
    let n = g.M.HoldCounts.memory c.attach.new.mem in
    let held_n = words_passed m n c.closed-reg.result c.attach.new.self [] (c.args.root ∷ []) (c.args.root ∷ c.args.changed ∷ []) (ap iter_words c.closed-reg.ensures) (ap iter_words c.attach.ensures.open) c.attach.ensures.exchanges c.requires.held in
    let k = g.M.HoldCounts.memory c.load_aborted.new.mem in
    let words = c.load_four.ensures.words ∙ ap iter_words c.attach.ensures.open in
    let held_k = words_passed n k c.load_four.new.reg c.load_aborted.new.reg (c.args.root ∷ []) (c.args.root ∷ []) (c.args.root ∷ c.args.changed ∷ []) words (c.load_aborted.ensures.words ∙ words) c.load_aborted.ensures.exchanges held_n in
    let (B, stands) = c.requires.changed in
    let all = c.args.root ∷ c.args.root ∷ c.args.changed ∷ [] in
    (B, root_stays n k all c.args.changed B (fewer_keep n k c.load_aborted.ensures.exchanges.lines) held_k (inr (inr (inl refl))) (root_stays m n all c.args.changed B (fewer_keep m n c.attach.ensures.exchanges.lines) held_n (inr (inr (inl refl))) stands))
