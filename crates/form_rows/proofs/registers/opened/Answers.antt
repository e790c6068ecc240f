use Rattle.std.proofs.Common.{[], ◌∷◌, None, ap, arith}
use Rattle.ref_counts.proofs.Linked.{held_live, held_room}
use Rattle.iter_regs.specs.Iters.{iter_words}
use Rattle.iter_regs.proofs.Passing.{held_for_both, words_among}
use Rattle.form_rows.proofs.Using.{usable_alone}
use Rattle.form_rows.proofs.registers.opened.Goals as goal

pub attach_ref-requires-clause-held : goal.attach_ref-requires-clause-held
attach_ref-requires-clause-held g c = words_among (g.M.HoldCounts.memory c.made.new.mem) c.closed-reg.result [] (c.in_ok-root.root ∷ []) (ap iter_words c.closed-reg.ensures) c.in_ok-root.ensures.held

pub attach_ref-requires-clause-live : goal.attach_ref-requires-clause-live
attach_ref-requires-clause-live g c = held_live (g.M.HoldCounts.memory c.made.new.mem) [] c.in_ok-root.root c.in_ok-root.ensures.held

pub attach_ref-requires-clause-room : goal.attach_ref-requires-clause-room
attach_ref-requires-clause-room g c = held_room (g.M.HoldCounts.memory c.made.new.mem) [] c.in_ok-root.root (g.met.M.LineMem.sound c.made.new.mem) c.in_ok-root.ensures.held (omega arith)

pub release-requires : goal.release-requires
release-requires g c = (c.in_ok-root.root ∷ [], held_for_both (g.M.HoldCounts.memory c.made.new.mem) (g.M.HoldCounts.memory c.attach_ref.new.mem) c.closed-reg.result c.attach_ref.new.self None c.in_ok-root.root c.closed-reg.ensures c.attach_ref.ensures.open c.attach_ref.ensures.exchanges c.in_ok-root.ensures.held)

pub returns : goal.returns
returns g c =
    let (A, stands) = c.in_ok-root.ensures.root in
    usable_alone (g.M.HoldCounts.memory c.made.new.mem) (g.M.HoldCounts.memory c.attach_ref.new.mem) (g.M.HoldCounts.memory c.release.new.mem) c.closed-reg.result c.attach_ref.new.self c.in_ok-root.root A
    c.closed-reg.ensures c.attach_ref.ensures.open c.attach_ref.ensures.exchanges c.release.ensures.exchanges c.in_ok-root.ensures.held stands
