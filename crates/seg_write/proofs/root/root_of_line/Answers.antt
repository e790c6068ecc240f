use Rattle.std.proofs.Common.{Some, None, sym, ◌∙◌, ap}
use Rattle.hic_word.specs.Names.{named_id}
use Rattle.hic_word.specs.Memory.{Memory, line_at}
use Rattle.seg_write.proofs.LoneLines.{line_lone}
use Rattle.seg_write.proofs.Rooted.{given_up, lone_root, nothing_held, root_in, same_held, stored_rooted}
use Rattle.seg_write.proofs.root.root_of_line.Goals as goal

pub returns-in-Some-clause-held : goal.returns-in-Some-clause-held
returns-in-Some-clause-held g c = λ held h. nothing_held held (ap named_id c.root_with.ensures) (c.release.ensures.exchanges.holds held h)

pub returns-in-Some-clause-stands : goal.returns-in-Some-clause-stands
returns-in-Some-clause-stands g c = λ A f i. root_in (lone_root c.in-Some.pack f.is_part.valid (line_lone (Some c.in-Some.pack) c.line.result.w c.requires.top c.line.ensures.line c.in-Some.ensures f i) c.root_with.ensures)

pub returns-in-Some-clause-kept : goal.returns-in-Some-clause-kept
returns-in-Some-clause-kept g c = λ before held grew id line e.
    let same = given_up before (g.M.HoldCounts.memory c.args.mem.now) (g.M.HoldCounts.memory c.release.new.mem) c.args.part.entry held grew (g.met.M.LineMem.sound c.release.new.mem).keys c.release.ensures.exchanges.layout (c.release.ensures.exchanges.holds held grew.held_now) c.release.ensures.exchanges.lines in
    sym (ap (λ (m : Memory). line_at m id) same) ∙ e

pub returns-in-None-clause-held : goal.returns-in-None-clause-held
returns-in-None-clause-held g c = λ held h.
    let (A, f, i) = c.requires.line in
    let tall = line_lone None c.line.result.w c.requires.top c.line.ensures.line c.in-None.ensures f i in
    same_held held (sym (stored_rooted f (tall ∙ sym c.requires.top) i c.root_with-in-None.ensures).names) h

pub returns-in-None-clause-stands : goal.returns-in-None-clause-stands
returns-in-None-clause-stands g c = λ A f i.
    let tall = line_lone None c.line.result.w c.requires.top c.line.ensures.line c.in-None.ensures f i in
    root_in (stored_rooted f (tall ∙ sym c.requires.top) i c.root_with-in-None.ensures).root
