use Rattle.std.proofs.Common.{[], sym, ap, subst}
use Rattle.hic_word.specs.Holds.{Holds}
use Rattle.hic_word.specs.Memory.{Memory, width}
use Rattle.hic_word.proofs.callers.Holds.{empty_memory_holds_nothing}
use Rattle.hic_plain.specs.Machine.{start}
use Rattle.hicamp.specs.Outcome.{Fulfils}
use Rattle.hicamp.proofs.OutcomeLaws.{asked-full, fulfils-no_memory, told-full}
use Rattle.hicamp.proofs.top.run_object.Goals as goal

pub returns-in_default-clause-fulfils : goal.returns-in_default-clause-fulfils
returns-in_default-clause-fulfils g c = fulfils-no_memory _ _

pub make-requires-2 : goal.make-requires-2
make-requires-2 g c = subst (λ (m : Memory). Holds (width m) m []) (sym c.in-Ok.ensures) (empty_memory_holds_nothing _ _)

pub returns-in-Err-Full-clause-fulfils : goal.returns-in-Err-Full-clause-fulfils
returns-in-Err-Full-clause-fulfils g c =
    let cap = ap (λ (m : Memory). m.layout.cap) c.in-Ok.ensures in
    let full = told-full c.args.object c.args.input.items cap c.in-Err-Full.field-0-is c.in-Err-Full.ensures.room in
    subst (Fulfils (g.H.Host.state c.args.host.now) (g.H.Host.state c.report.new.host) c.report.result) (sym (asked-full c.args.terms.telling (start c.args.object c.args.input.items c.args.terms.capacity) c.args.schedule.entries c.args.terms.steps full)) c.report.ensures.fulfils
