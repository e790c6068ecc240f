use Rattle.std.proofs.Common.{Option, refl, sym, ◌∙◌, ap, subst, IsTrue}
use Rattle.std.specs.Prelude.{IfSome, codes, option_map}
use Rattle.command_line.specs.Asked.{Asked}
use Rattle.command_line.specs.Request.{request}
use Rattle.command_line.specs.Seen.{asked_of}
use Rattle.hicamp.specs.declared.status.Status.TheVariants as status
use Rattle.hicamp.specs.Asked.{asked, asked_of_request, answer_message}
use Rattle.hicamp.specs.Outcome.{Gives, Leaves, TellsNoFault, HasNamed, HasRoomFor}
use Rattle.hicamp.proofs.OutcomeLaws.{leaves-asked, leaves-none, of_all, serves-always}
use Rattle.hicamp.proofs.top.hicamp.Goals as goal

pub returns-in-Ok-None-clause-asked : goal.returns-in-Ok-None-clause-asked
unfolding asked
returns-in-Ok-None-clause-asked g c =
    let none = sym c.in-Ok-None.ensures.asked ∙ ap (option_map asked_of) c.in-Ok-None.field-0-is in
    (serves-always (answer_message (codes "usage") status.Usage) (asked c.args.words.now) (HasNamed (request c.args.words.now)) (λ files. ap (λ r. asked_of_request r files) none) c.report.ensures.fulfils).gives

pub returns-in-Ok-None-clause-last : goal.returns-in-Ok-None-clause-last
unfolding asked
returns-in-Ok-None-clause-last g c =
    let none = sym c.in-Ok-None.ensures.asked ∙ ap (option_map asked_of) c.in-Ok-None.field-0-is in
    leaves-asked {x = answer_message (codes "usage") status.Usage} (g.H.Host.state c.args.host.now).files (asked c.args.words.now)
    (of_all _ _ (λ files. ap (λ r. asked_of_request r files) none)) (leaves-none refl)

pub returns-in-Ok-None-clause-sound : goal.returns-in-Ok-None-clause-sound
unfolding asked
returns-in-Ok-None-clause-sound g c =
    let none = sym c.in-Ok-None.ensures.asked ∙ ap (option_map asked_of) c.in-Ok-None.field-0-is in
    (serves-always (answer_message (codes "usage") status.Usage) (asked c.args.words.now) (HasNamed (request c.args.words.now)) (λ files. ap (λ r. asked_of_request r files) none) c.report.ensures.fulfils).sound

pub returns-in-Ok-Some-clause-asked : goal.returns-in-Ok-Some-clause-asked
unfolding asked
returns-in-Ok-Some-clause-asked g c =
    let old = g.H.Host.state c.args.host.now in
    let new = g.H.Host.state c.serve.new.host in
    subst (λ (r : Option Asked). IfSome old.files (λ files. Gives old new c.serve.result.status (asked_of_request r files)))
    (ap (option_map asked_of) (sym c.in-Ok-Some.field-0-is) ∙ c.in-Ok-Some.ensures.asked) c.serve.ensures.serves.gives

pub returns-in-Ok-Some-clause-last : goal.returns-in-Ok-Some-clause-last
unfolding asked
returns-in-Ok-Some-clause-last g c =
    let old = g.H.Host.state c.args.host.now in
    subst (λ (r : Option Asked). IfSome old.files (λ files. Leaves c.serve.result.status (option_map (λ machine. machine.plain) c.serve.result.last) (asked_of_request r files)))
    (ap (option_map asked_of) (sym c.in-Ok-Some.field-0-is) ∙ c.in-Ok-Some.ensures.asked) c.serve.ensures.last

pub returns-in-Ok-Some-clause-sound : goal.returns-in-Ok-Some-clause-sound
unfolding asked
returns-in-Ok-Some-clause-sound g c =
    let old = g.H.Host.state c.args.host.now in
    subst (λ (r : Option Asked). IsTrue old.sound → IfSome old.files (λ files. HasNamed r files → HasRoomFor old (asked_of_request r files) → TellsNoFault c.serve.result.status))
    (ap (option_map asked_of) (sym c.in-Ok-Some.field-0-is) ∙ c.in-Ok-Some.ensures.asked) c.serve.ensures.serves.sound
