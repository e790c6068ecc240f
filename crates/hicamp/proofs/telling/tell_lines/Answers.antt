use Rattle.std.proofs.Common.{◌≡◌, ℕ, List, Some, ◌∙◌, ap, subst}
use Rattle.hic_list.specs.Listing.{listing}
use Rattle.hic_list.specs.UnderWay.{text_of}
use Rattle.hicamp.specs.Asked.{answer_bytes}
use Rattle.hicamp.specs.Outcome.{Fulfils}
use Rattle.hicamp.specs.Running.{run_by}
use Rattle.hicamp.proofs.OutcomeLaws.{fulfils-left, fulfils-no_memory}
use Rattle.hicamp.proofs.telling.tell_lines.Goals as goal

pub write_listing-requires : goal.write_listing-requires
write_listing-requires g c = (c.drop_run-end.result, c.in-Ok.ensures.listing)

pub returns-in-Ok-clause-fulfils : goal.returns-in-Ok-clause-fulfils
returns-in-Ok-clause-fulfils g c =
    let r = run_by c.args.machine.now.plain c.args.schedule c.args.most in
    let m = c.drop_run-end.new.machine.plain in
    let is : text_of m c.in-Ok.listing ≡ listing r.last r.end =
    c.in-Ok.ensures.listing.whole ∙ ap (λ m. listing m c.drop_run-end.result) c.drop_run-end.ensures.last ∙ ap (listing r.last) c.drop_run-end.ensures.end in
    fulfils-left (Some r.last) (subst (λ (bytes : List ℕ). Fulfils (g.H.Host.state c.args.host.now) (g.H.Host.state c.write_listing.new.host) c.write_listing.result (answer_bytes bytes)) is c.write_listing.ensures.fulfils)

pub returns-in-Err-clause-fulfils : goal.returns-in-Err-clause-fulfils
returns-in-Err-clause-fulfils g c = fulfils-no_memory _ _
