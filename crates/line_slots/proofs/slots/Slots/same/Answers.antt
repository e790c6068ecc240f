use Rattle.std.proofs.Common.{refl, ap, ◌∙◌, sym, Some}
use Rattle.std.proofs.lemmas.Option.{slice_get_read}
use Rattle.hic_word.specs.declared.Line.{Line}
use Rattle.line_slots.proofs.Filling.{head_same, same_words}
use Rattle.line_slots.proofs.ListCalls.{line_here, taken_index}
use Rattle.line_slots.proofs.slots.Slots.same.Goals as goal

pub returns-clause-same : goal.returns-clause-same
returns-clause-same g c =
    let low = taken_index c.self.inside.records.items c.self.inside.free c.self.inside.dead c.self.inside.slots _ c.args.slot _ c.self.invariant c.self.view_is c.requires in
    let there =
    line_here c.self.inside.records.items c.self.inside.free c.self.inside.dead c.self.inside.slots _ c.args.slot _ c.self.invariant c.self.view_is c.index.result.now (slice_get_read c.self.inside.records.items _ c.args.slot c.index.result.now refl low c.index.ensures) low c.requires
    ∙ ap (λ (line : Line _). Some line) (sym c.line.ensures) in (
      (λ t. there ∙ ap (λ (line : Line _). Some line) (same_words c.line.result c.args.line.now (c.same_line.ensures.0 t))),
      (λ e. c.same_line.ensures.1 (ap (λ (line : Line _). line.w) (head_same _ _ (sym there ∙ e)))),
    )
