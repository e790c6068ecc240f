use Rattle.std.proofs.Common.{◌+◌, ◌∷◌, drop, ap, sym, ◌∙◌}
use Rattle.std.proofs.lemmas.List.{take_rest}
use Rattle.text_lines.specs.Pieces.{pieces}
use Rattle.text_lines.proofs.PieceLaws.{pieces-cut}
use Rattle.text_lines.proofs.next_piece.Goals as goal

pub returns-in-Some-clause-piece : goal.returns-in-Some-clause-piece
returns-in-Some-clause-piece c =
    pieces-cut c.args.text.now c.in-Some.end (sym c.in-Some.ensures.place)
    ∙ ap (λ piece. piece ∷ pieces (drop (c.in-Some.end + 1) c.args.text.now)) (sym c.without_return.ensures)
    ∙ ap (λ rest. c.without_return.result.now ∷ pieces rest) (sym (take_rest c.args.text.now (c.in-Some.end + 1)))
