use Rattle.std.proofs.Common.{sym, ◌∙◌}
use Rattle.std.proofs.lemmas.Bool.{eqb-false}
use Rattle.text_lines.proofs.PieceLaws.{pieces-one}
use Rattle.text_lines.proofs.last_piece.Goals as goal

pub returns-clause-piece : goal.returns-clause-piece
returns-clause-piece c = pieces-one c.args.text.now c.without_return-piece.result.now c.requires c.without_return-piece.ensures (eqb-false _ 0 (sym c.is_empty.ensures ∙ c.if-is_empty.false))
