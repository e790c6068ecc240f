use Rattle.hic_object.specs.Parts.{parts}
use Rattle.hic_object.proofs.Written.{is_spelled}
use Rattle.hic_object.proofs.writing.spell.Goals as goal

pub returns : goal.returns
returns c =
    is_spelled (parts c.args.entries.now c.args.kinds.now c.args.words.now c.args.code.now) _ _ _ _ _ _
    c.in_ok-out.ensures.items c.in_ok-put_head.ensures c.in_ok-put_entries.ensures c.in_ok-put_kinds.ensures c.in_ok-put_words.ensures c.in_ok-put_code.ensures
