use Rattle.std.proofs.Common.{◌++◌, ◌∙◌, ap}
use Rattle.std.proofs.lemmas.Iterator.Adapters.{YieldsList-from_rev_slice}
use Rattle.std.proofs.lemmas.Iterator.Consumers.{YieldsList-end}
use Rattle.hic_list.proofs.Turning.{names_back}
use Rattle.hic_list.proofs.walk.wait_for.Goals as goal

pub returns : goal.returns
returns c =
    let all = YieldsList-end (YieldsList-from_rev_slice c.args.words.now cc) c.loop-word.yielded _ c.loop-word.yielded_by c.next.result _ c.in-None.is c.next.ensures.steps in
    c.loop-word.invariant ∙ ap (λ ns. c.args.waiting.now.items ++ ns) (names_back c.loop-word.yielded c.args.words.now all.0)
