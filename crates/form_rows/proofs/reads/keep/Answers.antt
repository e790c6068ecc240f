use Rattle.std.proofs.Common.{ℕ, ◌+◌, ◌*◌, ◌^◌, ◌<◌, ◌∙◌, ap, subst}
use Rattle.hic_word.specs.declared.Kind.TheVariants.{RefNode}
use Rattle.hic_word.specs.declared.Word.{Word}
use Rattle.hic_word.specs.Stands.{word_of}
use Rattle.hic_word.proofs.callers.Holds.{interned_there}
use Rattle.seg_read.proofs.Examples.{five_root}
use Rattle.form_rows.proofs.reads.keep.Goals as goal

pub returns : goal.returns
returns g c =
    let there = interned_there (g.M.HoldCounts.memory c.args.mem.now) (g.M.HoldCounts.memory c.intern.new.self) _ c.in_ok-id.id c.in_ok-id.ensures.interned in
    let bits = ap (λ (w : Word). w.bits) c.node.ensures ∙ ap (λ (n : ℕ). n + 2 ^ 24 * 1 + 2 ^ 59 * 1) c.get.ensures.value in
    record {
      stands = five_root (g.M.HoldCounts.memory c.intern.new.self) c.in_ok-id.id _ _ _ _ _ (subst (λ n. n < 2 ^ 24) c.get.ensures.value c.get.ensures.below) there c.num.ensures.value c.num-2.ensures.value c.num-3.ensures.value c.num-4.ensures.value (ap (word_of RefNode 2) bits);
    }
