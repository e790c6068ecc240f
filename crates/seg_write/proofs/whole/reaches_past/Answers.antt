use Rattle.std.proofs.Common.{◌≢◌, ◌-◌, ◌^◌, ◌≤◌, Bool, IsTrue, true, false, not, length, sym, inl, inr, arith}
use Rattle.std.proofs.lemmas.Bool.{cases_lt}
use Rattle.hic_word.specs.declared.Kind.TheVariants.{Num}
use Rattle.hic_word.specs.Stands.{word_of}
use Rattle.seg_write.proofs.Covering.{last_is}
use Rattle.seg_write.proofs.whole.reaches_past.Goals as goal

not_both : (b : Bool) → IsTrue (not b) → IsTrue b → ⊥
not_both true n y = cc
not_both false n y = cc

pub returns-then-not-is_within-clause-past : goal.returns-then-not-is_within-clause-past
returns-then-not-is_within-clause-past c = λ some.
    let cs = c.args.changes.now in
    last_is (λ last. 4 ^ c.args.height ≤ last.0) cs (length cs - 1) c.in-Some.change.now (omega arith) (sym c.in-Some.ensures.value) (elim (cases_lt c.in-Some.change.now.0 (4 ^ c.args.height)) [
      | inl low ↦ let yes = c.is_within.ensures.1 low in let no = c.if-not-is_within.true in cc
      | inr past ↦ past
    ])

pub returns-then-not-is_within-clause-word : goal.returns-then-not-is_within-clause-word
returns-then-not-is_within-clause-word c = λ some.
    let cs = c.args.changes.now in
    last_is (λ last. last.1 ≢ word_of Num 0 0) cs (length cs - 1) c.in-Some.change.now (omega arith) (sym c.in-Some.ensures.value) (λ zero. not_both c.is_zero.result some (c.is_zero.ensures.word.1 zero))
