use Rattle.std.proofs.Common.{◌≡◌, ℕ, ◌+◌, ◌<◌, List, length, drop, get_or, sym, ap, ◌∙◌, arith, add-one}
use Rattle.std.proofs.Math.Seq.{drop-cons}
use Rattle.std.proofs.lemmas.List.{drop_all}
use Rattle.hic_word.specs.declared.Word.{Word}
use Rattle.line_hash.specs.Hash.{hash, with_word, with_words}
use Rattle.line_hash.proofs.mix_words.Goals as goal

-- one word more is mixed in
next : (x y : ℕ) (words : List Word) (k : ℕ) (d : Word) → k < length words → y ≡ with_word x (get_or words k d) → with_words x (drop k words) ≡ hash words → with_words y (drop (k + 1) words) ≡ hash words
next x y words k d small e h = rw e (rw (add-one k) (ap (with_words x) (sym (drop-cons words k d small)) ∙ h))

pub loop-word-preserved : goal.loop-word-preserved
loop-word-preserved c = next c.loop-word.mixed _ c.args.words.now c.loop-word.word-index _ (omega arith) c.mix_word-mixed.ensures c.loop-word.invariant

pub returns : goal.returns
returns c = ap (with_words c.loop-word.mixed) (sym (drop_all c.loop-word.word-index c.args.words.now (omega arith))) ∙ c.loop-word.invariant
