use Rattle.std.proofs.Common.{◌≡◌, ◌<◌, ◌∙◌, length, refl, arith}
use Rattle.hic_word.specs.declared.Kind.TheVariants.{Num}
use Rattle.hic_word.specs.Stands.{word_of}
use Rattle.hic_word.proofs.callers.Holds.{among_after, exchanges_nothing, exchanges_then}
use Rattle.reg_file.proofs.Zeros.{size_before, zeros_all, zeros_next}
use Rattle.reg_file.proofs.RegFile.clear.Goals as goal

pub loop-r-init : goal.loop-r-init
loop-r-init g c = record {
  eight = λ none. absurd (omega (arith, none));
  words = refl;
  exchanges = exchanges_nothing (g.M.HoldCounts.memory c.args.mem.now) c.args.self.now;
  looks = refl;
}

pub set-requires-clause-held : goal.set-requires-clause-held
set-requires-clause-held g c = among_after (g.M.HoldCounts.memory c.args.mem.now) (g.M.HoldCounts.memory c.loop-r.mem) _ _ c.loop-r.invariant.exchanges.holds c.requires

pub loop-r-preserved : goal.loop-r-preserved
loop-r-preserved g c =
    let eight : length c.set.new.self ≡ 8 = c.set.ensures.eight in
    let size = size_before c.loop-r.self c.set.new.self c.loop-r.r 8 c.num.result c.set.ensures.words eight in
    let low : c.loop-r.r < length c.loop-r.self = omega (arith, size) in
    record {
      eight = λ some. eight;
      words = zeros_next c.loop-r.self c.set.new.self c.loop-r.r (word_of Num 0 0) c.num.result low c.loop-r.invariant.words c.num.ensures.value c.set.ensures.words;
      exchanges = exchanges_then c.loop-r.invariant.exchanges c.set.ensures.exchanges;
      looks = c.set.ensures.looks ∙ c.loop-r.invariant.looks;
    }

pub returns-clause-words : goal.returns-clause-words
returns-clause-words g c =
    let all : c.loop-r.r ≡ 8 = omega arith in
    zeros_all c.loop-r.self c.loop-r.r 8 (word_of Num 0 0) all (c.loop-r.invariant.eight (omega arith)) c.loop-r.invariant.words

pub returns-clause-exchanges : goal.returns-clause-exchanges
returns-clause-exchanges g c = c.loop-r.invariant.exchanges
