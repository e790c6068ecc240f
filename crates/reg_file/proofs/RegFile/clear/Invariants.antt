use Rattle.std.proofs.Common.{◌≡◌, ◌<◌, length, take, replicate}
use Rattle.hic_word.specs.declared.Kind.TheVariants.{Num}
use Rattle.hic_word.specs.Exchanges.{Exchanges}
use Rattle.hic_word.specs.Stands.{word_of}
use Rattle.reg_file.proofs.RegFile.clear.Given as goal

abbrev pub invariant-loop-r : goal.invariant-loop-r
invariant-loop-r g l = record {
  eight : 0 < l.r → length l.self ≡ 8;
  words : take l.r l.self ≡ replicate l.r (word_of Num 0 0);
  exchanges : Exchanges (g.M.HoldCounts.memory l.initial.mem) (g.M.HoldCounts.memory l.mem) l.initial.self l.self;
  looks : l.steps ≡ l.initial.steps;
}
