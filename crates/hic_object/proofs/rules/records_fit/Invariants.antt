use Rattle.std.proofs.Common.{None, drop}
use Rattle.std.specs.List.{AllByRecursion}
use Rattle.hic_object.specs.Parts.{IsRecord, AreRecords}
use Rattle.hic_object.proofs.rules.records_fit.Given as goal

abbrev pub invariant-loop-word : goal.invariant-loop-word
invariant-loop-word l = record {
  all : AreRecords l.segments l.before (drop l.word-index l.words) → AreRecords l.segments None l.words;
  left : AreRecords l.segments None l.words → AreRecords l.segments l.before (drop l.word-index l.words);
  numbers : AllByRecursion IsRecord (drop l.word-index l.words) → AllByRecursion IsRecord l.words;
}
