use Rattle.std.proofs.Common.{◌≡◌, sym, ◌∙◌, ap, drop, []}
use Rattle.std.proofs.lemmas.List.{drop_all}
use Rattle.std.specs.Ordering.{nat_cmp}
use Rattle.std.specs.Cmp.Lexicographic.{slice_cmp}
use Rattle.std.specs.FinMap as map
use Rattle.hic_io.specs.MemFiles.{files_of}
use lib.Dec.{eqb}
use lib.Pointwise.{pointwise}
use Rattle.hic_io.proofs.FileLaws.{passed, found}
use Rattle.hic_io.proofs.mem_files.find.Goals as goal

pub returns-then-eq : goal.returns-then-eq
returns-then-eq c = record {
  found = found c.args.files.now c.args.name.now c.loop-i.i c.index-files-i.result c.loop-i-test.true c.index-files-i.is
      (ap (λ t. pointwise eqb t c.args.name.now) (sym c.as_str.ensures.value) ∙ sym c.if-eq.ensures) c.loop-i.invariant;
}

pub loop-i-preserved : goal.loop-i-preserved
loop-i-preserved c =
    passed c.args.files.now c.args.name.now c.loop-i.i c.index-files-i.result c.loop-i-test.true c.index-files-i.is
    (ap (λ t. pointwise eqb t c.args.name.now) (sym c.as_str.ensures.value) ∙ sym c.if-eq.ensures) c.loop-i.invariant

pub returns : goal.returns
returns c =
    let all : drop c.loop-i.i c.args.files.now ≡ [] = drop_all c.loop-i.i c.args.files.now c.loop-i-test.false in
    record { found = sym c.loop-i.invariant ∙ ap (λ fs. map.get (files_of fs) c.args.name.now) all ∙ map.get-empty (slice_cmp nat_cmp) c.args.name.now }
