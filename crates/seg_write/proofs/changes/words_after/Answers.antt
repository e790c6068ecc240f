use Rattle.std.proofs.Common.{◌≡◌, ℕ, ◌+◌, ◌-◌, suc, get_or, set, take, subst, arith}
use Rattle.std.proofs.lemmas.List.{take_all}
use Rattle.std.proofs.lemmas.Option.{slice_get-get_or}
use Rattle.hic_word.specs.declared.Kind.TheVariants.{Num}
use Rattle.hic_word.specs.Parts.{values}
use Rattle.hic_word.specs.declared.Word.{Word}
use Rattle.hic_word.specs.Stands.{WordsFor, word_of}
use Rattle.seg_write.specs.Puts.{put_at}
use Rattle.seg_write.proofs.Changing.{changes_long, put_next}
use Rattle.seg_write.proofs.Covering.{offset_below}
use Rattle.seg_write.proofs.Cutting.{offset_from}
use Rattle.seg_write.proofs.changes.words_after.Goals as goal

pub overflow_sub-after : goal.overflow_sub-after
overflow_sub-after c = let (m, L, f) = c.requires in offset_from m c.args.changes.now L c.args.base c.loop-change.change-index _ f.changes f.ascend (slice_get-get_or c.args.changes.now c.loop-change.change-index (0, word_of Num 0 0) c.loop-change-test.true)

pub bounds-after-change : goal.bounds-after-change
bounds-after-change c =
    let (m, L, f) = c.requires in
    let cs = c.args.changes.now in
    let i = c.loop-change.change-index in
    let inside = c.loop-change-test.true in
    let here = slice_get-get_or cs i (0, word_of Num 0 0) inside in
    let from = offset_from m cs L c.args.base i (get_or cs i (0, word_of Num 0 0)) f.changes f.ascend here in
    let low = offset_below m cs L _ i (get_or cs i (0, word_of Num 0 0)) f.changes f.below here in
    omega (arith, from, low)

pub loop-change-preserved : goal.loop-change-preserved
loop-change-preserved c m A L a f words =
    let i = c.loop-change.change-index in
    let d : ℕ × Word = (0, word_of Num 0 0) in
    let x = get_or c.args.changes.now i d in
    let next : suc i ≡ i + 1 = omega arith in
    let all = put_next m c.args.base i c.args.changes.now A L c.loop-change.after d a f c.loop-change-test.true (c.loop-change.invariant m A L a f words) in
    subst (λ j. WordsFor 4 m (set c.loop-change.after (x.0 - c.args.base) x.1) (values 4 0 (put_at 1 c.args.base A (take j L)))) next all

pub returns : goal.returns
returns c m A L a f words =
    let long = changes_long m c.args.changes.now L f.changes in
    let done = c.loop-change-test.false in
    subst (λ K. WordsFor 4 m c.loop-change.after (values 4 0 (put_at 1 c.args.base A K))) (take_all c.loop-change.change-index L (omega (arith, long, done))) (c.loop-change.invariant m A L a f words)
