-- The machine of plain arrays begins valid.
use Rattle.std.proofs.Common.{◌≡◌, ℕ, zero, suc, ◌+◌, ◌<◌, ◌≤◌, Bool, true, false, cond, eqb, List, [], ◌∷◌, length, Option, Some, None, refl, ◌∙◌, ap, arith, map, filter, inl, inr}
use Rattle.std.specs.Prelude.{IfSome}
use Rattle.std.specs.List.{AllByRecursion}
use Rattle.std.proofs.Math.Dec.{eqb-suc-zero}
use Rattle.std.proofs.lemmas.Bool.{eqb-true}
use Rattle.std.proofs.lemmas.List.{length-map}
use Rattle.hic_isa.specs.declared.instr.SegKind.{SegKind}
use Rattle.hic_object.specs.declared.object.DataRec.{DataRec}
use Rattle.hic_object.specs.Parts.{AreRecords, IsAbove, IsObject, IsRecord, Parts, most_instructions}
use Rattle.hic_word.specs.Values.{Number, IsValue, ArePairs, IsArray, pairs}
use Rattle.hic_plain.specs.Machine.{start, task_at, array_of, segments_from}
use Rattle.hic_plain.specs.Valid.{IsTask, IsMachine}
use Rattle.hic_plain.proofs.Fits.{all-map, zeros-fit}

-- each record of segment i that may come has an offset from b on
abbrev ComesFrom : ℕ → Option DataRec → ℕ → Type 0
ComesFrom i before b = (d : DataRec) → IfSome before (λ low. IsAbove low d) → d.segment ≡ i → b ≤ d.offset

above-then : (before : Option DataRec) (d e : DataRec) → IfSome before (λ low. IsAbove low d) → IsAbove d e → IfSome before (λ low. IsAbove low e)
above-then None d e first second = tt
above-then (Some low) d e (inl less) (inl more) = inl (omega (arith, less, more))
above-then (Some low) d e (inl less) (inr more) = inl (omega (arith, less, more.0))
above-then (Some low) d e (inr less) (inl more) = inl (omega (arith, less.0, more))
above-then (Some low) d e (inr less) (inr more) = inr (less.0 ∙ more.0, omega (arith, less.1, more.1))

later-offset : (i : ℕ) (d e : DataRec) → d.segment ≡ i → IsAbove d e → e.segment ≡ i → suc d.offset ≤ e.offset
later-offset i d e here (inl less) there = absurd (omega (arith, here, less, there))
later-offset i d e here (inr more) there = omega (arith, more.1)

some-nonzero : (n : ℕ) → 1 ≤ n → eqb n 0 ≡ false
some-nonzero zero some = absurd (omega (arith, some))
some-nonzero (suc n) some = eqb-suc-zero n

are-pairs-if : (n i b : ℕ) (before : Option DataRec) (d : DataRec) (ds : List DataRec) → AreRecords n before (d ∷ ds) → IsRecord d → ComesFrom i before b → ((first : ℕ) → ComesFrom i (Some d) first → ArePairs first (pairs (array_of i ds))) → (here : Bool) → eqb d.segment i ≡ here → ArePairs b (pairs (map (λ e. (e.offset, Number e.value)) (cond here (d ∷ filter (λ e. eqb e.segment i) ds) (filter (λ e. eqb e.segment i) ds))))
unfolding IsValue ArePairs
are-pairs-if n i b before d ds are fits from rest true is =
    let here = eqb-true d.segment i is in
    (from d are.0.above here, fits.offset, some-nonzero d.value are.0.some, fits.value, rest (suc d.offset) (λ e above there. later-offset i d e here above there))
are-pairs-if n i b before d ds are fits from rest false is =
    rest b (λ e above there. from e (above-then before d e are.0.above above) there)

are-pairs : (n i b : ℕ) (before : Option DataRec) (ds : List DataRec) → AreRecords n before ds → AllByRecursion IsRecord ds → ComesFrom i before b → ArePairs b (pairs (array_of i ds))
unfolding IsValue ArePairs
are-pairs n i b before [] are fit from = tt
are-pairs n i b before (d ∷ ds) are fit from =
    are-pairs-if n i b before d ds are fit.0 from (λ first comes. are-pairs n i first (Some d) ds are.1 fit.1 comes) (eqb d.segment i) refl

segments-valid : (n i : ℕ) (kinds : List SegKind) (words : List DataRec) → AreRecords n None words → AllByRecursion IsRecord words → AllByRecursion (λ s. IsArray s.array) (segments_from i kinds words)
segments-valid n i [] words are fit = tt
segments-valid n i (k ∷ ks) words are fit = (are-pairs n i 0 None words are fit (λ d above there. omega arith), segments-valid n (i + 1) ks words are fit)

segments-length : (i : ℕ) (kinds : List SegKind) (words : List DataRec) → length (segments_from i kinds words) ≡ length kinds
segments-length i [] words = refl
segments-length i (k ∷ ks) words = ap suc (segments-length (i + 1) ks words)

task_at-valid : (n code entry : ℕ) → code ≤ most_instructions → entry < code → IsTask n (task_at entry)
task_at-valid n code entry count fits = record {
  pc = omega (arith, count, fits);
  eight = refl;
  regs = zeros-fit;
  four = refl;
  iters = (tt, (tt, (tt, (tt, tt))));
  halted = λ ended. absurd cc;
}

pub start-valid : (o : Parts) (input : List ℕ) (capacity : ℕ) → IsObject o → AllByRecursion (λ byte. byte < 256) input → IsMachine (start o input capacity)
start-valid o input capacity is bytes = record {
  code_count = is.rules.code_count;
  code = is.instrs;
  segment_count = omega (arith, is.rules.segments, segments-length 0 o.kinds o.words);
  segments = segments-valid (length o.kinds) 0 o.kinds o.words is.rules.records is.numbers;
  task_count = omega (arith, is.rules.tasks, length-map o.entries task_at);
  tasks = all-map (λ entry. entry < length o.code) (IsTask (length (segments_from 0 o.kinds o.words))) task_at (λ entry fits. task_at-valid (length (segments_from 0 o.kinds o.words)) (length o.code) entry is.rules.code_count fits) o.entries is.rules.in_code;
  input = bytes;
}
