use Rattle.std.proofs.Common.{◌≡◌, ◌+◌, ◌≤◌, List, length, sym, ◌∙◌, ap, subst, arith}
use Rattle.std.proofs.lemmas.List.{take_all}
use Rattle.std.proofs.lemmas.Option.{slice_get_within}
use Rattle.hic_word.specs.Lines.{lines}
use Rattle.hic_word.specs.Memory.{Memory, line_at, width}
use Rattle.hic_word.specs.Values.{Array}
use Rattle.hic_plain.specs.Machine.{held}
use Rattle.hic_list.specs.Walks.{AreNumbered, IdsFor, IsNext}
use Rattle.hic_list.proofs.HeldLines.{has_lines, held_few}
use Rattle.hic_list.proofs.listing.number_lines.Goals as goal

pub visit-requires-clause-next : goal.visit-requires-clause-next
visit-requires-clause-next g c =
    let P = c.args.machine.now.plain in
    let root = c.in-Some.ensures in (
      held P,
      c.loop-root.k,
      subst (λ (m : Memory). IsNext m (held P) c.loop-root.k c.loop-root.numbers c.in-Some.root) (sym c.lines-mem.ensures.memory)
          (record { lists = has_lines c.args.machine.now.memory P c.lines-mem.ensures.held; array = root.array; there = root.there; stands = root.stands; numbered = c.loop-root.invariant.numbered }),
    )

pub overflow_add-k : goal.overflow_add-k
overflow_add-k g c =
    let P = c.args.machine.now.plain in
    let few = held_few P c.lines-mem.ensures.machine in
    let there = slice_get_within (held P) c.loop-root.k c.in-Some.ensures.array c.in-Some.ensures.there in
    omega (arith, few, there)

pub loop-root-smaller : goal.loop-root-smaller
loop-root-smaller g c =
    let P = c.args.machine.now.plain in
    let there = slice_get_within (held P) c.loop-root.k c.in-Some.ensures.array c.in-Some.ensures.there in
    omega (arith, there)

pub loop-root-preserved : goal.loop-root-preserved
loop-root-preserved g c =
    let P = c.args.machine.now.plain in
    let root = c.in-Some.ensures in
    let there = slice_get_within (held P) c.loop-root.k root.array root.there in
    let before = c.loop-root.invariant.looks in
    let looks = c.in_ok-visit.ensures.looks in
    record {
      numbered = subst (λ (m : Memory). AreNumbered m (held P) (c.loop-root.k + 1) c.visit.new.numbers) c.lines-mem.ensures.memory
          (c.in_ok-visit.ensures.numbered (held P) c.loop-root.k (subst (λ (m : Memory). IsNext m (held P) c.loop-root.k c.loop-root.numbers c.in-Some.root) (sym c.lines-mem.ensures.memory)
          (record { lists = has_lines c.args.machine.now.memory P c.lines-mem.ensures.held; array = root.array; there = root.there; stands = root.stands; numbered = c.loop-root.invariant.numbered })));
      none = c.in_ok-visit.ensures.none;
      looks = omega (arith, before, looks);
      few = omega (arith, there);
    }

pub returns-clause-numbered : goal.returns-clause-numbered
returns-clause-numbered g c =
    let P = c.args.machine.now.plain in
    let m = c.args.machine.now.memory in
    let all : length (held P) ≤ c.loop-root.k = c.in_default.ensures in
    record {
      lists = has_lines m P c.lines-mem.ensures.held;
      numbered = subst (λ (As : List Array). IdsFor (width m) (line_at m) c.loop-root.numbers (lines (width m) As)) (take_all c.loop-root.k (held P) all) c.loop-root.invariant.numbered;
    }
