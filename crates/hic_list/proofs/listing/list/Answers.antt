use Rattle.std.proofs.Common.{◌≡◌, ◌+◌, ℕ, List, [], ◌++◌, length, sym, ◌∙◌, ap, append-nil, append_assoc, arith}
use Rattle.hic_word.specs.Lines.{lines}
use Rattle.hic_word.specs.Memory.{line_at, width}
use Rattle.hic_plain.specs.Machine.{held}
use Rattle.hic_list.specs.UnderWay.{lines_from}
use Rattle.hic_list.proofs.Named.{ids_length}
use Rattle.hic_list.proofs.listing.list.Goals as goal

pub loop-number-init : goal.loop-number-init
loop-number-init g c = record {
  text = ap (λ (xs : List ℕ). xs ++ lines_from c.args.machine.now.plain 0) (c.in_ok-text.ensures.items_if_clones_equal (λ x y e. e) ∙ c.head.ensures) ∙ c.in_ok-listing.ensures.listing.whole;
  looks = omega (arith, c.in_ok-listing.ensures.looks, c.lines-number-end.ensures);
}

pub put_line-requires-clause-listing : goal.put_line-requires-clause-listing
put_line-requires-clause-listing g c = c.in_ok-listing.ensures.listing.numbered

pub loop-number-preserved : goal.loop-number-preserved
loop-number-preserved g c =
    let P = c.args.machine.now.plain in
    let k = c.loop-number.number in
    let text = c.loop-number.text.items in
    let line = c.put_line.new.line.items in
    let put : c.extend_from_slice.new.self.items ≡ text ++ line = c.in_ok-extend_from_slice.ensures.items ∙ ap (λ (t : List ℕ). text ++ t) c.as_slice.ensures.value in
    let before = c.loop-number.invariant.looks in
    record {
      text = ap (λ (xs : List ℕ). xs ++ lines_from P (k + 1)) put ∙ append_assoc text line (lines_from P (k + 1)) ∙ ap (λ (t : List ℕ). text ++ t) (sym c.put_line.ensures.line) ∙ c.loop-number.invariant.text;
      looks = omega (arith, before, c.put_line.ensures.looks);
    }

pub returns-clause-listing : goal.returns-clause-listing
returns-clause-listing g c =
    let P = c.args.machine.now.plain in
    let text = c.loop-number.text.items in
    let is = c.in_ok-listing.ensures.listing in
    let last : c.loop-number.number ≡ length c.in_ok-listing.listing.ids = omega (arith, c.loop-number-test.false, c.loop-number.auto.number-end, c.lines-number-end.ensures) in
    let none : lines_from P c.loop-number.number ≡ [] = ap (lines_from P) last ∙ is.ends in
    sym (append-nil text) ∙ ap (λ (t : List ℕ). text ++ t) (sym none) ∙ c.loop-number.invariant.text

pub returns-clause-looks : goal.returns-clause-looks
returns-clause-looks g c =
    let m = c.args.machine.now.memory in
    let P = c.args.machine.now.plain in
    let is = c.in_ok-listing.ensures.listing in
    let all = ids_length (width m) (line_at m) c.in_ok-listing.listing.ids (lines (width m) (held P)) is.numbered.numbered in
    let looks = c.loop-number.invariant.looks in
    omega (arith, all, looks, c.loop-number-test.false, c.loop-number.auto.number-end, c.lines-number-end.ensures)
