use Rattle.std.proofs.Common.{◌≡◌, ℕ, List, [], ◌++◌, length, drop, ◌∙◌, ap, append_assoc, arith}
use Rattle.std.proofs.lemmas.List.{drop_all}
use Rattle.hic_word.specs.Lines.{lines}
use Rattle.hic_word.specs.Memory.{line_at, width}
use Rattle.hic_plain.specs.Machine.{held, width_of}
use Rattle.hic_list.specs.Listing.{end_line, line_line, listing, room_line}
use Rattle.hic_list.specs.Texts.{numbered}
use Rattle.hic_list.specs.UnderWay.{lines_from, segments_text}
use Rattle.hic_list.proofs.Named.{ids_length}
use Rattle.hic_list.proofs.listing.Listing.make.Goals as goal

pub returns-clause-listing : goal.returns-clause-listing
unfolding listing lines_from segments_text
returns-clause-listing g c =
    let P = c.args.machine.now.plain in
    let m = c.args.machine.now.memory in
    let ids = c.in_ok-numbers.numbers in
    let all = c.in_ok-numbers.ensures.numbered in
    let Ls = lines (width_of P) (held P) in
    let room = room_line (length Ls) P.capacity in
    let count = ids_length (width m) (line_at m) ids (lines (width m) (held P)) all.numbered in
    let none : drop (length ids) Ls ≡ [] = drop_all (length ids) Ls (omega (arith, count)) in
    record {
      numbered = all;
      whole = ap (λ (xs : List ℕ). xs ++ lines_from P 0) c.in_ok-head.ensures
          ∙ append_assoc (end_line c.args.end) (room ++ segments_text P) (lines_from P 0)
          ∙ ap (λ (t : List ℕ). end_line c.args.end ++ t) (append_assoc room (segments_text P) (lines_from P 0));
      ends = ap (numbered (line_line (width_of P) (held P)) (length ids)) none;
    }
