use Rattle.std.proofs.Common.{◌≡◌, ◌<◌, ◌+◌, ◌++◌, ℕ, List, Some, length, get_or, refl, sym, ◌∙◌, ap, subst, arith}
use Rattle.std.specs.Prelude.{IsSome, slice_get}
use Rattle.std.proofs.lemmas.Option.{slice_get_read}
use Rattle.hic_word.specs.Lines.{lines}
use Rattle.hic_word.specs.Memory.{Memory, count_at, line_at, width}
use Rattle.hic_plain.specs.Machine.{held}
use Rattle.hic_list.specs.UnderWay.{lines_from}
use Rattle.hic_list.specs.Words.{id_line, words_line, words_of}
use Rattle.hic_list.proofs.Named.{ids_live}
use Rattle.hic_list.proofs.WordTexts.{next_line}
use Rattle.hic_list.proofs.listing.Listing.put_line.Goals as goal

here : (xs ys : List ℕ) (i x : ℕ) → xs ≡ ys → i < length ys → x ≡ get_or xs i x → slice_get ys i ≡ Some x
here xs ys i x same low is = subst (λ zs. slice_get zs i ≡ Some x) same (slice_get_read xs (length xs) i x refl (subst (λ (zs : List ℕ). i < length zs) (sym same) low) is)

pub count-count-requires : goal.count-count-requires
count-count-requires g c =
    let m = c.args.machine.now.memory in
    let ids = c.args.self.now.ids in
    let there = here c.ids.result.now ids c.args.number c.index-ids-number.result (c.ids.ensures ∙ ap (λ u. u.ids) c.self.view_is) c.requires.number c.index-ids-number.is in
    subst (λ (n : Memory). IsSome (line_at n c.index-ids-number.result)) (sym c.lines-mem.ensures.memory)
    (ids_live (width m) (line_at m) ids (lines (width m) (held c.args.machine.now.plain)) c.args.number c.index-ids-number.result c.requires.listing.numbered there)

pub line-words-requires : goal.line-words-requires
line-words-requires g c =
    let m = c.args.machine.now.memory in
    let ids = c.args.self.now.ids in
    let there = here c.ids.result.now ids c.args.number c.index-ids-number.result (c.ids.ensures ∙ ap (λ u. u.ids) c.self.view_is) c.requires.number c.index-ids-number.is in (
      omega arith,
      subst (λ (n : Memory). IsSome (line_at n c.index-ids-number.result)) (sym c.lines-mem.ensures.memory)
          (ids_live (width m) (line_at m) ids (lines (width m) (held c.args.machine.now.plain)) c.args.number c.index-ids-number.result c.requires.listing.numbered there),
    )

pub returns-clause-line : goal.returns-clause-line
unfolding lines_from
returns-clause-line g c =
    let m = c.args.machine.now.memory in
    let P = c.args.machine.now.plain in
    let ids = c.args.self.now.ids in
    let id = c.index-ids-number.result in
    let same : c.self.inside.numbers ≡ ids = ap (λ u. u.ids) c.self.view_is in
    let there = here c.ids.result.now ids c.args.number id (c.ids.ensures ∙ same) c.requires.number c.index-ids-number.is in
    let count : c.count-count.result ≡ count_at m id = c.count-count.ensures ∙ ap (λ (n : Memory). count_at n id) c.lines-mem.ensures.memory in
    let words : c.line-words.result.w ≡ words_of (line_at m id) = sym (ap words_of c.line-words.ensures.line) ∙ ap (λ (n : Memory). words_of (line_at n id)) c.lines-mem.ensures.memory in
    let put : c.put_line.new.line.items ≡ id_line m ids c.args.number id = c.put_line.ensures ∙ (λ t. words_line (same t) c.args.number (count t) (words t)) in
    next_line m (held P) ids c.requires.listing c.args.number id there ∙ ap (λ (t : List ℕ). t ++ lines_from P (c.args.number + 1)) (sym put)
