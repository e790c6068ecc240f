-- A memory in which words reference arrays stores the arrays' lines, and its room is told by them.
use Rattle.std.proofs.Common.{◌≡◌, ℕ, ◌≤◌, List, [], ◌∷◌, length, sym, subst, inl, inr, arith}
use Rattle.std.specs.Prelude.{flat_map}
use Rattle.hic_word.specs.declared.Word.{Word}
use Rattle.hic_word.specs.Width.{IsWidth}
use Rattle.hic_word.specs.Lists.{In}
use Rattle.hic_word.specs.Values.{AreValues, IsValue, Ref, Value, array-pairs, arrays_of, pairs}
use Rattle.hic_word.specs.Entries.{LineValue}
use Rattle.hic_word.specs.Lines.{lines, visit}
use Rattle.hic_word.specs.Memory.{Memory, line_at}
use Rattle.hic_word.specs.Stands.{AWord, NoWord, WordsFor}
use Rattle.hic_word.specs.Balanced.{IsBalanced}
use Rattle.hic_word.proofs.callers.Lines.{fits_all, stored_all, Apart-distinct, In-distinct, balanced_is_exact}
use Rattle.hic_word.proofs.callers.Forms.{LineFits, made_fits}
use Rattle.hic_word.proofs.callers.Standing.{line_of, one_value}
use Rattle.line_room.specs.Room.{Stores}
use Rattle.line_room.specs.RoomLaws.{ReferencedLinesAreStored, RoomIsByLines}
use Rattle.line_room.proofs.AnyOrder.{lines_last}
use Rattle.line_room.proofs.ArrayLines.{lines_are_of_each}
use Rattle.line_room.proofs.LiveValues.{stores}
use Rattle.line_room.proofs.Pigeons.{distinct-length}

module _ {w : ℕ} (width : IsWidth w) {m : Memory} {H : List Word} (b : IsBalanced w m H) where
  -- the lines of the arrays that words reference are stored
  stored_lines : (xs : List Word) (vs : List Value) (L : LineValue) → WordsFor w (line_at m) xs vs → AreValues vs → In L (lines w (arrays_of vs)) → Stores w (line_at m) L
  stored_lines xs vs L words valid there =
      let visited = In-distinct L (flat_map (visit w) (arrays_of vs)) there in
      let (id, i) = stored_all w width xs vs L words visited in
      stores width b id L i (fits_all w width vs L valid visited)

  -- and no others, if these are the words that the memory is balanced for
  only_lines : (vs : List Value) (L : LineValue) → WordsFor w (line_at m) H vs → AreValues vs → Stores w (line_at m) L → In L (lines w (arrays_of vs))
  only_lines vs L words valid s =
      let (line, at) = line_of s.stands in
      let (K, i, there) = (balanced_is_exact w m H vs width b words valid).has_line s.id line at in
      let fits : LineFits w K = fits_all w width vs K valid (In-distinct K (flat_map (visit w) (arrays_of vs)) there) in
      let same : K ≡ L = one_value width i fits s.stands (made_fits width s.made) in
      subst (λ N. In N (lines w (arrays_of vs))) same there

-- the word is one of a list of one
pub referenced_lines_are_stored : ReferencedLinesAreStored
unfolding IsValue
referenced_lines_are_stored w m H x A L width b valid stands there =
    stored_lines width b (x ∷ []) (Ref (pairs A) ∷ []) L (AWord stands NoWord) (valid, tt) (subst (λ B. In L (lines w (B ∷ []))) (sym (array-pairs A)) there)

-- the different line values that the memory stores or the array has are among the lines of all these arrays, and the
-- lines are such line values
pub room_is_by_lines : RoomIsByLines
room_is_by_lines w m H vs A width b words values =
    let Ls = lines w (A ∷ arrays_of vs) in
    let last = lines_last w A (arrays_of vs) in (
      (λ lacks.
          let among : (L : LineValue) → In L lacks.values → In L Ls = λ L k. (lines_are_of_each w A (arrays_of vs) L).1 (elim (lacks.each L k) [ inl s ↦ inr (only_lines width b vs L words values s) | inr i ↦ inl i ]) in
          let few : length lacks.values ≤ length Ls = distinct-length lacks.values Ls lacks.distinct among in
          let more = lacks.more in
          omega (arith, few, more, last)),
      (λ more. record {
        values = Ls;
        distinct = Apart-distinct (flat_map (visit w) (A ∷ arrays_of vs));
        each = λ L k. elim ((lines_are_of_each w A (arrays_of vs) L).0 k) [ inl i ↦ inr i | inr i ↦ inl (stored_lines width b H vs L words values i) ];
        more = omega (arith, more, last);
      }),
    )
