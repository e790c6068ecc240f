-- A memory with as many lines as there can be lacks room for a line that is not there; one that came to store lines had room.
use Rattle.std.proofs.Common.{◌≡◌, ℕ, ◌≤◌, List, ◌∷◌, length, Some, ◌∙◌, ap, subst, inl, inr, arith}
use Rattle.hic_word.specs.declared.Word.{Word}
use Rattle.hic_word.specs.Lists.{In}
use Rattle.hic_word.specs.Entries.{LineValue}
use Rattle.hic_word.specs.Lines.{lines}
use Rattle.hic_word.specs.Memory.{line_at}
use Rattle.hic_word.specs.Stands.{IdFor, InnerAt, LeafAt, LineFor, Lookup, Unique}
use Rattle.hic_word.proofs.callers.Standing.{IdFor-within, one_inner, one_words}
use Rattle.line_room.specs.Room.{Stores}
use Rattle.line_room.specs.RoomLaws.{StoredLinesHadRoom, WholeMemoryLacksRoom}
use Rattle.line_room.proofs.LiveValues.{live_values}
use Rattle.line_room.proofs.Pigeons.{distinct-length}

-- a line that stands for what an id stands for is the id's line
line_there : {w : ℕ} {m : Lookup} {id : ℕ} {line : List Word} {L : LineValue} → Unique m → IdFor w m id L → LineFor w m line L → m id ≡ Some line
line_there u (LeafAt below at words) l = at ∙ ap (λ (k : List Word). Some k) (one_words u words l)
line_there u (InnerAt below at entries) l = at ∙ ap (λ (k : List Word). Some k) (one_inner u entries l)

-- the line values that are stored, and the new one, are one more than the capacity
pub whole_memory_lacks_room : WholeMemoryLacksRoom
whole_memory_lacks_room w m H line L R width b whole is_new stands there =
    let (Ks, live) = live_values width b in
    record {
      values = L ∷ Ks;
      distinct = (λ k. let s = live.stored L k in is_new s.id (line_there b.unique s.stands stands), live.distinct);
      each = λ K k. elim k [ inl e ↦ inr (subst (λ N. In N (lines w R)) e there) | inr i ↦ inl (live.stored K i) ];
      more = let number = live.number in omega (arith, number, whole);
    }

-- each of the line values is stored now, and different ones that are stored are at most as many as the lines
pub stored_lines_had_room : StoredLinesHadRoom
stored_lines_had_room w m n H R width b fits same_cap within stored lacks =
    let (Ks, live) = live_values width b in
    let kept : (L : LineValue) → Stores w (line_at m) L → Stores w (line_at n) L = λ L s. record { id = s.id; stands = IdFor-within (line_at m) (line_at n) within s.stands; made = s.made } in
    let few : length lacks.values ≤ length Ks = distinct-length lacks.values Ks lacks.distinct (λ L k. live.all L (elim (lacks.each L k) [ inl s ↦ kept L s | inr i ↦ stored L i ])) in
    let more = lacks.more in
    let number = live.number in
    omega (arith, few, more, number, fits, same_cap)
