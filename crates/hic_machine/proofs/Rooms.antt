-- The memory lacks room for an array exactly where the plain machine has none.
use Rattle.std.proofs.Common.{◌≡◌, ◌↔◌, ℕ, List, [], ◌∷◌, ◌++◌, length, refl, ap, inl, inr, IsTrue, arith}
use Rattle.std.proofs.lemmas.Bool.{lt-ltb, ltb-true}
use Rattle.hic_isa.specs.declared.instr.Instr.{Instr}
use Rattle.hic_word.specs.Lines.{lines}
use Rattle.hic_word.specs.Memory.{Memory, width}
use Rattle.hic_word.specs.Values.{Array, arrays_of}
use Rattle.line_room.specs.Room.{LacksRoomFor}
use Rattle.line_room.proofs.RoomByLines.{room_is_by_lines}
use Rattle.segment_map.specs.declared.Segment.{Segment as Stored}
use Rattle.hic_plain.specs.Full.{full}
use Rattle.hic_plain.specs.Machine.{Machine, held}
use Rattle.hic_task.specs.declared.task.Task.{Task as Kept}
use Rattle.hic_machine.specs.Held.{MachineFor, all_ordered}
use Rattle.hic_machine.proofs.Order.{ordered_arrays, ordered_held, ordered_stand, ordered_valid, values}

pub room_for : (m : Memory) (code : List Instr) (ss : List Stored) (input : List ℕ) (ks : List Kept) (P : Machine) → MachineFor m code ss input ks P → (A : Array) → LacksRoomFor m (A ∷ []) ↔ IsTrue (full P A)
room_for m code ss input ks P d A =
    let law = room_is_by_lines (width m) m (all_ordered ss ks) (values P) A (inr (inl refl)) (ordered_held m code ss input ks P d).balanced (ordered_stand m code ss input ks P d) (ordered_valid m code ss input ks P d) in
    let same : length (lines (width m) (arrays_of (values P) ++ A ∷ [])) ≡ length (lines (width m) (held P ++ A ∷ [])) = ap (λ R. length (lines (width m) (R ++ A ∷ []))) (ordered_arrays m code ss input ks P d) in
    let cap = d.capacity in (
      (λ lacks. let a = law.0 lacks in lt-ltb P.capacity (length (lines (width m) (held P ++ A ∷ []))) (omega (arith, a, same, cap))),
      (λ more. law.1 (let a = ltb-true P.capacity (length (lines (width m) (held P ++ A ∷ []))) more in omega (arith, a, same, cap))),
    )
