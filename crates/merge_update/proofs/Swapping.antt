-- A segment gets an array that is stored: its root is live, can be held, and its lines need no room.
use Rattle.std.proofs.Common.{ℕ, ◌≤◌, List, [], ◌∷◌, ◌++◌, refl, inl, inr, arith}
use Rattle.hic_word.specs.declared.Word.{Word}
use Rattle.hic_word.specs.Values.{Array, Ref, pairs}
use Rattle.hic_word.specs.Exchanges.{Exchanges, HasRoomFor, HoldsAmong}
use Rattle.hic_word.specs.Holds.{HasRoom, IsLive}
use Rattle.hic_word.specs.InMemory.{RootIn}
use Rattle.hic_word.specs.Memory.{Memory, width}
use Rattle.hic_word.proofs.callers.Standing.{standing_words_are_live}
use Rattle.line_mem.specs.Sound.{IsSound}
use Rattle.line_room.specs.Room.{LacksRoomFor}
use Rattle.line_room.proofs.MemoryRoom.{stored_lines_had_room}
use Rattle.line_room.proofs.RoomByLines.{referenced_lines_are_stored}
use Rattle.merge_update.proofs.Replacing.{root_stands_on}

module _ {m : Memory} {root : Word} {A : Array} (stands : RootIn m root A) where
  pub is_live : IsLive m root
  is_live = standing_words_are_live (width m) m root (inl (Ref (pairs A), stands.word))

  -- each line of it is stored, and there are never more lines than the capacity
  pub has_room : (words : List Word) → HoldsAmong m words → IsSound m → LacksRoomFor m (A ∷ []) → ⊥
  has_room words (others, held) sound lacks =
      stored_lines_had_room (width m) m m _ (A ∷ []) (inr (inl refl)) held.balanced sound.room refl (λ id line e. e)
      (λ L there. referenced_lines_are_stored (width m) m _ root A L (inr (inl refl)) held.balanced stands.valid stands.word there) lacks

pub room_for_one : (n : ℕ) (m : Memory) (root : Word) → 1 ≤ n → HasRoomFor n m → IsLive m root → HasRoom m root
room_for_one n m root some room live id named = let one = room id (live id named) in omega (arith, some, one)

-- a root that is held beside other words stands for its array afterwards
pub stands_held : {m n : Memory} {root : Word} {A : Array} (words : List Word) → HoldsAmong m words → Exchanges m n [] (root ∷ []) → RootIn m root A → RootIn n root A
stands_held {m} {n} {root} {A} words (others, held) taken stands = root_stands_on m n [] (root ∷ []) root A taken (words ++ others, held) (inl refl) stands
