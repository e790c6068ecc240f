-- The parts of an object, put one after the other, are its spelling.
use Rattle.std.proofs.Common.{◌≡◌, List, [], ◌++◌, length, ℕ, append_assoc}
use Rattle.std.specs.Prelude.{flat_map}
use Rattle.std.specs.Int.{w32, to_le_bytes}
use Rattle.hic_isa.specs.Spelling.{spelling}
use Rattle.hic_object.specs.Parts.{Parts}
use Rattle.hic_object.specs.Spelled.{head, kind_bytes, data_bytes, spelled}

regroup : (a b c d e : List ℕ) → (((a ++ b) ++ c) ++ d) ++ e ≡ a ++ (b ++ (c ++ (d ++ e)))
regroup a b c d e = simp append_assoc

pub is_spelled : (o : Parts) (none start entries kinds words whole : List ℕ) → none ≡ []
    → start ≡ none ++ (head (length o.entries) (length o.kinds) ++ (to_le_bytes w32 (length o.code) ++ to_le_bytes w32 (length o.words)))
    → entries ≡ start ++ flat_map (to_le_bytes w32) o.entries
    → kinds ≡ entries ++ flat_map kind_bytes o.kinds
    → words ≡ kinds ++ flat_map data_bytes o.words
    → whole ≡ words ++ flat_map spelling o.code
    → whole ≡ spelled o
unfolding spelled
is_spelled o none start entries kinds words whole none-is start-is entries-is kinds-is words-is whole-is =
    rw (whole-is, words-is, kinds-is, entries-is, start-is, none-is)
    (regroup (head (length o.entries) (length o.kinds) ++ (to_le_bytes w32 (length o.code) ++ to_le_bytes w32 (length o.words))) (flat_map (to_le_bytes w32) o.entries) (flat_map kind_bytes o.kinds) (flat_map data_bytes o.words) (flat_map spelling o.code))
