-- Worked rows: the program that writes the letter H, and two words in an order that is refused.
use Rattle.std.specs.Prelude.{◌≡◌, ℕ, List, [], ◌∷◌, ◌++◌, take, Ok, Err, refl}
use Rattle.hic_isa.specs.declared.instr.Instr.TheVariants.{Halt, Li, Putb}
use Rattle.hic_isa.specs.declared.instr.SegKind.TheVariants.{Plain}
use Rattle.hic_isa.specs.Spelling.{spelling}
use Rattle.hic_isa.specs.Decoding.{instr_at}
use Rattle.hic_object.specs.declared.error.ObjectError.TheVariants.{BadData, Short, Long}
use Rattle.hic_object.specs.declared.object.DataRec.{DataRec}
use Rattle.hic_object.specs.Parts.{Parts, parts}
use Rattle.hic_object.specs.Spelled.{spelled}
use Rattle.hic_object.specs.Reading.{items_at, within_at, magic_at, version_at, count_at, counts_at, entry_at, kind_at, is_next, fields_at, data_at, instruction_at, body_at, parts_at, object_at}

abbrev hello : Parts
hello = parts (0 ∷ []) [] [] (Li 0 72 ∷ Putb 0 ∷ Halt ∷ [])

abbrev hello_bytes : List ℕ
hello_bytes =
    0x48 ∷ 0x49 ∷ 0x43 ∷ 0x50 ∷ 1 ∷ 1 ∷ 0 ∷ 0 ∷ 3 ∷ 0 ∷ 0 ∷ 0 ∷ 0 ∷ 0 ∷ 0 ∷ 0
    ∷ 0 ∷ 0 ∷ 0 ∷ 0
    ∷ 0x02 ∷ 0 ∷ 0 ∷ 0 ∷ 0x48 ∷ 0 ∷ 0 ∷ 0
    ∷ 0x17 ∷ 0 ∷ 0 ∷ 0 ∷ 0 ∷ 0 ∷ 0 ∷ 0
    ∷ 0x01 ∷ 0 ∷ 0 ∷ 0 ∷ 0 ∷ 0 ∷ 0 ∷ 0 ∷ []

row-spelled : spelled hello ≡ hello_bytes
unfolding spelled spelling
row-spelled = refl

row-read : object_at hello_bytes ≡ Ok hello
unfolding items_at within_at magic_at version_at count_at counts_at entry_at kind_at data_at instruction_at body_at parts_at object_at instr_at spelling
row-read = refl

row-short : object_at (take 43 hello_bytes) ≡ Err Short
unfolding items_at within_at magic_at version_at count_at counts_at entry_at kind_at data_at instruction_at body_at parts_at object_at instr_at spelling
row-short = refl

row-long : object_at (hello_bytes ++ 0 ∷ []) ≡ Err Long
unfolding items_at within_at magic_at version_at count_at counts_at entry_at kind_at data_at instruction_at body_at parts_at object_at instr_at spelling
row-long = refl

abbrev word : ℕ → ℕ → ℕ → DataRec
word segment offset value = record { segment = segment; offset = offset; value = value }

-- the word at offset 1 stands before the word at offset 0
row-order : object_at (spelled (parts (0 ∷ []) (Plain ∷ []) (word 0 1 5 ∷ word 0 0 5 ∷ []) (Halt ∷ []))) ≡ Err (BadData 1)
unfolding spelled items_at within_at magic_at version_at count_at counts_at entry_at kind_at is_next fields_at data_at instruction_at body_at parts_at object_at instr_at spelling
row-order = refl
