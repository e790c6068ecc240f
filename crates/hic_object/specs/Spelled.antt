-- The bytes of an object file, version 1. All numbers are little-endian.
use Rattle.std.specs.Prelude.{◌≡◌, ℕ, List, [], ◌∷◌, ◌++◌, length, flat_map, codes}
use Rattle.std.specs.Int.{w16, w32, w64, to_le_bytes}
use Rattle.hic_isa.specs.declared.instr.SegKind.{SegKind}
use Rattle.hic_isa.specs.declared.instr.SegKind.TheVariants.{Plain, Merge}
use Rattle.hic_isa.specs.Spelling.{spelling}
use Rattle.hic_object.specs.declared.object.DataRec.{DataRec}
use Rattle.hic_object.specs.Parts.{Parts, IsObject}

abbrev pub kind_bytes : SegKind → List ℕ
kind_bytes Plain = 0 ∷ []
kind_bytes Merge = 1 ∷ []

abbrev pub data_bytes : DataRec → List ℕ
data_bytes d = to_le_bytes w16 d.segment ++ (to_le_bytes w32 d.offset ++ to_le_bytes w64 d.value)

-- magic, version, numbers of tasks and segments
abbrev pub head : ℕ → ℕ → List ℕ
head tasks segments = codes "HICP" ++ 1 ∷ tasks ∷ to_le_bytes w16 segments

-- the bytes of an object
unfoldable pub spelled : Parts → List ℕ
spelled o =
    head (length o.entries) (length o.kinds)
    ++ (to_le_bytes w32 (length o.code)
    ++ (to_le_bytes w32 (length o.words)
    ++ (flat_map (to_le_bytes w32) o.entries
    ++ (flat_map kind_bytes o.kinds
    ++ (flat_map data_bytes o.words
    ++ flat_map spelling o.code)))))

-- the bytes spell the object
abbrev pub IsSpelled : List ℕ → Parts → Type 0
IsSpelled bytes o = IsObject o × (bytes ≡ spelled o)
