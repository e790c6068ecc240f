-- The files of a host in memory, newest first, and the place of the open one.
use Rattle.std.specs.Prelude.{◌≡◌, ◌<◌, ℕ, List, [], map, drop, length, Option, Some, None, slice_get, unwrap_or, option_map, string_bytes}
use Rattle.std.specs.FinMap as map
use Rattle.hic_io.specs.HostState.{Files}
use Rattle.hic_io.specs.declared.mem_files.MemFile.{MemFile}
use Rattle.hic_io.specs.declared.mem_files.Place.{Place}

abbrev pub entry_of : MemFile → List ℕ × List ℕ
entry_of file = (string_bytes file.name, file.bytes.items)

abbrev pub files_of : List MemFile → Files
files_of files = map.from_entries (map entry_of files)

abbrev pub bytes_at : List MemFile → Place → List ℕ
bytes_at files place =
    drop place.at (unwrap_or (option_map (λ (f : MemFile). f.bytes.items) (slice_get files place.file)) [])

abbrev pub left_of : List MemFile → Option Place → List ℕ
left_of files None = []
left_of files (Some place) = bytes_at files place

-- the file at this index has the name, and is the one that the map has
pub record FoundAt (files : List MemFile) (name : List ℕ) (i : ℕ) : Type 0 where
  pub in_range : i < length files
  pub bytes : map.get (files_of files) name ≡ option_map (λ (f : MemFile). f.bytes.items) (slice_get files i)
