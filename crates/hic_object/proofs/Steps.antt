-- What is read after each count and after each list.
use Rattle.std.proofs.Common.{ℕ, ◌*◌, List, []}
use Rattle.std.specs.Int.{w16, w32}
use Rattle.hic_isa.specs.declared.instr.SegKind.{SegKind}
use Rattle.hic_object.specs.declared.error.CountName.TheVariants as names
use Rattle.hic_object.specs.declared.object.DataRec.{DataRec}
use Rattle.hic_object.specs.Parts.{Parts, parts, most_segments, most_instructions, most_records}
use Rattle.hic_object.specs.Reading.{Reader, ◌>>=◌, gives, items_at, within_at, count_at, Counts, counts, entry_at, kind_at, data_at, instruction_at}

unfoldable pub after_code : ℕ → ℕ → ℕ → Reader Counts
after_code tasks segments code = count_at names.Words w32 0 most_records >>= λ words. gives (counts tasks segments code words)

unfoldable pub after_segments : ℕ → ℕ → Reader Counts
after_segments tasks segments = count_at names.Code w32 1 most_instructions >>= after_code tasks segments

unfoldable pub after_tasks : ℕ → Reader Counts
after_tasks tasks = count_at names.Segments w16 0 most_segments >>= after_segments tasks

abbrev pub entries_at : Counts → Reader (List ℕ)
entries_at h = within_at (4 * h.tasks) (items_at (entry_at h.code) h.tasks [])

abbrev pub kinds_at : Counts → Reader (List SegKind)
kinds_at h = within_at h.segments (items_at kind_at h.segments [])

unfoldable pub after_words : Counts → List ℕ → List SegKind → List DataRec → Reader Parts
after_words h entries kinds words = items_at instruction_at h.code [] >>= λ code. gives (parts entries kinds words code)

unfoldable pub after_kinds : Counts → List ℕ → List SegKind → Reader Parts
after_kinds h entries kinds = items_at (data_at h.segments) h.words [] >>= after_words h entries kinds

unfoldable pub after_entries : Counts → List ℕ → Reader Parts
after_entries h entries = kinds_at h >>= after_kinds h entries
