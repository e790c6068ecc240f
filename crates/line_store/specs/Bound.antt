-- How many lines there are in a bucket.
use Rattle.std.specs.Prelude.{ℕ, ◌==◌, List, count_by}
use Rattle.std.specs.FinMap as map
use Rattle.hic_word.specs.declared.Word.{Word}
use Rattle.hic_word.specs.Memory.{Memory}
use Rattle.line_hash.specs.Hash.{bucket}
use Rattle.line_store.specs.Stored.{bucket_count}

-- how many lines of a memory are in the bucket of a line, where an eighth as many buckets as lines are told apart
abbrev pub lines_beside : Memory → List Word → ℕ
lines_beside m line = count_by (λ (e : ℕ × List Word). bucket e.1 (bucket_count m.layout.cap) == bucket line (bucket_count m.layout.cap)) (map.entries m.lines)
