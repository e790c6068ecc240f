-- Open iterator registers: what is read of one, and what the instructions make of it. The names are those of
-- `iter_regs`, whose registers keep words where these have values.
use Rattle.std.specs.Prelude.{ℕ, Bool, ◌&&◌, [], length, Option, Some, None, ◌==◌}
use Rattle.std.specs.Option.{is_none}
use Rattle.hic_word.specs.Values.{Value, Array, at}
use Rattle.hic_word.specs.Changes.{with}
use Rattle.hic_word.specs.View.{next_of}
use Rattle.write_buf.specs.WordPairs.{with_pair, word_at}
use Rattle.hic_plain.specs.Limits.{most_buffered}
use Rattle.hic_plain.specs.Machine.{Iter}

-- ---- what is read

-- the snapshot with the buffered pairs in it
abbrev pub view : Iter → Array
view r = with r.snapshot r.buffered

-- the view's value at the position
abbrev pub loaded : Iter → Value
loaded r = at (view r) r.position

-- the least offset at or above one with a value that is not 0
abbrev pub found_from : Iter → ℕ → Option ℕ
found_from r offset = next_of (view r) offset

-- as many offsets as may be are buffered, and the position is none of them
abbrev pub is_full : Iter → Bool
is_full r = length r.buffered == most_buffered && is_none (word_at r.buffered r.position)

-- ---- what is made of it

-- open on an array, of a segment or of none, at position 0, with nothing buffered
abbrev pub attached : Option ℕ → Array → Iter
attached segment A = record { segment = segment; snapshot = A; position = 0; buffered = [] }

-- at another position
abbrev pub sought : Iter → ℕ → Iter
sought r offset = record r { position = offset }

-- at the offset that was found, if there is one
abbrev pub moved : Iter → Option ℕ → Iter
moved r None = r
moved r (Some offset) = sought r offset

-- a value is buffered at the position
abbrev pub stored : Iter → Value → Iter
stored r v = record r { buffered = with_pair r.buffered r.position v }

-- nothing is buffered any more
abbrev pub emptied : Iter → Iter
emptied r = record r { buffered = [] }

-- another snapshot, and nothing buffered
abbrev pub renewed : Iter → Array → Iter
renewed r A = record r { snapshot = A; buffered = [] }

-- after a commit: renewed on the segment's new array, or as it was where there is none
abbrev pub committed : Iter → Option Array → Iter
committed r None = r
committed r (Some A) = renewed r A
