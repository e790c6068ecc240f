-- The numbers of the machine. Those of an object, as the most tasks, stand with objects.
use Rattle.std.specs.Prelude.{ℕ, ◌^◌}

-- the registers of a task, and its iterator registers
abbrev pub register_count : ℕ
register_count = 8

abbrev pub iterator_count : ℕ
iterator_count = 4

-- the most pairs that an iterator register buffers
abbrev pub most_buffered : ℕ
most_buffered = 64

-- the words of an array: offsets are below this
abbrev pub offset_count : ℕ
offset_count = 2 ^ 32

-- what is read at the end of the input: no byte
abbrev pub end_of_input : ℕ
end_of_input = 256
