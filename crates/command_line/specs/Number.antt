-- Numbers as words of the command line.
use Rattle.std.specs.Prelude.{ℕ, Bool, ◌&&◌, not, ◌==◌, length, Option, Some, None, nat_le, if◌then◌else◌}
use Rattle.std.specs.Char.{is_ascii_digit}
use Rattle.std.specs.List.{list_all}
use Rattle.std.specs.Str.Parse.{digits_value}
use Rattle.clap.specs.Walk.{Text}
use Rattle.command_line.specs.Limits.{most_digits}

-- 1 to 20 decimal digits
abbrev pub is_numeral : Text → Bool
is_numeral text = not (length text == 0) && (nat_le (length text) most_digits && list_all is_ascii_digit text)

abbrev pub is_between : ℕ → ℕ → ℕ → Bool
is_between least most number = nat_le least number && nat_le number most

-- the number that a text writes, if it is one from `least` to `most`
abbrev pub number_in : ℕ → ℕ → Text → Option ℕ
number_in least most text =
    if is_numeral text && is_between least most (digits_value 10 text) then Some (digits_value 10 text) else None

-- the same of a text that may be left out
abbrev pub number_or : ℕ → ℕ → ℕ → Option Text → Option ℕ
number_or default least most None = Some default
number_or default least most (Some text) = number_in least most text
