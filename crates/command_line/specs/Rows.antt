-- Worked rows: command lines, cut at their spaces, with what they ask for.
use Rattle.std.specs.Prelude.{◌≡◌, ℕ, List, [], ◌∷◌, ◌==◌, Option, Some, None, if◌then◌else◌, codes, refl}
use Rattle.clap.specs.Walk.{Text}
use Rattle.clap.proofs.OnLiterals.{clap_on_literals}
use Rattle.command_line.specs.Asked.{Run, Asked, Runs, Lists, Assembles, Disassembles, Demonstrates}
use Rattle.command_line.specs.Request.{request}

abbrev begun_with : ℕ → List Text → List Text
begun_with byte [] = (byte ∷ []) ∷ []
begun_with byte (word ∷ words) = (byte ∷ word) ∷ words

-- 32 is a space
abbrev words : Text → List Text
words [] = [] ∷ []
words (byte ∷ line) = if byte == 32 then [] ∷ words line else begun_with byte (words line)

abbrev asked : Text → Option Asked
asked line = request (words line)

-- a run of program p without options
abbrev p : Run
p = record { program = codes "p"; input = None; schedule = None; steps = 1000000; capacity = 65536 }

-- options stand before the program or behind it, and a value behind its name or in the same word
row-run : asked (codes "run p") ≡ Some (Runs p)
unfolding clap_on_literals
row-run = refl

row-options_last : asked (codes "run p --steps 5") ≡ Some (Runs (record p { steps = 5 }))
unfolding clap_on_literals
row-options_last = refl

row-options_first : asked (codes "run --steps 5 p") ≡ Some (Runs (record p { steps = 5 }))
unfolding clap_on_literals
row-options_first = refl

row-all_options : asked (codes "run --capacity=1 p --input i --schedule=s --steps 0") ≡ Some (Runs (record p { input = Some (codes "i"); schedule = Some (codes "s"); steps = 0; capacity = 1 }))
unfolding clap_on_literals
row-all_options = refl

-- a program has to be there, and nothing else than options beside it
row-no_program : asked (codes "run") ≡ None
unfolding clap_on_literals
row-no_program = refl

row-two_programs : asked (codes "run p q") ≡ None
unfolding clap_on_literals
row-two_programs = refl

row-unknown_option : asked (codes "run p --frob f") ≡ None
unfolding clap_on_literals
row-unknown_option = refl

row-part_of_a_name : asked (codes "run p --inp f") ≡ None
unfolding clap_on_literals
row-part_of_a_name = refl

row-option_twice : asked (codes "run p --steps 5 --steps 5") ≡ None
unfolding clap_on_literals
row-option_twice = refl

row-no_value : asked (codes "run p --input") ≡ None
unfolding clap_on_literals
row-no_value = refl

row-help : asked (codes "run --help") ≡ None
unfolding clap_on_literals
row-help = refl

row-short_help : asked (codes "run -h") ≡ None
unfolding clap_on_literals
row-short_help = refl

row-unknown_command : asked (codes "frob p") ≡ None
row-unknown_command = refl

row-no_command : asked (codes "--steps 5 run p") ≡ None
row-no_command = refl

-- after `--` every word is a text; a dash alone is one; and a value may be empty
row-dashes : asked (codes "run -- p") ≡ Some (Runs p)
unfolding clap_on_literals
row-dashes = refl

row-dashes_before_a_dash : asked (codes "run -- --p") ≡ Some (Runs (record p { program = codes "--p" }))
unfolding clap_on_literals
row-dashes_before_a_dash = refl

row-dash : asked (codes "run -") ≡ Some (Runs (record p { program = codes "-" }))
unfolding clap_on_literals
row-dash = refl

row-dash_as_value : asked (codes "run p --input -") ≡ Some (Runs (record p { input = Some (codes "-") }))
unfolding clap_on_literals
row-dash_as_value = refl

row-dashes_as_value : asked (codes "run --input -- p") ≡ None
unfolding clap_on_literals
row-dashes_as_value = refl

row-empty_value : asked (codes "run p --input=") ≡ Some (Runs (record p { input = Some [] }))
unfolding clap_on_literals
row-empty_value = refl

-- numbers
row-most_steps : asked (codes "run p --steps 1000000000000") ≡ Some (Runs (record p { steps = 1000000000000 }))
unfolding clap_on_literals
row-most_steps = refl

row-too_many_steps : asked (codes "run p --steps 1000000000001") ≡ None
unfolding clap_on_literals
row-too_many_steps = refl

row-no_capacity : asked (codes "run p --capacity 0") ≡ None
unfolding clap_on_literals
row-no_capacity = refl

row-most_capacity : asked (codes "run p --capacity 1048576") ≡ Some (Runs (record p { capacity = 1048576 }))
unfolding clap_on_literals
row-most_capacity = refl

row-too_much_capacity : asked (codes "run p --capacity 1048577") ≡ None
unfolding clap_on_literals
row-too_much_capacity = refl

row-no_digit : asked (codes "run p --steps=") ≡ None
unfolding clap_on_literals
row-no_digit = refl

row-minus : asked (codes "run p --steps=-5") ≡ None
unfolding clap_on_literals
row-minus = refl

row-plus : asked (codes "run p --steps=+5") ≡ None
unfolding clap_on_literals
row-plus = refl

row-a_letter : asked (codes "run p --steps 5k") ≡ None
unfolding clap_on_literals
row-a_letter = refl

row-twenty_digits : asked (codes "run p --steps 00000000000000000005") ≡ Some (Runs (record p { steps = 5 }))
unfolding clap_on_literals
row-twenty_digits = refl

row-twenty_one_digits : asked (codes "run p --steps 000000000000000000005") ≡ None
unfolding clap_on_literals
row-twenty_one_digits = refl

-- the listing takes what a run takes
row-lines : asked (codes "lines --capacity=1 p --input i --schedule=s --steps 0") ≡ Some (Lists (record p { input = Some (codes "i"); schedule = Some (codes "s"); steps = 0; capacity = 1 }))
unfolding clap_on_literals
row-lines = refl

row-lines_of_nothing : asked (codes "lines") ≡ None
unfolding clap_on_literals
row-lines_of_nothing = refl

-- these commands take one file and nothing else
row-asm : asked (codes "asm s") ≡ Some (Assembles (codes "s"))
unfolding clap_on_literals
row-asm = refl

row-dis : asked (codes "dis p") ≡ Some (Disassembles (codes "p"))
unfolding clap_on_literals
row-dis = refl

row-two_sources : asked (codes "asm s t") ≡ None
unfolding clap_on_literals
row-two_sources = refl

row-dis_with_steps : asked (codes "dis p --steps 5") ≡ None
unfolding clap_on_literals
row-dis_with_steps = refl

-- a demo takes two numbers
row-demo : asked (codes "demo 18446744073709551615 4096") ≡ Some (Demonstrates (record { seed = 18446744073709551615; size = 4096 }))
unfolding clap_on_literals
row-demo = refl

row-demo_least : asked (codes "demo 0 -- 0001") ≡ Some (Demonstrates (record { seed = 0; size = 1 }))
unfolding clap_on_literals
row-demo_least = refl

row-demo_past_the_seeds : asked (codes "demo 18446744073709551616 1") ≡ None
unfolding clap_on_literals
row-demo_past_the_seeds = refl

row-demo_of_nothing : asked (codes "demo 1 0") ≡ None
unfolding clap_on_literals
row-demo_of_nothing = refl

row-demo_past_the_sizes : asked (codes "demo 1 4097") ≡ None
unfolding clap_on_literals
row-demo_past_the_sizes = refl

row-demo_of_a_seed : asked (codes "demo 1") ≡ None
unfolding clap_on_literals
row-demo_of_a_seed = refl

row-demo_by_a_letter : asked (codes "demo x 1") ≡ None
unfolding clap_on_literals
row-demo_by_a_letter = refl

-- no word at all
row-no_word : request [] ≡ None
row-no_word = refl
