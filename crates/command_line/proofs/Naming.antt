-- Words that name no command.
use Rattle.std.proofs.Common.{◌≡◌, List, [], ◌∷◌, None, false, refl, rules, find, bytes_eq}
use Rattle.clap.specs.Walk.{Text}
use Rattle.command_line.specs.Commands.{Command}

-- the word is none of theirs
abbrev pub Misses : Text → List Command → Type 0
Misses word [] = Unit {0}
Misses word (c ∷ cs) = (word ≡ c.word → ⊥) × Misses word cs

pub none_named : (word : Text) (cs : List Command) → Misses word cs → find (λ c. bytes_eq c.word word) cs ≡ None
none_named word [] h = refl
none_named word (c ∷ cs) h =
    let miss = h.0 in
    let differs : bytes_eq c.word word ≡ false = search (rules, miss) in
    rw differs (none_named word cs h.1)
