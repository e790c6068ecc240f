-- Worked rows of the definitions.
use Rattle.std.specs.Prelude.{◌≡◌, ℕ, [], ◌∷◌, Some, None, Ok, Err, refl}
use Rattle.hic_word.specs.declared.Kind.TheVariants.{Num, RefPack}
use Rattle.hic_word.specs.declared.Word.{Word}
use Rattle.hic_word.specs.Stands.{word_of}
use Rattle.seg_cursor.specs.Trails.{fresh}
use Rattle.iter_regs.specs.declared.refusal.IterRefusal.TheVariants.{Closed, Offset}
use Rattle.iter_regs.specs.declared.opened.Open.{Open}
use Rattle.iter_regs.specs.Iters.{attached, emptied, iter_words, load_looks, of_open, renewed, seeks, stored}

abbrev number : ℕ → Word
number n = word_of Num 0 n

abbrev nothing : Word
nothing = word_of RefPack 0 0

-- open on segment 3 at offset 5, with writes to 2 and 5
abbrev at_five : Open
at_five = record { segment = Some 3; cursor = fresh nothing; position = 5; pairs = (2, number 20) ∷ (5, number 0) ∷ [] }

held : iter_words (Some at_five) ≡ nothing ∷ number 20 ∷ number 0 ∷ []
held = refl

closed_holds_nothing : iter_words None ≡ []
closed_holds_nothing = refl

opened : Some (attached (Some 3) nothing) ≡ emptied (Some (record at_five { position = 0 }))
opened = refl

told : of_open (Some at_five) (λ r. r.position) ≡ Ok 5
told = refl

not_told : of_open None (λ r. r.position) ≡ Err Closed
not_told = refl

to_the_last : seeks (Some at_five) 4294967295 ≡ (Ok tt, Some (record at_five { position = 4294967295 }))
to_the_last = refl

past_the_last : seeks (Some at_five) 4294967296 ≡ (Err Offset, Some at_five)
past_the_last = refl

closed_first : seeks None 4294967296 ≡ (Err Closed, None)
closed_first = refl

over_a_word : stored (Some at_five) (number 7) ≡ Some (record at_five { pairs = (2, number 20) ∷ (5, number 7) ∷ [] })
over_a_word = refl

another_snapshot : renewed (Some at_five) (number 9) ≡ Some (record at_five { cursor = fresh (number 9); pairs = [] })
another_snapshot = refl

-- a buffered 0 takes no look either
no_look : load_looks 4 at_five [] ≡ 0
no_look = refl
