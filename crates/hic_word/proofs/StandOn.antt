-- Words that are live in a memory that holds words stand for what they stood for, where no id got another line.
use Rattle.std.proofs.Common.{◌≡◌, ℕ, ◌≤◌, List, Some, sym, ◌∙◌, ap, IsSome}
use Rattle.std.specs.Prelude.{is_some}
use Rattle.hic_word.specs.declared.Word.{Word}
use Rattle.hic_word.specs.Lists.{times}
use Rattle.hic_word.specs.Values.{Value}
use Rattle.hic_word.specs.Names.{names_in}
use Rattle.hic_word.specs.Memory.{Memory, line_at}
use Rattle.hic_word.specs.Stands.{WordsFor}
use Rattle.hic_word.specs.StandingLaws.{Keeps}
use Rattle.hic_word.specs.Holds.{Holds}
use Rattle.hic_word.specs.Exchanges.{KeepsLines}
use Rattle.hic_word.specs.ExchangeLaws.{LiveWordsStandOn}
use Rattle.hic_word.proofs.Counting.{is_there, live_counted, names_counted}
use Rattle.hic_word.proofs.Freeing.{live_closed}
use Rattle.hic_word.proofs.Kept.{EntryFor-kept, WordFor-kept, WordsFor-kept}

-- a line of the old memory whose id is live in the new one is its line there
pub stays : (old new : Memory) → KeepsLines old new → (id : ℕ) (line : List Word) → IsSome (line_at new id)
    → line_at old id ≡ Some line → line_at new id ≡ Some line
stays old new keeps id line live e =
    let (now, there) = is_there (line_at new id) live in
    there ∙ ap (λ (l : List Word). Some l) (sym (keeps id line now e there))

-- what is reached from a live id is live
live_kept : {w : ℕ} (old new : Memory) (H : List Word) → KeepsLines old new → Holds w new H
    → Keeps (line_at old) (line_at new) (λ id. is_some (line_at new id))
live_kept old new H keeps held = record {
  line = stays old new keeps;
  closed = λ id j line live e names. live_closed new H held.balanced j (live_counted new id j line (stays old new keeps id line live e) names);
}

pub live_words_stand_on : LiveWordsStandOn
live_words_stand_on w old new H x keeps held live =
    let kept = live_kept old new H keeps held in
    record {
      value = λ v d. WordFor-kept (line_at old) (line_at new) (λ id. is_some (line_at new id)) kept d live;
      entry = λ e d. EntryFor-kept (line_at old) (line_at new) (λ id. is_some (line_at new id)) kept d live;
    }

-- the same for words one by one, of which each that names an id names a live one
pub words_stand_on : {w : ℕ} (old new : Memory) (H ws : List Word) (vs : List Value) → KeepsLines old new → Holds w new H
    → ((id : ℕ) → 1 ≤ times id (names_in ws) → IsSome (line_at new id)) → WordsFor w (line_at old) ws vs → WordsFor w (line_at new) ws vs
words_stand_on old new H ws vs keeps held live d =
    WordsFor-kept (line_at old) (line_at new) (λ id. is_some (line_at new id)) (live_kept old new H keeps held) d (λ j names. live j (names_counted j ws names))
