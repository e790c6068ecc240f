-- A register whose cursor went elsewhere in its snapshot.
use Rattle.std.proofs.Common.{◌≡◌, ℕ, ◌+◌, ◌^◌, ◌<◌, Bool, true, false, ◌∷◌, Option, Some, None, Ok, refl, sym, ◌∙◌, ap, subst, arith}
use Rattle.std.specs.Option.{is_some}
use Rattle.hic_word.specs.Values.{Array}
use Rattle.hic_word.specs.View.{next_of}
use Rattle.hic_word.specs.InMemory.{CanApply}
use Rattle.hic_word.specs.Memory.{Memory}
use Rattle.hic_word.proofs.callers.Forms.{changes_are_made}
use Rattle.iter_regs.specs.declared.opened.Open.{Open}
use Rattle.iter_regs.specs.Iters.{FoundLooks, OpenFor, SameButCursor, SearchNear, Searched, Searches, SearchesBy, open_if, open_words, view, went_to, words_of}
use Rattle.iter_regs.proofs.NextInView.{no_next_past}

-- ---- a register by its flag

pub is_opened : {b : Bool} {r : Open} {o : Option Open} → open_if b r ≡ o → b ≡ true → o ≡ Some r
is_opened {b} {r} e is = sym e ∙ ap (λ f. open_if f r) is

pub is_closed : {b : Bool} {o : Option Open} (r : Open) → open_if b r ≡ o → b ≡ false → o ≡ None
is_closed r e is = sym e ∙ ap (λ f. open_if f r) is

-- ---- another cursor

pub same_as : (m : Memory) (r : Open) → SameButCursor m r r
same_as m r = record { segment = refl; position = refl; pairs = refl; root = refl; cursor = λ A f. f }

-- it keeps the same words, and stands for the same
module _ {m : Memory} {r s : Open} (same : SameButCursor m r s) where
  pub same_words : open_words s ≡ open_words r
  same_words = ap (λ x. x ∷ words_of s.pairs) same.root ∙ ap (λ ps. r.cursor.root ∷ words_of ps) same.pairs

  pub same_stands : (A L : Array) → OpenFor m r A L → OpenFor m s A L
  same_stands A L for = record {
    can_apply = subst (λ x. CanApply m x s.pairs A L) (sym same.root) (subst (λ ps. CanApply m r.cursor.root ps A L) (sym same.pairs) for.can_apply);
    cursor = same.cursor A for.cursor;
  }

-- so does one at another position
pub went_words : (r : Open) (found : Option ℕ) → open_words (went_to r found) ≡ open_words r
went_words r None = refl
went_words r (Some offset) = refl

pub went_stands : {m : Memory} {A L : Array} (r : Open) (found : Option ℕ) → OpenFor m r A L → OpenFor m (went_to r found) A L
went_stands r None for = for
went_stands r (Some offset) for = record { can_apply = for.can_apply; cursor = for.cursor }

-- the answer of a search, by what was found
pub searched_as : (m : Memory) (r s : Open) (o found : Option ℕ) → o ≡ found → SameButCursor m (went_to r o) s → Searched m r found (Ok (is_some o), Some s)
searched_as m r s o found e same = subst (λ f. Searched m r f (Ok (is_some o), Some s)) e (s, refl, same)

-- ---- above the last offset nothing is found

module _ (m : Memory) (r : Open) (high : r.position + 1 < 2 ^ 32 → ⊥) where
  none_above : (A L : Array) → OpenFor m r A L → None ≡ next_of (view A L) (r.position + 1)
  none_above A L for = sym (no_next_past (view A L) (r.position + 1) (changes_are_made A L for.can_apply.root_for.valid for.can_apply.ascend).0 (omega (arith, high)))

  pub none_past : Searches m (Some r) 1 (Ok false, Some r)
  none_past A L for = searched_as m r r None _ (none_above A L for) (same_as m r)

  pub stays_past : SearchesBy m r (r.position + 1) r.cursor
  stays_past = record { found = λ none low. absurd (high low); past = λ _. refl }

  pub near_past : (n : ℕ) → SearchNear m r (r.position + 1) n n
  near_past n none p last from most A L for = subst (λ f. FoundLooks p f n n) (none_above A L for) refl
