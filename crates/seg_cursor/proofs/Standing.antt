-- A cursor stays true where the memory changes and its root stays held.
use Rattle.std.proofs.Common.{◌≡◌, ℕ, zero, suc, List, [], ◌∷◌, Option, None, Some, IsSome, sym, ◌∙◌, ap, inl, inr}
use Rattle.hic_word.specs.declared.Word.{Word}
use Rattle.hic_word.specs.Values.{Array, Ref, Value, pairs}
use Rattle.hic_word.specs.Entries.{Entries, Inner, Leaf, LineValue, More, NoEntry}
use Rattle.hic_word.specs.Exchanges.{KeepsLines}
use Rattle.hic_word.specs.Holds.{Holds, IsLive}
use Rattle.hic_word.specs.Memory.{Memory, line_at, width}
use Rattle.hic_word.specs.Names.{Names}
use Rattle.hic_word.specs.Stands.{AWord, AnEntry, EntriesFor, LineFor, WordsFor}
use Rattle.hic_word.proofs.callers.Holds.{is_there}
use Rattle.hic_word.proofs.callers.Standing.{live_words_stand_on, standing_words_are_live}
use Rattle.seg_canon.proofs.Quarters.{lines_are_stored}
use Rattle.seg_read.specs.Founds.{word_in}
use Rattle.seg_cursor.specs.Pieces.{Further, IsReached, Named, PieceFor}
use Rattle.seg_cursor.specs.Trails.{CursorFor, KeptFor, LineKept, Trail}
use Rattle.seg_cursor.proofs.Walking.{word_named}

-- what a line that stands for something names is live
words_live : (n : Memory) (line : List Word) (vs : List Value) (id : ℕ) → WordsFor 4 (line_at n) line vs → Names id line → IsSome (line_at n id)
words_live n [] vs id f names = absurd names
words_live n (x ∷ xs) [] id f names = elim f [ ]
words_live n (x ∷ xs) (v ∷ vs) id (AWord w ws) (inl e) = standing_words_are_live 4 n x (inl (v, w)) id e
words_live n (x ∷ xs) (v ∷ vs) id (AWord w ws) (inr later) = words_live n xs vs id ws later

entries_live : (n : Memory) (line : List Word) (es : Entries) (id : ℕ) → EntriesFor 4 (line_at n) line es → Names id line → IsSome (line_at n id)
entries_live n [] es id f names = absurd names
entries_live n (x ∷ xs) NoEntry id f names = elim f [ ]
entries_live n (x ∷ xs) (More e es) id (AnEntry w ws) (inl is) = standing_words_are_live 4 n x (inr (e, w)) id is
entries_live n (x ∷ xs) (More e es) id (AnEntry w ws) (inr later) = entries_live n xs es id ws later

line_live : (n : Memory) (line : List Word) (L : LineValue) (id : ℕ) → LineFor 4 (line_at n) line L → Names id line → IsSome (line_at n id)
line_live n line (Leaf vs) id f names = words_live n line vs id f names
line_live n line (Inner es) id f names = entries_live n line es id f names

module _ (m n : Memory) (H : List Word) (keeps : KeepsLines m n) (held : Holds (width n) n H) where
  -- a line whose id is live stays
  line_stays : (id : ℕ) (line : List Word) → IsSome (line_at n id) → line_at m id ≡ Some line → line_at n id ≡ Some line
  line_stays id line live e = let (now, there) = is_there (line_at n id) live in there ∙ ap (λ (l : List Word). Some l) (sym (keeps id line now e there))

  -- what is reached from a live root is live, and reached still
  reached_live : (root : Word) (id : ℕ) → IsLive n root → IsReached (line_at m) root id → IsSome (line_at n id)
  reached_live root id live (Named e) = live id e
  reached_live root id live (Further {id = above} {line = line} r e names) =
      let there = line_stays above line (reached_live root above live r) e in
      let (L, stands, made) = held.balanced.stands above line there in
      line_live n line L id (lines_are_stored 4 (line_at n) above L line stands there) names

  reached_on : (root : Word) (id : ℕ) → IsLive n root → IsReached (line_at m) root id → IsReached (line_at n) root id
  reached_on root id live (Named e) = Named e
  reached_on root id live (Further {id = above} {line = line} r e names) = Further (reached_on root above live r) (line_stays above line (reached_live root above live r) e) names

  piece_on : (h : ℕ) (x : Word) (A : Array) (k : ℕ) → IsLive n x → PieceFor (line_at m) h x A k → PieceFor (line_at n) h x A k
  piece_on zero x A k live f = (live_words_stand_on (width n) m n H x keeps held live).value _ f
  piece_on (suc h) x A k live f = record { is_part = f.is_part; high = f.high; low = f.low; entry = (live_words_stand_on (width n) m n H x keeps held live).entry _ f.entry }

  line_on : (root : Word) (A : Array) (h : ℕ) (words : List Word) (k : ℕ) → IsLive n root → LineKept (line_at m) root A h words k → LineKept (line_at n) root A h words k
  line_on root A h words k live l = record {
    pieces = λ q low. piece_on h (word_in words q) A _ (λ id e. reached_live root id live (l.reached id (word_named words q id e))) (l.pieces q low);
    reached = λ id names. reached_on root id live (l.reached id names);
  }

  kept_on : (root : Word) (A : Array) (lines : List (List Word)) (end : ℕ) (last : Option ℕ) → IsLive n root → KeptFor (line_at m) root A lines end last → KeptFor (line_at n) root A lines end last
  kept_on root A lines end None live kept = tt
  kept_on root A lines end (Some i) live kept = (kept.0, λ h from low. line_on root A h _ _ live (kept.1 h from low))

  pub cursor_stands_on : (c : Trail) (A : Array) → IsLive n c.root → CursorFor m c A → CursorFor n c A
  cursor_stands_on c A live f = record {
    root_for = record { valid = f.root_for.valid; word = (live_words_stand_on (width n) m n H c.root keeps held live).value (Ref (pairs A)) f.root_for.word };
    kept = kept_on c.root A c.lines c.end c.last live f.kept;
  }
