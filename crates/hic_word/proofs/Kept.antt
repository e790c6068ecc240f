-- What stands for a value stands for it in any map that keeps the lines that are reached from it.
use Rattle.std.proofs.Common.{◌≡◌, ℕ, ◌^◌, ◌<◌, Bool, true, List, Some, refl, ◌∙◌, ap, inl, inr}
use Rattle.hic_word.specs.declared.Word.{Word}
use Rattle.hic_word.specs.Values.{Value}
use Rattle.hic_word.specs.Entries.{Entries, Entry, Inner, Leaf, LineValue}
use Rattle.hic_word.specs.Names.{Names, named_id}
use Rattle.hic_word.specs.Stands.{AWord, AnEntry, EntriesFor, EntryFor, IdFor, InnerAt, IsEmpty, IsNumber, IsPacked, IsStored, LeafAt, LineFor, Lookup, NamedEntry, NoEntries, NoWord, PackEntry, WordFor, WordsFor, ZeroEntry}
use Rattle.hic_word.specs.Standing.{IsWithin}
use Rattle.hic_word.specs.StandingLaws.{Keeps, StandingGrows, StandingIsKept}
use Rattle.hic_word.proofs.Children.{id_of_kind, node_id}
use Rattle.hic_word.proofs.Tells.{id_fits}

mutual
  pub IdFor-kept : {w : ℕ} (m n : Lookup) (kept : ℕ → Bool) → Keeps m n kept → {id : ℕ} {L : LineValue} → IdFor w m id L → kept id ≡ true → IdFor w n id L
  IdFor-kept m n kept k (LeafAt {id = id} {line = l} b e ws) p = LeafAt b (k.line id l p e) (WordsFor-kept m n kept k ws (λ j h. k.closed id j l p e h))
  IdFor-kept m n kept k (InnerAt {id = id} {line = l} b e es) p = InnerAt b (k.line id l p e) (EntriesFor-kept m n kept k es (λ j h. k.closed id j l p e h))

  pub WordsFor-kept : {w : ℕ} (m n : Lookup) (kept : ℕ → Bool) → Keeps m n kept → {xs : List Word} {vs : List Value} → WordsFor w m xs vs → ((j : ℕ) → Names j xs → kept j ≡ true) → WordsFor w n xs vs
  WordsFor-kept m n kept k NoWord p = NoWord
  WordsFor-kept m n kept k (AWord w ws) p = AWord (WordFor-kept m n kept k w (λ j e. p j (inl e))) (WordsFor-kept m n kept k ws (λ j h. p j (inr h)))

  pub EntriesFor-kept : {w : ℕ} (m n : Lookup) (kept : ℕ → Bool) → Keeps m n kept → {xs : List Word} {es : Entries} → EntriesFor w m xs es → ((j : ℕ) → Names j xs → kept j ≡ true) → EntriesFor w n xs es
  EntriesFor-kept m n kept k NoEntries p = NoEntries
  EntriesFor-kept m n kept k (AnEntry e es) p = AnEntry (EntryFor-kept m n kept k e (λ j h. p j (inl h))) (EntriesFor-kept m n kept k es (λ j h. p j (inr h)))

  pub WordFor-kept : {w : ℕ} (m n : Lookup) (kept : ℕ → Bool) → Keeps m n kept → {x : Word} {v : Value} → WordFor w m x v → ((j : ℕ) → named_id x ≡ Some j → kept j ≡ true) → WordFor w n x v
  WordFor-kept m n kept k (IsNumber e) p = IsNumber e
  WordFor-kept m n kept k (IsEmpty e) p = IsEmpty e
  WordFor-kept m n kept k (IsPacked z e) p = IsPacked z e
  WordFor-kept m n kept k (IsStored {id = j} {p = path} z i e) p =
      IsStored z (IdFor-kept m n kept k i (p j (id_of_kind e ∙ ap (λ (q : ℕ). Some q) (node_id _ j path (id_fits i))))) e

  pub EntryFor-kept : {w : ℕ} (m n : Lookup) (kept : ℕ → Bool) → Keeps m n kept → {x : Word} {v : Entry} → EntryFor w m x v → ((j : ℕ) → named_id x ≡ Some j → kept j ≡ true) → EntryFor w n x v
  EntryFor-kept m n kept k (ZeroEntry e) p = ZeroEntry e
  EntryFor-kept m n kept k (PackEntry e) p = PackEntry e
  EntryFor-kept m n kept k (NamedEntry {id = j} {p = path} i e) p =
      NamedEntry (IdFor-kept m n kept k i (p j (id_of_kind e ∙ ap (λ (q : ℕ). Some q) (node_id _ j path (id_fits i))))) e

-- and in any map with more lines
all_kept : (m n : Lookup) → IsWithin m n → Keeps m n (λ id. true)
all_kept m n within = record { line = λ id l p e. within id l e; closed = λ id j l p e h. refl }

module _ {w : ℕ} (m n : Lookup) (within : IsWithin m n) where
  pub IdFor-within : {id : ℕ} {L : LineValue} → IdFor w m id L → IdFor w n id L
  IdFor-within i = IdFor-kept m n (λ id. true) (all_kept m n within) i refl

  pub WordsFor-within : {xs : List Word} {vs : List Value} → WordsFor w m xs vs → WordsFor w n xs vs
  WordsFor-within d = WordsFor-kept m n (λ id. true) (all_kept m n within) d (λ j h. refl)

  pub EntriesFor-within : {xs : List Word} {es : Entries} → EntriesFor w m xs es → EntriesFor w n xs es
  EntriesFor-within d = EntriesFor-kept m n (λ id. true) (all_kept m n within) d (λ j h. refl)

-- an id whose line stands for a line value in a map with no more lines
pub stands_at : {w : ℕ} (m n : Lookup) (line : List Word) (id : ℕ) (L : LineValue) → IsWithin m n → id < 2 ^ 24 → n id ≡ Some line → LineFor w m line L → IdFor w n id L
stands_at m n line id (Leaf vs) within low there d = LeafAt low there (WordsFor-within m n within d)
stands_at m n line id (Inner es) within low there d = InnerAt low there (EntriesFor-within m n within d)

pub standing_grows : StandingGrows
standing_grows w m n x within = record {
  value = λ v d. WordFor-kept m n (λ id. true) (all_kept m n within) d (λ j e. refl);
  entry = λ e d. EntryFor-kept m n (λ id. true) (all_kept m n within) d (λ j h. refl);
}

pub standing_is_kept : StandingIsKept
standing_is_kept w m n kept k = record {
  id_for = λ id L p i. IdFor-kept m n kept k i p;
  word_for = λ x v p d. WordFor-kept m n kept k d p;
  entry_for = λ x e p d. EntryFor-kept m n kept k d p;
}
