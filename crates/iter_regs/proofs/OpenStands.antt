-- What an open register stands for after a word was stored in it, and in a memory that came to be another.
use Rattle.std.proofs.Common.{◌≡◌, ℕ, ◌^◌, ◌<◌, eqb, ltb, Bool, true, false, List, [], ◌∷◌, if◌then◌else◌, refl, ap, inl, inr, arith}
use Rattle.hic_word.specs.declared.Word.{Word}
use Rattle.hic_word.specs.Lists.{In}
use Rattle.hic_word.specs.Values.{Array, IsValue, Value}
use Rattle.hic_word.specs.Exchanges.{KeepsLines}
use Rattle.hic_word.specs.Holds.{Holds}
use Rattle.hic_word.specs.InMemory.{ChangesFor, WordIn}
use Rattle.hic_word.specs.Memory.{Memory, line_at, width}
use Rattle.hic_word.specs.Stands.{Lookup, WordFor}
use Rattle.hic_word.proofs.callers.Standing.{held_word_live, live_words_stand_on}
use Rattle.seg_cursor.proofs.Standing.{cursor_stands_on}
use Rattle.write_buf.specs.WordPairs.{WordPairs, with_pair}
use Rattle.write_buf.proofs.ValuePairs.{pair_changes}
use Rattle.iter_regs.specs.declared.opened.Open.{Open}
use Rattle.iter_regs.specs.Iters.{OpenFor, open_words, with_stored, words_of}

-- ---- a word stored

pub stored_for : (w : ℕ) (m : Lookup) (cs : WordPairs) (L : Array) (o : ℕ) (x : Word) (v : Value) → ChangesFor w m cs L → WordFor w m x v → ChangesFor w m (with_pair cs o x) (with_pair L o v)
stored_for w m [] [] o x v d e = (refl, e, tt)
stored_for w m [] (p ∷ L) o x v d e = absurd d
stored_for w m (c ∷ cs) [] o x v d e = absurd d
stored_for w m (c ∷ cs) (p ∷ L) o x v d e = go (eqb c.0 o) (eqb p.0 o) (ltb c.0 o) (ltb p.0 o) (ap (λ i. eqb i o) d.0) (ap (λ i. ltb i o) d.0) (stored_for w m cs L o x v d.2 e)
  where
    go : (s t f g : Bool) → s ≡ t → f ≡ g → ChangesFor w m (with_pair cs o x) (with_pair L o v)
        → ChangesFor w m (if s then (o, x) ∷ cs else (if f then c ∷ with_pair cs o x else (o, x) ∷ c ∷ cs)) (if t then (o, v) ∷ L else (if g then p ∷ with_pair L o v else (o, v) ∷ p ∷ L))
    go true true f g s h later = (refl, e, d.2)
    go true false f g s h later = cc
    go false true f g s h later = cc
    go false false true true s h later = (d.0, d.1, later)
    go false false true false s h later = cc
    go false false false true s h later = cc
    go false false false false s h later = (refl, e, d)

-- with a word stored at the position the pairs have its value there
pub stored_stands : (m : Memory) (r : Open) (A L : Array) (x : Word) (v : Value) → OpenFor m r A L → r.position < 2 ^ 32 → IsValue v → WordIn m x v → OpenFor m (with_stored r x) A (with_pair L r.position v)
stored_stands m r A L x v for low valid e = record {
  can_apply = record {
    root_for = for.can_apply.root_for;
    changes_for = stored_for (width m) (line_at m) r.pairs L r.position x v for.can_apply.changes_for e;
    ascend = pair_changes 0 L r.position v for.can_apply.ascend (omega arith) low valid;
  };
  cursor = for.cursor;
}

-- ---- another memory

module _ (m n : Memory) (H : List Word) (keeps : KeepsLines m n) (held : Holds (width n) n H) where
  word_on : (x : Word) (v : Value) → In x H → WordIn m x v → WordIn n x v
  word_on x v there e = (live_words_stand_on (width n) m n H x keeps held (held_word_live n H x held there)).value v e

  changes_on : (cs : WordPairs) (L : Array) → ((x : Word) → In x (words_of cs) → In x H) → ChangesFor (width m) (line_at m) cs L → ChangesFor (width n) (line_at n) cs L
  changes_on [] [] there d = tt
  changes_on [] (p ∷ L) there d = absurd d
  changes_on (c ∷ cs) [] there d = absurd d
  changes_on (c ∷ cs) (p ∷ L) there d = (d.0, word_on c.1 p.1 (there c.1 (inl refl)) d.1, changes_on cs L (λ x i. there x (inr i)) d.2)

  -- a register whose words are held stands for what it stood for
  pub open_stands_on : (r : Open) (A L : Array) → ((x : Word) → In x (open_words r) → In x H) → OpenFor m r A L → OpenFor n r A L
  open_stands_on r A L there for =
      let moved = cursor_stands_on m n H keeps held r.cursor A (held_word_live n H r.cursor.root held (there r.cursor.root (inl refl))) for.cursor in
      record {
        can_apply = record {
          root_for = moved.root_for;
          changes_for = changes_on r.pairs L (λ x i. there x (inr i)) for.can_apply.changes_for;
          ascend = for.can_apply.ascend;
        };
        cursor = moved;
      }
