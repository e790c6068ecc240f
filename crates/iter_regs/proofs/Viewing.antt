-- The view of a register, word by word.
use Rattle.std.proofs.Common.{◌≡◌, ℕ, Bool, true, false, cond, eqb, [], ◌∷◌, Some, None, refl, sym, ◌∙◌, ap, subst}
use Rattle.hic_word.specs.declared.Word.{Word}
use Rattle.hic_word.specs.Values.{Array, Value, at}
use Rattle.hic_word.specs.Changes.{value_after, with}
use Rattle.hic_word.specs.Memory.{Memory}
use Rattle.hic_word.specs.InMemory.{CanApply, ChangesFor, WordIn}
use Rattle.hic_word.specs.Stands.{Lookup, WordFor}
use Rattle.hic_word.proofs.callers.Forms.{changes_are_made}
use Rattle.write_buf.specs.WordPairs.{WordPairs, word_at}

module _ (w : ℕ) (m : Lookup) where
  buffered : (cs : WordPairs) (L : Array) (i : ℕ) (word : Word) (v : Value) → ChangesFor w m cs L → word_at cs i ≡ Some word → WordFor w m word (value_after L i v)
  buffered [] L i word v d e = cc
  buffered (c ∷ cs) [] i word v d e = absurd d
  buffered (c ∷ cs) (p ∷ L) i word v d e = go (eqb c.0 i) (ap (λ o. eqb o i) (sym d.0)) e (buffered cs L i word v d.2)
    where
      the_same : Some c.1 ≡ Some word → c.1 ≡ word
      the_same f = cc

      go : (b : Bool) → eqb p.0 i ≡ b → cond b (Some c.1) (word_at cs i) ≡ Some word → (word_at cs i ≡ Some word → WordFor w m word (value_after L i v)) → WordFor w m word (cond (eqb p.0 i) p.1 (value_after L i v))
      go true s f later = subst (λ x. WordFor w m x (cond (eqb p.0 i) p.1 (value_after L i v))) (the_same f) (subst (λ b. WordFor w m c.1 (cond b p.1 (value_after L i v))) (sym s) d.1)
      go false s f later = subst (λ b. WordFor w m word (cond b p.1 (value_after L i v))) (sym s) (later f)

  not_buffered : (cs : WordPairs) (L : Array) (i : ℕ) (v : Value) → ChangesFor w m cs L → word_at cs i ≡ None → value_after L i v ≡ v
  not_buffered [] [] i v d e = refl
  not_buffered [] (p ∷ L) i v d e = absurd d
  not_buffered (c ∷ cs) [] i v d e = absurd d
  not_buffered (c ∷ cs) (p ∷ L) i v d e = go (eqb c.0 i) (ap (λ o. eqb o i) (sym d.0)) e (not_buffered cs L i v d.2)
    where
      go : (b : Bool) → eqb p.0 i ≡ b → cond b (Some c.1) (word_at cs i) ≡ None → (word_at cs i ≡ None → value_after L i v ≡ v) → cond (eqb p.0 i) p.1 (value_after L i v) ≡ v
      go true s f later = cc
      go false s f later = ap (λ b. cond b p.1 (value_after L i v)) s ∙ later f

module _ (m : Memory) (root : Word) (cs : WordPairs) (A L : Array) (i : ℕ) (word : Word) (can : CanApply m root cs A L) where
  -- a buffered word is the view's
  pub viewed_buffered : word_at cs i ≡ Some word → WordIn m word (at (with A L) i)
  viewed_buffered e = subst (WordIn m word) (sym ((changes_are_made A L can.root_for.valid can.ascend).1 i)) (buffered _ _ cs L i word (at A i) can.changes_for e)

  -- where none is, the snapshot's is
  pub viewed_below : word_at cs i ≡ None → WordIn m word (at A i) → WordIn m word (at (with A L) i)
  viewed_below e d = subst (WordIn m word) (sym ((changes_are_made A L can.root_for.valid can.ascend).1 i ∙ not_buffered _ _ cs L i (at A i) can.changes_for e)) d
