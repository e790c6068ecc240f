-- Changes joined one after another: the writes of a commit that change something, or all of mcas.
use Rattle.std.proofs.Common.{◌≡◌, ℕ, suc, ◌+◌, ◌*◌, ◌≤◌, true, false, not, cond, [], ◌∷◌, ◌++◌, length, Option, Some, None, refl, sym, ◌∙◌, ap, subst, arith}
use Rattle.std.proofs.Math.Nat.{add-mul}
use Rattle.std.proofs.lemmas.List.{length-append}
use Rattle.hic_isa.specs.declared.instr.SegKind.{SegKind}
use Rattle.hic_word.specs.declared.Word.{Word}
use Rattle.hic_word.specs.Values.{Array, IsArray, IsValue, Value, at}
use Rattle.hic_word.specs.Changes.{AreChanges}
use Rattle.hic_word.specs.InMemory.{CanApply, WordIn}
use Rattle.hic_word.specs.Memory.{Memory}
use Rattle.hic_word.proofs.callers.Forms.{value_at, values_of_array}
use Rattle.segment_map.specs.Merging.{Changes, effective, joined, joined_before, joined_changes}
use Rattle.line_mem.specs.Looks.{LooksUpTo}
use Rattle.write_buf.specs.WordPairs.{WordPairs}
use Rattle.merge_update.specs.Joins.{HasNoEqualLines, JoinsFor, PairsFor, ValidIn, WordOrNone}
use Rattle.merge_update.proofs.Joining.{other_told, same_told}

-- changes before what follows, if that was joined
abbrev pub all_before : Changes → Option Changes → Option Changes
all_before [] rest = rest
all_before (c ∷ cs) rest = joined_before c.0 (Some c.1) (all_before cs rest)

one_more_before : (cs : Changes) (offset : ℕ) (v : Value) (rest : Option Changes) → all_before (cs ++ (offset, v) ∷ []) rest ≡ all_before cs (joined_before offset (Some v) rest)
one_more_before [] offset v rest = refl
one_more_before (c ∷ cs) offset v rest = ap (joined_before c.0 (Some c.1)) (one_more_before cs offset v rest)

before_none : (cs : Changes) → all_before cs None ≡ None
before_none [] = refl
before_none (c ∷ cs) = ap (joined_before c.0 (Some c.1)) (before_none cs)

before_nothing : (cs : Changes) → all_before cs (Some []) ≡ Some cs
before_nothing [] = refl
before_nothing (c ∷ cs) = ap (joined_before c.0 (Some c.1)) (before_nothing cs)

no_word_before : (offset : ℕ) (joins : Option Changes) → joined_before offset None joins ≡ None
no_word_before offset joins = refl

pub one_more_pair : (m : Memory) (out : WordPairs) (done : Changes) (offset : ℕ) (x : Word) (v : Value) → PairsFor m out done → WordIn m x v → PairsFor m (out ++ (offset, x) ∷ []) (done ++ (offset, v) ∷ [])
one_more_pair m [] [] offset x v d e = (refl, e, tt)
one_more_pair m [] (p ∷ done) offset x v d e = absurd d
one_more_pair m (c ∷ out) [] offset x v d e = absurd d
one_more_pair m (c ∷ out) (p ∷ done) offset x v d e = (d.0, d.1, one_more_pair m out done offset x v d.2 e)

at_valid : (A : Array) → IsArray A → (i : ℕ) → IsValue (at A i)
at_valid A a i = value_at A i (values_of_array A a)

-- `out` stands for the changes that are joined, and `left` for those that are left, of which `keep` keeps those to join
pub record Joining (m : Memory) (kind : SegKind) (keep : Changes → Changes) (S W P : Array) (left out : WordPairs) : Type 0 where
  pub done : Changes
  pub done_for : PairsFor m out done
  pub rest : Changes
  pub rest_for : PairsFor m left rest
  pub from : ℕ
  pub valid : AreChanges from rest
  pub joins : joined_changes kind S (keep W) P ≡ all_before done (joined_changes kind S (keep rest) P)

pub joining_first : (m : Memory) (kind : SegKind) (keep : Changes → Changes) (S W P : Array) (root : Word) (writes out : WordPairs) → CanApply m root writes S W → out ≡ [] → Joining m kind keep S W P writes out
joining_first m kind keep S W P root writes out can none = record {
  done = [];
  done_for = subst (λ ps. PairsFor m ps []) (sym none) tt;
  rest = W;
  rest_for = can.changes_for;
  from = 0;
  valid = can.ascend;
  joins = refl;
}

pub joining_last : (m : Memory) (kind : SegKind) (keep : Changes → Changes) (S W P : Array) (left out : WordPairs) → keep [] ≡ [] → left ≡ [] → Joining m kind keep S W P left out → JoinsFor m true out (joined_changes kind S (keep W) P)
joining_last m kind keep S W P left out nothing none s = go s.rest (subst (λ ps. PairsFor m ps s.rest) none s.rest_for) s.joins
  where
    go : (rest : Changes) → PairsFor m [] rest → joined_changes kind S (keep W) P ≡ all_before s.done (joined_changes kind S (keep rest) P) → JoinsFor m true out (joined_changes kind S (keep W) P)
    go [] d e = subst (JoinsFor m true out) (sym (e ∙ ap (λ cs. all_before s.done (joined_changes kind S cs P)) nothing ∙ before_nothing s.done)) s.done_for
    go (p ∷ rest) d e = absurd d

-- what is kept of changes whose first one a pair stands for, `old` being the word before it
abbrev pub KeepsFirst : Memory → (Changes → Changes) → Array → (c : ℕ × Word) → (old : Word) → Type 0
KeepsFirst m keep S c old = (p : ℕ × Value) (rest : Changes) → ValidIn m c.1 p.1 → ValidIn m old (at S p.0) → keep (p ∷ rest) ≡ p ∷ keep rest

abbrev pub SkipsFirst : Memory → (Changes → Changes) → Array → (c : ℕ × Word) → (old : Word) → Type 0
SkipsFirst m keep S c old = (p : ℕ × Value) (rest : Changes) → ValidIn m c.1 p.1 → ValidIn m old (at S p.0) → keep (p ∷ rest) ≡ keep rest

-- of writes those are kept that change something
module _ (m : Memory) (unique : HasNoEqualLines m) (S : Array) (c : ℕ × Word) (old : Word) where
  pub same_is_skipped : c.1 ≡ old → SkipsFirst m (effective S) S c old
  same_is_skipped same p rest mine was = ap (λ b. cond (not b) (p ∷ effective S rest) (effective S rest)) (same_told m unique c.1 old p.1 (at S p.0) mine was same)

  pub other_is_kept : (c.1 ≡ old → ⊥) → KeepsFirst m (effective S) S c old
  other_is_kept other p rest mine was = ap (λ b. cond (not b) (p ∷ effective S rest) (effective S rest)) (other_told m unique c.1 old p.1 (at S p.0) mine was other)

module _ (m : Memory) (kind : SegKind) (keep : Changes → Changes) (S W P : Array) (snapshot : IsArray S) (present : IsArray P) (left : WordPairs) (c : ℕ × Word) (cs out : WordPairs) (first : left ≡ c ∷ cs) (s : Joining m kind keep S W P left out) (old : Word) (old_for : WordIn m old (at S c.0)) where
  -- what is said of the first change that is left
  with_first : {X : Type 0} → ((p : ℕ × Value) (rest : Changes) → c.0 ≡ p.0 → ValidIn m c.1 p.1 → ValidIn m old (at S p.0) → PairsFor m cs rest → AreChanges (suc p.0) rest → joined_changes kind S (keep W) P ≡ all_before s.done (joined_changes kind S (keep (p ∷ rest)) P) → X) → X
  with_first {X} say = go s.rest (subst (λ ps. PairsFor m ps s.rest) first s.rest_for) s.valid s.joins
    where
      go : (rest : Changes) → PairsFor m (c ∷ cs) rest → AreChanges s.from rest → joined_changes kind S (keep W) P ≡ all_before s.done (joined_changes kind S (keep rest) P) → X
      go [] d valid joins = absurd d
      go (p ∷ rest) d valid joins = say p rest d.0 (valid.2, d.1) (at_valid S snapshot p.0, subst (λ o. WordIn m old (at S o)) d.0 old_for) d.2 valid.3 joins

  -- one that is skipped is left out
  pub round_same : SkipsFirst m keep S c old → Joining m kind keep S W P cs out
  round_same skips = with_first (λ p rest at_same mine was others valid joins. record {
    done = s.done;
    done_for = s.done_for;
    rest = rest;
    rest_for = others;
    from = suc p.0;
    valid = valid;
    joins = joins ∙ ap (λ E. all_before s.done (joined_changes kind S E P)) (skips p rest mine was);
  })

  module _ (keeps : KeepsFirst m keep S c old) (now : Word) (now_for : WordIn m now (at P c.0)) where
    joined_first : (p : ℕ × Value) (rest : Changes) → ValidIn m c.1 p.1 → ValidIn m old (at S p.0) → joined_changes kind S (keep (p ∷ rest)) P ≡ joined_before p.0 (joined kind (at S p.0) p.1 (at P p.0)) (joined_changes kind S (keep rest) P)
    joined_first p rest mine was = ap (λ E. joined_changes kind S E P) (keeps p rest mine was)

    -- one that conflicts refuses all
    pub round_none : ((v u t : Value) → ValidIn m old v → ValidIn m c.1 u → ValidIn m now t → WordOrNone m None (joined kind v u t)) → JoinsFor m false out (joined_changes kind S (keep W) P)
    round_none told = with_first (λ p rest at_same mine was others valid joins.
        joins ∙ ap (all_before s.done) (joined_first p rest mine was ∙ ap (λ v. joined_before p.0 v (joined_changes kind S (keep rest) P)) (go (joined kind (at S p.0) p.1 (at P p.0)) (told (at S p.0) p.1 (at P p.0) was mine (at_valid P present p.0, subst (λ o. WordIn m now (at P o)) at_same now_for)))) ∙ before_none s.done)
      where
        go : (o : Option Value) → WordOrNone m None o → o ≡ None
        go None d = refl
        go (Some v) d = absurd d

    -- one that is joined is put behind those that are
    pub round_some : (x : Word) → ((v u t : Value) → ValidIn m old v → ValidIn m c.1 u → ValidIn m now t → WordOrNone m (Some x) (joined kind v u t)) → Joining m kind keep S W P cs (out ++ (c.0, x) ∷ [])
    round_some x told = with_first (λ p rest at_same mine was others valid joins.
        go p rest at_same others valid (joins ∙ ap (all_before s.done) (joined_first p rest mine was)) (joined kind (at S p.0) p.1 (at P p.0)) refl (told (at S p.0) p.1 (at P p.0) was mine (at_valid P present p.0, subst (λ o. WordIn m now (at P o)) at_same now_for)))
      where
        go : (p : ℕ × Value) (rest : Changes) → c.0 ≡ p.0 → PairsFor m cs rest → AreChanges (suc p.0) rest → joined_changes kind S (keep W) P ≡ all_before s.done (joined_before p.0 (joined kind (at S p.0) p.1 (at P p.0)) (joined_changes kind S (keep rest) P))
            → (o : Option Value) → joined kind (at S p.0) p.1 (at P p.0) ≡ o → WordOrNone m (Some x) o → Joining m kind keep S W P cs (out ++ (c.0, x) ∷ [])
        go p rest at_same others valid joins None e d = absurd d
        go p rest at_same others valid joins (Some v) e d = record {
          done = s.done ++ (c.0, v) ∷ [];
          done_for = one_more_pair m out s.done c.0 x v s.done_for d;
          rest = rest;
          rest_for = others;
          from = suc p.0;
          valid = valid;
          joins = joins ∙ ap (λ o. all_before s.done (joined_before p.0 o (joined_changes kind S (keep rest) P))) e ∙ ap (λ i. all_before s.done (joined_before i (Some v) (joined_changes kind S (keep rest) P))) (sym at_same) ∙ sym (one_more_before s.done c.0 v (joined_changes kind S (keep rest) P));
        }

pub one_longer : (out : WordPairs) (c : ℕ × Word) (i : ℕ) → length out ≤ i → length (out ++ c ∷ []) ≤ i + 1
one_longer out c i few = let e = length-append out (c ∷ []) in omega (arith, e, few)

pub read_looks : (h k : ℕ) {old new : ℕ} → new ≡ old + k → new ≤ old + h → LooksUpTo h old new
read_looks h k e most = (omega (arith, e), most)

-- each round takes the looks of two reads at most
pub round_looks : (i a b : ℕ) {old now one two : ℕ} → LooksUpTo (i * (a + b)) old now → LooksUpTo a now one → LooksUpTo b one two → LooksUpTo ((i + 1) * (a + b)) old two
round_looks i a b first second third =
    let e : (i + 1) * (a + b) ≡ i * (a + b) + (a + b) = (let f = add-mul i 1 (a + b) in omega (arith, f)) in
    (omega (arith, first.0, second.0, third.0), omega (arith, first.1, second.1, third.1, e))
