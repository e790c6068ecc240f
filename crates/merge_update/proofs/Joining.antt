-- Words are joined as what they stand for is.
use Rattle.std.proofs.Common.{◌≡◌, ◌||◌, Bool, true, false, IsTrue, ◌↔◌, Some, None, refl, sym, ap, subst, inl, inr}
use Rattle.hic_isa.specs.declared.instr.SegKind.TheVariants.{Merge}
use Rattle.hic_word.specs.declared.Word.{Word}
use Rattle.hic_word.specs.Values.{Value}
use Rattle.hic_word.specs.Same.{same_value}
use Rattle.hic_word.specs.Memory.{Memory, line_at, width}
use Rattle.hic_word.proofs.callers.Forms.{value_refl, value_true}
use Rattle.hic_word.proofs.callers.Standing.{words_tell_values}
use Rattle.segment_map.specs.Merging.{if_so, joined}
use Rattle.merge_update.specs.Joins.{HasNoEqualLines, ValidIn, WordOrNone}

module _ (m : Memory) (unique : HasNoEqualLines m) where
  -- words are the same where the values are, and else they are not
  same_words : (x y : Word) (v u : Value) → ValidIn m x v → ValidIn m y u → (x ≡ y) ↔ (v ≡ u)
  same_words x y v u (v_valid, d) (u_valid, e) = words_tell_values (width m) (line_at m) x y v u (inr (inl refl)) unique v_valid u_valid d e

  pub same_told : (x y : Word) (v u : Value) → ValidIn m x v → ValidIn m y u → x ≡ y → same_value v u ≡ true
  same_told x y v u d e same = subst (λ z. same_value v z ≡ true) ((same_words x y v u d e).0 same) (value_refl v)

  pub other_told : (x y : Word) (v u : Value) → ValidIn m x v → ValidIn m y u → (x ≡ y → ⊥) → same_value v u ≡ false
  other_told x y v u d e other = go (same_value v u) refl
    where
      go : (b : Bool) → same_value v u ≡ b → same_value v u ≡ false
      go true f = absurd (other ((same_words x y v u d e).1 (value_true v u f)))
      go false f = f

  module _ (old mine present : Word) (v u t : Value) (d : ValidIn m old v) (e : ValidIn m mine u) (f : ValidIn m present t) where
    go_some : (a b : Bool) → (a || b) ≡ true → WordOrNone m (Some mine) (if_so (a || b) u)
    go_some a b g = subst (λ c. WordOrNone m (Some mine) (if_so c u)) (sym g) e.1

    pub joins_old : present ≡ old → WordOrNone m (Some mine) (joined Merge v u t)
    joins_old same = go_some (same_value t v) (same_value t u) (ap (λ a. a || same_value t u) (same_told present old t v f d same))

    pub joins_mine : present ≡ mine → WordOrNone m (Some mine) (joined Merge v u t)
    joins_mine same = go_some (same_value t v) (same_value t u) (go (same_value t v) (same_value t u) (same_told present mine t u f e same))
      where
        go : (a b : Bool) → b ≡ true → (a || b) ≡ true
        go true b g = refl
        go false b g = g

    pub joins_none : (present ≡ old → ⊥) → (present ≡ mine → ⊥) → WordOrNone m None (joined Merge v u t)
    joins_none other another = go (same_value t v) (same_value t u) (other_told present old t v f d other) (other_told present mine t u f e another)
      where
        go : (a b : Bool) → a ≡ false → b ≡ false → WordOrNone m None (if_so (a || b) u)
        go a b g h = rw (g, h) tt

-- what a test that answered false tells
pub not_so : {b : Bool} {P : Type 0} → (IsTrue b → P) × (P → IsTrue b) → b ≡ false → P → ⊥
not_so both e p = let t = both.1 p in cc
