-- One turn of `put`: changes fall into the quarters of a part, which are stored again.
use Rattle.std.proofs.Common.{◌≡◌, ℕ, zero, suc, ◌+◌, ◌-◌, ◌*◌, ◌≤◌, Bool, true, false, ◌==◌, List, [], ◌∷◌, length, refl, sym, ◌∙◌, ap, subst, inr, arith}
use Rattle.std.proofs.Math.Nat.{mul-le-mul_right}
use Rattle.std.proofs.lemmas.Bool.Decides.{nat_tests}
use Rattle.hic_word.specs.declared.Word.{Word}
use Rattle.hic_word.specs.Values.{Array, IsArray}
use Rattle.hic_word.specs.Entries.{Entry, Named, Pack, Zero}
use Rattle.hic_word.specs.Canon.{IsPart, enc}
use Rattle.hic_word.specs.Holds.{IsLive}
use Rattle.hic_word.specs.InMemory.{ChangesFor}
use Rattle.hic_word.specs.Memory.{Memory, line_at}
use Rattle.hic_word.specs.Standing.{IsWithin}
use Rattle.hic_word.specs.Stands.{EntryFor, Lookup}
use Rattle.hic_word.proofs.callers.Standing.{standing_words_are_live}
use Rattle.line_mem.specs.Looks.{LooksUpTo}
use Rattle.seg_canon.specs.Folds.{PiecesFor}
use Rattle.seg_canon.specs.Parts.{PartFor, whole_part}
use Rattle.seg_canon.proofs.Growing.{part_grows}
use Rattle.seg_read.specs.Levels.{levels, own_line}
use Rattle.seg_read.proofs.Levels.{levels_some}
use Rattle.seg_write.specs.Gains.{HasNamed, HaveNamed}
use Rattle.seg_write.specs.Puts.{AreEntries, CanPut, CanPutEach, CanPutWords, FallInto, HaveLevels, put_at, put_each, quarters_of}
use Rattle.seg_write.proofs.Changing.{fall_quarters, part_put, quarters_put}
use Rattle.seg_write.proofs.Naming.{quarters_named}
use Rattle.seg_write.proofs.Quartering.{entries_are_pieces, levels_below, pieces_are_entries}

-- whether there are changes
pub none_left : (cs : List (ℕ × Word)) (b : Bool) → b ≡ true → b ≡ (length cs == 0) → length cs ≡ 0
none_left cs b t e = grind (arith, nat_tests)

pub some_left : (cs : List (ℕ × Word)) (b : Bool) → b ≡ false → b ≡ (length cs == 0) → 1 ≤ length cs
some_left cs b t e = grind (arith, nat_tests)

pub no_changes : (m : Lookup) (cs : List (ℕ × Word)) (L : Array) → length cs ≡ 0 → ChangesFor 4 m cs L → L ≡ []
no_changes m [] [] e h = refl
no_changes m [] (p ∷ L) e h = absurd h
no_changes m (c ∷ cs) L e h = absurd (omega (arith, e))

-- the entry of a part names a live line, if any
pub entry_live : (m : Memory) (x : Word) (e : Entry) → EntryFor 4 (line_at m) x e → IsLive m x
entry_live m x e f = standing_words_are_live 4 m x (inr (e, f))

-- an entry's own line is one of its levels
pub own_most : (e : Entry) → own_line e ≤ levels e
own_most Zero = omega arith
own_most (Pack ns) = omega arith
own_most (Named L []) = levels_some L
own_most (Named L (q ∷ p)) = omega arith

module _ {m : Lookup} {h : ℕ} {x : Word} {b : ℕ} {cs : List (ℕ × Word)} {A L : Array} (can : CanPut m h x b cs A L) where
  -- without changes a part is as it is
  pub put_nothing : {n : Lookup} → length cs ≡ 0 → IsWithin m n → PartFor 4 n (whole_part h x) (put_at h b A L)
  put_nothing {n} e within = subst (λ X. PartFor 4 n (whole_part h x) (put_at h b A X)) (sym (no_changes m cs L e can.changes.changes)) (part_grows m n within (whole_part h x) A can.part)

  -- the words of a lowest part
  pub words_ready : (words : List Word) → h ≡ 1 → PiecesFor 4 m h words A → CanPutWords m words b cs A L
  words_ready words one f =
      let is_part = subst (λ k. IsPart 4 k A) one can.part.is_part in
      let stand = subst (λ k. PiecesFor 4 m k words A) one f in
      record { is_part = is_part; words_for = stand; changes = subst (λ k. FallInto m k b 1 cs L) one can.changes }

  pub changed_part : IsPart 4 h (put_at h b A L)
  changed_part = part_put h b b A L can.part.is_part can.changes.ascend

  -- the quarters of a higher part: the changes fall into them, with which they are the quarters of the changed part
  module _ (high : 2 ≤ h) where
    pub quarters_ready : (words : List Word) → PiecesFor 4 m h words A → CanPutEach m (h - 1) words b cs (quarters_of h A) L
    quarters_ready words f = record { entries = pieces_are_entries m h A high can.part.is_part words f; changes = fall_quarters m h b cs L high can.changes }

    pub quarters_changed : put_each (h - 1) b (quarters_of h A) L ≡ quarters_of h (put_at h b A L)
    quarters_changed = quarters_put h b b A L can.part.is_part can.changes.ascend

    pub changed_pieces : (n : Lookup) (words : List Word) → AreEntries n (h - 1) words (put_each (h - 1) b (quarters_of h A) L) → PiecesFor 4 n h words (put_at h b A L)
    changed_pieces n words f = entries_are_pieces n h (put_at h b A L) high words (subst (AreEntries n (h - 1) words) quarters_changed f)

    pub changed_named : (C : Array) → IsArray C → HasNamed (enc 4 h (put_at h b A L)) (C ∷ []) → HaveNamed (h - 1) (put_each (h - 1) b (quarters_of h A) L) (C ∷ [])
    changed_named C whole named = subst (λ As. HaveNamed (h - 1) As (C ∷ [])) (sym quarters_changed) (quarters_named h (put_at h b A L) C high whole named)

    pub levels_before : HaveLevels (levels (enc 4 h A) - own_line (enc 4 h A)) (h - 1) (quarters_of h A)
    levels_before = levels_below h A high can.part.is_part

    pub levels_after : HaveLevels (levels (enc 4 h (put_at h b A L)) - own_line (enc 4 h (put_at h b A L))) (h - 1) (put_each (h - 1) b (quarters_of h A) L)
    levels_after = subst (HaveLevels (levels (enc 4 h (put_at h b A L)) - own_line (enc 4 h (put_at h b A L))) (h - 1)) (sym quarters_changed) (levels_below h (put_at h b A L) high changed_part)

-- the looks of n changes: at an own line, in the quarters, and for the line that is made
pub put_looks : (n : ℕ) (d e : Entry) (P Q s0 s1 s2 s3 : ℕ) → 1 ≤ n → Q ≡ P → s1 ≡ s0 + own_line d → LooksUpTo (n * ((levels d - own_line d) + (levels e - own_line e) * P)) s1 s2 → LooksUpTo (own_line e * Q) s2 s3
    → LooksUpTo (n * (levels d + levels e * P)) s0 s3
put_looks n d e P Q s0 s1 s2 s3 some same first then last =
    let a = levels d - own_line d in
    let c = levels e - own_line e in
    let low = own_most d in
    let high = own_most e in
    let here : levels d ≡ a + own_line d = omega (arith, low) in
    let there : levels e ≡ c + own_line e = omega (arith, high) in
    let all : n * (levels d + levels e * P) ≡ n * (a + c * P) + n * own_line d + n * (own_line e * P) = ap (λ k. n * (k + levels e * P)) here ∙ ap (λ k. n * (a + own_line d + k * P)) there ∙ omega arith in
    let read : 1 * own_line d ≤ n * own_line d = mul-le-mul_right (own_line d) some in
    let made : 1 * (own_line e * P) ≤ n * (own_line e * P) = mul-le-mul_right (own_line e * P) some in
    let cost = ap (λ k. own_line e * k) same in
    let rose = then.0 in
    let up = last.0 in
    let middle = then.1 in
    let end = last.1 in
    (omega (arith, first, rose, up), omega (arith, first, middle, end, all, read, made, cost))

pub words_looks : (n : ℕ) (d e : Entry) (P s0 s1 s2 : ℕ) → 1 ≤ n → s1 ≡ s0 + own_line d → LooksUpTo (own_line e * P) s1 s2 → LooksUpTo (n * (levels d + levels e * P)) s0 s2
words_looks n d e P s0 s1 s2 some first last =
    let rest : LooksUpTo (n * ((levels d - own_line d) + (levels e - own_line e) * P)) s1 s1 = (omega arith, omega arith) in
    put_looks n d e P P s0 s1 s1 s2 some refl first rest last

pub put_looks_most : (n : ℕ) (d e : Entry) (P s0 s1 s2 : ℕ) → 1 ≤ n → s1 ≡ s0 + own_line d → LooksUpTo (n * ((levels d - own_line d) + (levels e - own_line e) * P)) s1 s2 → LooksUpTo (n * (levels d + levels e * P)) s0 s2
put_looks_most n d e P s0 s1 s2 some first then =
    let none : LooksUpTo (own_line e * P) s2 s2 = (omega arith, omega arith) in
    put_looks n d e P P s0 s1 s2 s2 some refl first then none

-- counts have room for what the quarters take and for a line more
pub room_below : (t n x M : ℕ) → 1 ≤ t → 1 ≤ n → x + (4 * t * n + 1) ≤ M → x + (4 * (t - 1) * n + 4) + 1 ≤ M
room_below zero n x M some more room = absurd (omega (arith, some))
room_below (suc t) n x M some more room =
    let less : suc t - 1 ≡ t = omega arith in
    let all : 4 * suc t * n ≡ 4 * t * n + 4 * n = omega arith in
    subst (λ k. x + (4 * k * n + 4) + 1 ≤ M) (sym less) (omega (arith, all, more, room))

pub counts_below : (t n : ℕ) → 1 ≤ t → 1 ≤ n → 4 * (t - 1) * n + 4 + 1 ≤ 4 * t * n + 1
counts_below zero n some more = absurd (omega (arith, some))
counts_below (suc t) n some more =
    let less : suc t - 1 ≡ t = omega arith in
    let all : 4 * suc t * n ≡ 4 * t * n + 4 * n = omega arith in
    subst (λ k. 4 * k * n + 4 + 1 ≤ 4 * suc t * n + 1) (sym less) (omega (arith, all, more))
