-- A lowest part with changes that fall into it: its words, and the line that is made for them.
use Rattle.std.proofs.Common.{◌≡◌, ℕ, ◌≤◌, List, [], ◌∷◌, ◌∙◌, ap, inl, arith}
use Rattle.hic_word.specs.Width.{four_wide}
use Rattle.hic_word.specs.declared.Word.{Word}
use Rattle.hic_word.specs.Values.{Array, IsArray, Value}
use Rattle.hic_word.specs.Entries.{Entry, Named, Pack, Zero}
use Rattle.hic_word.specs.Parts.{values}
use Rattle.hic_word.specs.Heights.{height}
use Rattle.hic_word.specs.Canon.{IsPart, enc}
use Rattle.hic_word.specs.Memory.{Memory, line_at}
use Rattle.hic_word.specs.Stands.{AWord, Lookup, NoWord, WordsFor}
use Rattle.hic_word.proofs.callers.Forms.{height_positive, heights_are_least}
use Rattle.hic_word.proofs.callers.Standing.{WordsFor-within, standing_words_are_live}
use Rattle.line_room.proofs.ArrayLines.{roots_have_lines}
use Rattle.ref_counts.specs.Live.{AreLive}
use Rattle.seg_read.specs.Levels.{levels, own_line}
use Rattle.seg_read.proofs.Levels.{levels_low}
use Rattle.seg_write.specs.Gains.{HasNamed}
use Rattle.seg_write.specs.Puts.{CanPutWords, FallInto, put_at}
use Rattle.seg_write.proofs.Changing.{part_put}
use Rattle.seg_write.proofs.Composing.{lines_within}

-- the changed words stand for the changed part while no line changes
pub record LeafFor (m : Lookup) (words : List Word) (A : Array) : Type 0 where
  pub is_part : IsPart 4 1 A
  pub words_for : WordsFor 4 m words (values 4 0 A)

pub leaf_for : {words : List Word} {b : ℕ} {cs : List (ℕ × Word)} {A L : Array} (old m : Memory) (after : List Word) → CanPutWords (line_at old) words b cs A L
    → ((n : Lookup) (B M : Array) → IsArray B → FallInto n 1 b 1 cs M → WordsFor 4 n words (values 4 0 B) → WordsFor 4 n after (values 4 0 (put_at 1 b B M)))
    → m.lines ≡ old.lines → LeafFor (line_at m) after (put_at 1 b A L)
leaf_for {b = b} {A = A} {L = L} old m after can changed same = record {
  is_part = part_put 1 b b A L can.is_part can.changes.ascend;
  words_for = WordsFor-within (line_at old) (line_at m) (lines_within old m same) (changed (line_at old) A L can.is_part.valid can.changes can.words_for);
}

-- words that stand for values name live lines
pub words_live : (m : Memory) {xs : List Word} {vs : List Value} → WordsFor 4 (line_at m) xs vs → AreLive m xs
words_live m NoWord = tt
words_live m (AWord {x = x} {v = v} w ws) = (standing_words_are_live 4 m x (inl (v, w)), words_live m ws)

-- the line that a lowest part's entry names is the part's own
height_one : (p : ℕ × Value) (A : Array) → IsPart 4 1 (p ∷ A) → height 4 (p ∷ A) ≡ 1
height_one p A a =
    let some = height_positive 4 p A in
    let low = (heights_are_least 4 (p ∷ A) four_wide a.valid).least 1 (omega arith) a.below in
    omega (arith, some, low)

pub has_own_line : (A : Array) → IsPart 4 1 A → HasNamed (enc 4 1 A) (A ∷ [])
has_own_line [] a = λ L q e. cc
has_own_line (p ∷ A) a = λ L q e. roots_have_lines 4 (p ∷ A) L q four_wide a.valid (ap (λ h. enc 4 h (p ∷ A)) (height_one p A a) ∙ e)

-- at most one line is an entry's own
pub own_line_low : (e : Entry) → own_line e ≤ 1
own_line_low Zero = omega arith
own_line_low (Pack ns) = omega arith
own_line_low (Named L []) = omega arith
own_line_low (Named L (q ∷ p)) = omega arith

-- so the lines that are made for a lowest part are no more than its height
pub lowest_levels : (A : Array) → levels (enc 4 1 A) ≤ height 4 A
lowest_levels [] = omega arith
lowest_levels (p ∷ A) = let some = height_positive 4 p A in let one = levels_low 1 (p ∷ A) in omega (arith, some, one)
