-- Changes joined in place: those that are joined stand before those that are left.
use Rattle.std.proofs.Common.{◌≡◌, ℕ, zero, suc, ◌+◌, ◌*◌, ◌<◌, ◌≤◌, true, [], ◌∷◌, ◌++◌, length, take, drop, get_or, refl, sym, ◌∙◌, ap, subst, arith}
use Rattle.std.proofs.Math.Nat.{mul-le-mul_right}
use Rattle.std.proofs.lemmas.List.{drop_all, drop_more, take_all}
use Rattle.hic_isa.specs.declared.instr.SegKind.{SegKind}
use Rattle.hic_word.specs.declared.Word.{Word}
use Rattle.hic_word.specs.Values.{Array}
use Rattle.hic_word.specs.Memory.{Memory}
use Rattle.line_mem.specs.Looks.{LooksUpTo}
use Rattle.segment_map.specs.Merging.{Changes, joined_changes}
use Rattle.seg_changes.specs.ChangeList.{with_word}
use Rattle.write_buf.specs.WordPairs.{WordPairs}
use Rattle.merge_update.specs.Joins.{JoinsFor}
use Rattle.merge_update.proofs.Rounds.{Joining, joining_last}

word_taken : (ps : WordPairs) (k : ℕ) (word : Word) (c : ℕ × Word) → k < length ps → take (suc k) (with_word ps k word) ≡ take k ps ++ ((get_or ps k c).0, word) ∷ []
word_taken [] k word c low = absurd (omega (arith, low))
word_taken (p ∷ ps) zero word c low = refl
word_taken (p ∷ ps) (suc k) word c low = ap (λ qs. p ∷ qs) (word_taken ps k word c (omega (arith, low)))

word_left : (ps : WordPairs) (k : ℕ) (word : Word) → drop (suc k) (with_word ps k word) ≡ drop (suc k) ps
word_left [] k word = refl
word_left (p ∷ ps) zero word = refl
word_left (p ∷ ps) (suc k) word = word_left ps k word

pub as_many : (ps : WordPairs) (k : ℕ) (word : Word) → length (with_word ps k word) ≡ length ps
as_many [] k word = refl
as_many (p ∷ ps) zero word = refl
as_many (p ∷ ps) (suc k) word = ap suc (as_many ps k word)

-- the first of the pairs that are left, as it is read from a lent list
pub left_first : (ps lent : WordPairs) (k : ℕ) (c : ℕ × Word) → lent ≡ ps → k < length ps → drop k ps ≡ get_or lent k c ∷ drop (k + 1) ps
left_first ps lent k c same low = rw same (drop_more ps k c low)

module _ {m : Memory} {kind : SegKind} {keep : Changes → Changes} {S W P : Array} where
  pub joined_in_place : (ps lent : WordPairs) (k : ℕ) (word : Word) (c : ℕ × Word) → lent ≡ ps → k < length ps → Joining m kind keep S W P (drop (k + 1) ps) (take k ps ++ ((get_or lent k c).0, word) ∷ []) → Joining m kind keep S W P (drop (k + 1) (with_word ps k word)) (take (k + 1) (with_word ps k word))
  joined_in_place ps lent k word c same low s =
      subst (λ left. Joining m kind keep S W P left (take (k + 1) (with_word ps k word))) (sym (let e : k + 1 ≡ suc k = omega arith in rw e (word_left ps k word)))
      (subst (Joining m kind keep S W P (drop (k + 1) ps)) (sym ((let e : k + 1 ≡ suc k = omega arith in rw e (word_taken ps k word c low)) ∙ ap (λ qs. take k ps ++ ((get_or qs k c).0, word) ∷ []) (sym same))) s)

  -- where none is left all are joined
  pub all_in_place : (ps : WordPairs) (k : ℕ) → keep [] ≡ [] → length ps ≤ k → Joining m kind keep S W P (drop k ps) (take k ps) → JoinsFor m true ps (joined_changes kind S (keep W) P)
  all_in_place ps k nothing past s = subst (λ qs. JoinsFor m true qs (joined_changes kind S (keep W) P)) (take_all k ps past) (joining_last m kind keep S W P (drop k ps) (take k ps) nothing (drop_all k ps past) s)

-- the pairs are as many as at first
pub still_below : {first lent : WordPairs} (now : WordPairs) {k : ℕ} → lent ≡ first → length now ≡ length first → k < length lent → k < length now
still_below now same few low = rw (few ∙ ap length (sym same)) low

pub past_all : {first lent : WordPairs} (now : WordPairs) {k : ℕ} → lent ≡ first → length now ≡ length first → length lent ≤ k → length now ≤ k
past_all now same few past = rw (few ∙ ap length (sym same)) past

-- the looks for k of n changes
pub looks_within : (n k h : ℕ) {old new : ℕ} → k ≤ n → LooksUpTo (k * h) old new → LooksUpTo (n * h) old new
looks_within n k h few looks = let more : k * h ≤ n * h = mul-le-mul_right h few in (looks.0, let most = looks.1 in omega (arith, most, more))
