-- Memories that hold the same words are one, if their lines are lines of one map.
use Rattle.std.proofs.Common.{◌≡◌, ℕ, ◌+◌, List, Option, Some, None, refl, sym, ◌∙◌, ap, unwrap_or}
use Rattle.std.specs.Prelude.{is_some}
use Rattle.std.specs.Cmp.{nat_cmp_total}
use Rattle.std.specs.FinMap as map_of
use Rattle.std.specs.FinMap.{nat_cmp-IsAntisymmetric}
use Rattle.hic_word.specs.declared.Word.{Word}
use Rattle.hic_word.specs.Width.{IsWidth}
use Rattle.hic_word.specs.Lists.{times}
use Rattle.hic_word.specs.Names.{names_in}
use Rattle.hic_word.specs.Memory.{Memory, count_at, line_at, names_of}
use Rattle.hic_word.specs.Stands.{Lookup}
use Rattle.hic_word.specs.Standing.{IsWithin}
use Rattle.hic_word.specs.Balanced.{IsBalanced}
use Rattle.hic_word.specs.Holds.{Holds}
use Rattle.hic_word.proofs.callers.Holds.{count_none}
use Rattle.hic_word.proofs.callers.Standing.{reached_lines_stay, same_line}
use Rattle.line_room.specs.MemoryLaws.{HasKeys, HoldsTellMemories}

-- a line of m is one of n, where both are lines of one map
is_within : {w : ℕ} → IsWidth w → (m n : Memory) (H : List Word) → Holds w m H → Holds w n H → (whole : Lookup) → IsWithin (line_at m) whole → IsWithin (line_at n) whole
    → IsWithin (line_at m) (line_at n)
is_within {w} width m n H one other whole of_one of_other =
    reached_lines_stay w m n H H width (λ id line later e f. same_line whole id line later (of_one id line e) (of_other id later f)) one other other.named

-- maps of which each is within the other have the same lines
same_lookup : (a b : Lookup) → IsWithin a b → IsWithin b a → (q : ℕ) → a q ≡ b q
same_lookup a b there back q = go (a q) refl (b q) refl
  where
    go : (o : Option (List Word)) → a q ≡ o → (p : Option (List Word)) → b q ≡ p → a q ≡ b q
    go None e None f = e ∙ sym f
    go None e (Some line) f = back q line f ∙ sym f
    go (Some line) e p f = e ∙ sym (there q line e)

-- two counts that may be there are the same if both or neither are there, with one number
same_option : (o p : Option ℕ) → is_some o ≡ is_some p → unwrap_or o 0 ≡ unwrap_or p 0 → o ≡ p
same_option None None e f = refl
same_option None (Some b) e f = cc
same_option (Some a) None e f = cc
same_option (Some a) (Some b) e f = ap (λ (x : ℕ). Some x) f

-- balanced memories with the same lines have the same counts
module _ {w : ℕ} (m n : Memory) (H : List Word) (one : IsBalanced w m H) (other : IsBalanced w n H) (keys : HasKeys m) (keys_too : HasKeys n) (same : m.lines ≡ n.lines) where
  at_same : (q : ℕ) → line_at m q ≡ line_at n q
  at_same q = ap (λ x. map_of.get x q) same

  same_count_at : (q : ℕ) → count_at m q ≡ count_at n q
  same_count_at q = go (line_at m q) refl
    where
      go : (o : Option (List Word)) → line_at m q ≡ o → count_at m q ≡ count_at n q
      go None e = count_none m q (keys q) e ∙ sym (count_none n q (keys_too q) (sym (at_same q) ∙ e))
      go (Some line) e = one.counted q line e ∙ ap (λ x. times q (names_of (map_of.entries x)) + times q (names_in H)) same ∙ sym (other.counted q line (sym (at_same q) ∙ e))

  same_count : (q : ℕ) → map_of.get m.counts q ≡ map_of.get n.counts q
  same_count q = same_option (map_of.get m.counts q) (map_of.get n.counts q) (sym (keys q) ∙ ap is_some (at_same q) ∙ keys_too q) (same_count_at q)

pub holds_tell_memories : HoldsTellMemories
holds_tell_memories w m n H whole width keys keys_too layouts one other of_one of_other =
    let there = is_within width m n H one other whole of_one of_other in
    let back = is_within width n m H other one whole of_other of_one in
    let lines : m.lines ≡ n.lines = map_of.same_map nat_cmp_total nat_cmp-IsAntisymmetric m.lines n.lines (same_lookup (line_at m) (line_at n) there back) in
    let counts : m.counts ≡ n.counts = map_of.same_map nat_cmp_total nat_cmp-IsAntisymmetric m.counts n.counts (same_count m n H one.balanced other.balanced keys keys_too lines) in
    let dead : m.dead ≡ n.dead = one.balanced.no_dead ∙ sym other.balanced.no_dead in
    λ i. record { lines = lines i; counts = counts i; dead = dead i; layout = layouts i }
