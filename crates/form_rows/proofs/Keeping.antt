-- What is kept of a memory in which a part is stored.
use Rattle.std.proofs.Common.{◌≡◌, ℕ, ◌+◌, ◌≤◌, Bool, true, false, cond, eqb, List, [], refl, ◌∙◌, ap, inl, inr, arith}
use Rattle.std.proofs.lemmas.Bool.{eqb-true}
use Rattle.hic_word.proofs.callers.Holds.{count_after, count_none, names-some, interned_counts, interned_there, new_or_there}
use Rattle.hic_word.proofs.callers.Bits.{node_names}
use Rattle.hic_word.specs.declared.Word.{Word}
use Rattle.hic_word.specs.Lists.{times}
use Rattle.hic_word.specs.Memory.{Memory, count_at}
use Rattle.hic_word.specs.MemorySteps.{with_hold, without_holds, Interns}
use Rattle.hic_word.specs.Names.{names_in}
use Rattle.hic_word.specs.Stands.{node_word}
use Rattle.line_mem.specs.Sound.{IsSound}
use Rattle.form_rows.specs.Covers.{Covers, Keeps}

-- a line that names no line is interned: its id has one hold more, which its entry needs
pub kept_line : (old new : Memory) (line : List Word) (id : ℕ) → IsSound old → IsSound new → names_in line ≡ [] → old.dead ≡ [] → Interns old line id new → Keeps old (node_word id) new
kept_line old new line id s t n d i = elim (new_or_there old new line id i) [
  | inl (vacant, fresh, e) ↦ keeps (ap (λ (m : Memory). m.dead) e ∙ d) (λ q. ap (λ m. count_at m q) e ∙ count_after old id 1 q ∙ ap (λ n. cond (eqb q id) n (count_at old q)) (let a = count_none old id (s.keys id) vacant in omega (arith, a)))
  | inr (there, e) ↦
      let same : new ≡ with_hold old id = e ∙ ap (without_holds (with_hold old id)) n in
      keeps (ap (λ (m : Memory). m.dead) same ∙ d) (λ q. ap (λ m. count_at m q) same ∙ count_after old id (count_at old id + 1) q)
]
  where
    covered : (q : ℕ) (words : List Word) → Covers old words → cond (eqb q id) 1 0 + times q (names_in words) ≤ cond (eqb q id) (count_at old id + 1) (count_at old q)
    covered q words h = go (eqb q id) refl
      where
        go : (t : Bool) → eqb q id ≡ t → cond t 1 0 + times q (names_in words) ≤ cond t (count_at old id + 1) (count_at old q)
        go true e = let a : count_at old q ≡ count_at old id = ap (λ n. count_at old n) (eqb-true q id e) in let b = h q in omega (arith, a, b)
        go false e = let b = h q in omega (arith, b)

    keeps : new.dead ≡ [] → ((q : ℕ) → count_at new q ≡ cond (eqb q id) (count_at old id + 1) (count_at old q)) → Keeps old (node_word id) new
    keeps no_dead raised = record {
      no_dead = no_dead;
      covers = λ words h q. let a = names-some q id (node_word id) words (node_names id (t.small id line (interned_there old new line id i))) in let b = covered q words h in let c = raised q in omega (arith, a, b, c);
      counts = λ most h q. let a = interned_counts old new line id i q in let b = h q in omega (arith, a, b);
    }
