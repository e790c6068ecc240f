-- The lines and the counts of a machine's memory.
use Rattle.std.proofs.Common.{ℕ, List, refl, subst, inl, inr, arith}
use Rattle.hic_isa.specs.declared.instr.Instr.{Instr}
use Rattle.hic_word.specs.Memory.{Memory, width}
use Rattle.hic_word.proofs.callers.Lines.{balanced_is_exact}
use Rattle.hic_word.proofs.callers.Holds.{counts_are_bounded}
use Rattle.hic_word.specs.BalanceLaws.{Corresponds}
use Rattle.line_mem.specs.Sound.{IsSound}
use Rattle.segment_map.specs.declared.Segment.{Segment as Stored}
use Rattle.hic_plain.specs.Machine.{Machine}
use Rattle.hic_task.specs.declared.task.Task.{Task as Kept}
use Rattle.hic_machine.specs.Held.{MachineFor, held_words}
use Rattle.hic_machine.specs.Laws.{CountsAreLow, HasHeldLines}
use Rattle.hic_machine.proofs.Order.{keeps_held}
use Rattle.hic_machine.proofs.Stepping.{held_few}

module _ (m : Memory) (code : List Instr) (ss : List Stored) (input : List ℕ) (ks : List Kept) (P : Machine) (d : MachineFor m code ss input ks P) where
  pub held_lines : HasHeldLines m P
  held_lines =
      let kept = keeps_held m code ss input ks P d in
      subst (Corresponds (width m) m) kept.arrays (balanced_is_exact (width m) m kept.words kept.values (inr (inl refl)) kept.balanced kept.stand kept.valid)

  pub low_counts : IsSound m → CountsAreLow m
  low_counts sound id line e =
      let a = counts_are_bounded (width m) m (held_words ss ks) id line (inr (inl refl)) d.holds.balanced sound.room e in
      let b = sound.most in
      let c = held_few m code ss input ks P d in
      omega (arith, a, b, c)
