-- A segment that is written over with another root.
use Rattle.std.proofs.Common.{◌≡◌, ℕ, zero, suc, ◌<◌, List, [], ◌∷◌, length, Some, get_or, set, refl, ap, arith}
use Rattle.std.specs.Prelude.{option_map, slice_get}
use Rattle.std.proofs.lemmas.Option.{slice_get_read}
use Rattle.hic_word.specs.declared.Word.{Word}
use Rattle.segment_map.specs.declared.Segment.{Segment}
use Rattle.segment_map.specs.Segments.{with_root}

pub root_set : (ss : List Segment) (i : ℕ) (root : Word) (s : Segment) → i < length ss → s ≡ get_or ss i s → set ss i (record s { root = root }) ≡ with_root ss i root
root_set [] i root s low there = absurd (omega arith)
root_set (first ∷ ss) zero root s low there = ap (λ (t : Segment). record t { root = root } ∷ ss) there
root_set (first ∷ ss) (suc i) root s low there = ap (λ us. first ∷ us) (root_set ss i root s (omega arith) there)

pub root_was : (ss : List Segment) (i : ℕ) (s : Segment) → i < length ss → s ≡ get_or ss i s → option_map (λ (t : Segment). t.root) (slice_get ss i) ≡ Some s.root
root_was ss i s low there = ap (option_map (λ (t : Segment). t.root)) (slice_get_read ss (length ss) i s refl low there)
