-- Arrays have as many lines in whatever order they stand.
use Rattle.std.proofs.Common.{◌≡◌, ◌↔◌, ℕ, ◌≤◌, List, [], ◌∷◌, ◌++◌, length, refl, sym, subst, inl, inr, arith}
use Rattle.std.specs.Prelude.{flat_map}
use Rattle.hic_word.specs.Lists.{In}
use Rattle.hic_word.specs.Values.{Array}
use Rattle.hic_word.specs.Entries.{LineValue}
use Rattle.hic_word.specs.Lines.{lines, visit}
use Rattle.hic_word.proofs.callers.Lines.{Apart-distinct}
use Rattle.line_room.specs.PartLaws.{LinesInAnyOrder}
use Rattle.line_room.proofs.ArrayLines.{lines_are_of_each}
use Rattle.line_room.proofs.Pigeons.{distinct-length}

-- the lines of arrays are those of the members
of_member : (w : ℕ) (R : List Array) (A : Array) (L : LineValue) → In A R → In L (lines w (A ∷ [])) → In L (lines w R)
of_member w [] A L there i = absurd there
of_member w (B ∷ R) A L (inl same) i = (lines_are_of_each w B R L).1 (inl (subst (λ C. In L (lines w (C ∷ []))) (sym same) i))
of_member w (B ∷ R) A L (inr later) i = (lines_are_of_each w B R L).1 (inr (of_member w R A L later i))

member_of : (w : ℕ) (R : List Array) (L : LineValue) → In L (lines w R) → (A : Array) × In A R × In L (lines w (A ∷ []))
member_of w [] L i = absurd i
member_of w (B ∷ R) L i = elim ((lines_are_of_each w B R L).0 i) [
  | inl first ↦ (B, inl refl, first)
  | inr rest ↦ let (A, there, of) = member_of w R L rest in (A, inr there, of)
]

-- arrays that are all among others have no more lines
no_more_lines : (w : ℕ) (R S : List Array) → ((A : Array) → In A R → In A S) → length (lines w R) ≤ length (lines w S)
no_more_lines w R S among =
    distinct-length (lines w R) (lines w S) (Apart-distinct (flat_map (visit w) R)) (λ L i. let (A, there, of) = member_of w R L i in of_member w S A L (among A there) of)

pub lines_in_any_order : LinesInAnyOrder
lines_in_any_order w R S same =
    let less = no_more_lines w R S (λ A. (same A).0) in
    let more = no_more_lines w S R (λ A. (same A).1) in
    omega (arith, less, more)

-- an array may stand last or first
last_or_first : (A B : Array) (R : List Array) → In B (R ++ A ∷ []) ↔ In B (A ∷ R)
last_or_first A B [] = (λ i. i, λ i. i)
last_or_first A B (C ∷ R) =
    let rest = last_or_first A B R in (
      (λ i. elim i [ inl c ↦ inr (inl c) | inr later ↦ elim (rest.0 later) [ inl a ↦ inl a | inr r ↦ inr (inr r) ] ]),
      (λ i. elim i [ inl a ↦ inr (rest.1 (inl a)) | inr later ↦ elim later [ inl c ↦ inl c | inr r ↦ inr (rest.1 (inr r)) ] ]),
    )

pub lines_last : (w : ℕ) (A : Array) (R : List Array) → length (lines w (R ++ A ∷ [])) ≡ length (lines w (A ∷ R))
lines_last w A R = lines_in_any_order w (R ++ A ∷ []) (A ∷ R) (λ B. last_or_first A B R)
