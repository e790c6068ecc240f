-- A code for values: each value is written as a list of marks, from which it is built again. So values, and what is made
-- of them, can be the one thing that is told (`UniqueChoice`).
use Rattle.std.proofs.Common.{◌≡◌, ℕ, zero, suc, List, [], ◌∷◌, refl, ◌∙◌}
use Rattle.std.specs.Coded.{Coded, code_by, coded_list, coded×, coded_ℕ}
use Rattle.hic_word.specs.Values.{Value, Number, Ref, Pairs, NoPair, Pair}

-- a mark is its kind and a number: 0 a number, 1 a reference to the last pairs, 2 no pairs, 3 the last value at an offset
-- before the last pairs
abbrev pub Marks : Type 0
Marks = List (ℕ × ℕ)

-- the marks of a value or of pairs, and then others
unfoldable mutual
  pub value_marks : Value → Marks → Marks
  value_marks (Number n) ms = (0, n) ∷ ms
  value_marks (Ref H) ms = pairs_marks H ((1, 0) ∷ ms)

  pub pairs_marks : Pairs → Marks → Marks
  pairs_marks NoPair ms = (2, 0) ∷ ms
  pairs_marks (Pair o v H) ms = pairs_marks H (value_marks v ((3, o) ∷ ms))

-- the values and the pairs that are built so far, the last in front
pub record Built : Type 0 where
  pub values : List Value
  pub lists : List Pairs

abbrev pub built : List Value → List Pairs → Built
built vs Hs = record { values = vs; lists = Hs }

abbrev pub referred : List Pairs → List Value → Built
referred [] vs = built vs []
referred (H ∷ Hs) vs = built (Ref H ∷ vs) Hs

abbrev pub paired : ℕ → List Value → List Pairs → Built
paired o [] Hs = built [] Hs
paired o (v ∷ vs) [] = built vs []
paired o (v ∷ vs) (H ∷ Hs) = built vs (Pair o v H ∷ Hs)

-- what a mark builds
abbrev pub after_mark : ℕ → ℕ → Built → Built
after_mark zero n b = built (Number n ∷ b.values) b.lists
after_mark (suc zero) n b = referred b.lists b.values
after_mark (suc (suc zero)) n b = built b.values (NoPair ∷ b.lists)
after_mark (suc (suc (suc k))) n b = paired n b.values b.lists

unfoldable pub build : Marks → Built → Built
build [] b = b
build (m ∷ ms) b = build ms (after_mark m.0 m.1 b)

mutual
  unfolding value_marks build

  value_built : (v : Value) (ms : Marks) (b : Built) → build (value_marks v ms) b ≡ build ms (built (v ∷ b.values) b.lists)
  value_built (Number n) ms b = refl
  value_built (Ref H) ms b = pairs_built H ((1, 0) ∷ ms) b

  pairs_built : (H : Pairs) (ms : Marks) (b : Built) → build (pairs_marks H ms) b ≡ build ms (built b.values (H ∷ b.lists))
  pairs_built NoPair ms b = refl
  pairs_built (Pair o v H) ms b = pairs_built H (value_marks v ((3, o) ∷ ms)) b ∙ value_built v ((3, o) ∷ ms) (built b.values (H ∷ b.lists))

abbrev pub first_value : List Value → Value
first_value [] = Number 0
first_value (v ∷ vs) = v

-- the value that marks write
abbrev pub value_of : Marks → Value
value_of ms = first_value (build ms (built [] [])).values

pub value_again : (v : Value) → value_of (value_marks v []) ≡ v
unfolding build
value_again v = λ i. first_value (value_built v [] (built [] []) i).values

abbrev pub value_code : Coded Value
value_code = code_by Marks (coded_list (coded× coded_ℕ coded_ℕ)) (λ v. value_marks v []) value_of value_again
