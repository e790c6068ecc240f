-- The example is balanced.
use Rattle.std.proofs.Common.{◌≡◌, ℕ, ◌+◌, ◌≤◌, cond, List, [], ◌∷◌, Option, Some, None, refl, sym, ◌∙◌, ap, subst, inl, inr, ◌⊎◌, arith, unwrap_or}
use Rattle.std.specs.Prelude.{count_by, ◌==◌}
use Rattle.std.specs.Ordering.{nat_cmp}
use Rattle.std.specs.FinMap as map_of
use Rattle.std.proofs.lemmas.Bool.{cases_eq, ne_eqb}
use Rattle.std.proofs.lemmas.Option.{none-some}
use Rattle.hic_word.specs.declared.Word.{Word}
use Rattle.hic_word.specs.Values.{Number, Ref, IsArray, ArePairs, pairs}
use Rattle.hic_word.specs.Entries.{LineValue}
use Rattle.hic_word.specs.Heights.{height, height_from}
use Rattle.hic_word.specs.Canon.{IsMade}
use Rattle.hic_word.specs.Memory.{line_at, count_at, names_of}
use Rattle.hic_word.specs.Names.{names_in}
use Rattle.hic_word.specs.Stands.{IdFor, LeafAt, InnerAt, WordsFor, NoWord, AWord, NoEntries, AnEntry, IsNumber, IsStored, ZeroEntry, NamedEntry}
use Rattle.hic_word.specs.Balanced.{IsBalanced}
use Rattle.hic_word.specs.Example.{ExampleIsBalanced, twice, leaf, whole, leaf_line, whole_line, stored, memory, held}
use Rattle.hic_word.proofs.Keys.{tied}

whole_there : line_at memory 0 ≡ Some whole_line
whole_there = map_of.get-from_sorted nat_cmp stored 0 tt

leaf_there : line_at memory 1 ≡ Some leaf_line
leaf_there = map_of.get-from_sorted nat_cmp stored 1 tt

here : (id : ℕ) (line : List Word) → line_at memory id ≡ Some line → ((id ≡ 0) × (line ≡ whole_line)) ⊎ ((id ≡ 1) × (line ≡ leaf_line))
here id line e = elim (cases_eq id 0) [
  | inl z ↦ inl (z, some_same (sym e ∙ ap (line_at memory) z ∙ whole_there))
  | inr n ↦ elim (cases_eq id 1) [
    | inl o ↦ inr (o, some_same (sym e ∙ ap (line_at memory) o ∙ leaf_there))
    | inr m ↦ absurd (none-some line (sym (map_of.get-from_sorted nat_cmp stored id tt ∙ ap (λ b. cond b (Some whole_line) (map_of.find nat_cmp id ((1, leaf_line) ∷ []))) (tied id 0 ∙ ne_eqb id 0 n)
        ∙ ap (λ b. cond b (Some leaf_line) None) (tied id 1 ∙ ne_eqb id 1 m)) ∙ e))
  ]
]
  where
    some_same : {x y : List Word} → ◌≡◌ {A = Option (List Word)} (Some x) (Some y) → x ≡ y
    some_same e = cc

leaf_stands : IdFor 4 (line_at memory) 1 leaf
leaf_stands = LeafAt (omega arith) leaf_there (AWord (IsNumber refl) (AWord (IsNumber refl) (AWord (IsNumber refl) (AWord (IsNumber refl) NoWord))))

whole_stands : IdFor 4 (line_at memory) 0 whole
whole_stands = InnerAt (omega arith) whole_there (AnEntry (NamedEntry leaf_stands refl) (AnEntry (NamedEntry leaf_stands refl) (AnEntry (ZeroEntry refl) (AnEntry (ZeroEntry refl) NoEntries))))

twice_valid : IsArray twice
unfolding ArePairs
twice_valid = (omega arith, omega arith, refl, omega arith, (omega arith, omega arith, refl, omega arith, tt))

first_valid : IsArray ((0, Number 70000) ∷ [])
unfolding ArePairs
first_valid = (omega arith, omega arith, refl, omega arith, tt)

whole_made : IsMade 4 whole
whole_made = record { height = 2; array = twice; path = []; is_part = record { positive = omega arith; low = omega arith; valid = twice_valid; below = (omega arith, (omega arith, tt)) }; made = refl }

leaf_made : IsMade 4 leaf
leaf_made = record { height = 1; array = (0, Number 70000) ∷ []; path = []; is_part = record { positive = omega arith; low = omega arith; valid = first_valid; below = (omega arith, tt) }; made = refl }

counted_at : (id n : ℕ) → map_of.find nat_cmp id ((0, 1) ∷ (1, 2) ∷ []) ≡ Some n → count_at memory id ≡ n
counted_at id n e = ap (λ (o : Option ℕ). unwrap_or o 0) (map_of.get-from_sorted nat_cmp ((0, 1) ∷ (1, 2) ∷ []) id tt ∙ e)

-- the root stands for a reference to the array
held_stands : WordsFor 4 (line_at memory) held (Ref (pairs twice) ∷ [])
unfolding height height_from
held_stands = AWord (IsStored refl whole_stands refl) NoWord

memory_balanced : IsBalanced 4 memory held
memory_balanced = record {
  unique = λ i j line e f. one i j line (here i line e) (here j line f);
  stands = λ id line e. stand id line (here id line e);
  no_dead = refl;
  used = λ id line e. elim (here id line e) [
    | inl z ↦ subst (λ q. 1 ≤ count_at memory q) (sym z.0) (let n = counted_at 0 1 refl in omega (arith, n))
    | inr o ↦ subst (λ q. 1 ≤ count_at memory q) (sym o.0) (let n = counted_at 1 2 refl in omega (arith, n))
  ];
  counted = λ id line e. elim (here id line e) [
    | inl z ↦ subst (λ q. Right q) (sym z.0) (counted_at 0 1 refl ∙ ap (λ es. count_by (λ x. x == 0) (names_of es) + count_by (λ x. x == 0) (names_in held)) (sym (map_of.entries-from_sorted nat_cmp stored tt)))
    | inr o ↦ subst (λ q. Right q) (sym o.0) (counted_at 1 2 refl ∙ ap (λ es. count_by (λ x. x == 1) (names_of es) + count_by (λ x. x == 1) (names_in held)) (sym (map_of.entries-from_sorted nat_cmp stored tt)))
  ];
}
  where
    Right : ℕ → Type 0
    Right id = count_at memory id ≡ count_by (λ x. x == id) (names_of (map_of.entries memory.lines)) + count_by (λ x. x == id) (names_in held)

    first_bits : List Word → ℕ
    first_bits [] = 0
    first_bits (x ∷ xs) = x.bits

    one : (i j : ℕ) (line : List Word) → ((i ≡ 0) × (line ≡ whole_line)) ⊎ ((i ≡ 1) × (line ≡ leaf_line)) → ((j ≡ 0) × (line ≡ whole_line)) ⊎ ((j ≡ 1) × (line ≡ leaf_line)) → i ≡ j
    one i j line (inl a) (inl b) = a.0 ∙ sym b.0
    one i j line (inl a) (inr b) = absurd (let n : 1 ≡ 70000 = ap first_bits (sym a.1 ∙ b.1) in omega arith)
    one i j line (inr a) (inl b) = absurd (let n : 1 ≡ 70000 = ap first_bits (sym b.1 ∙ a.1) in omega arith)
    one i j line (inr a) (inr b) = a.0 ∙ sym b.0

    stand : (id : ℕ) (line : List Word) → ((id ≡ 0) × (line ≡ whole_line)) ⊎ ((id ≡ 1) × (line ≡ leaf_line)) → (L : LineValue) × IdFor 4 (line_at memory) id L × IsMade 4 L
    stand id line (inl z) = (whole, subst (λ q. IdFor 4 (line_at memory) q whole) (sym z.0) whole_stands, whole_made)
    stand id line (inr o) = (leaf, subst (λ q. IdFor 4 (line_at memory) q leaf) (sym o.0) leaf_stands, leaf_made)

pub example_is_balanced : ExampleIsBalanced
example_is_balanced = (memory_balanced, held_stands)
