-- Ids that names put into another order, and what a test of a number tells.
use Rattle.std.proofs.Common.{◌≡◌, ℕ, suc, ◌+◌, ◌≤◌, Bool, true, false, List, [], ◌∷◌, ◌++◌, length, map, reverse, Option, Some, None, Bor, refl, sym, ◌∙◌, ap, append_assoc, append-nil, arith}
use Rattle.std.specs.Prelude.{flat_map, is_some, option_to_list}
use Rattle.std.proofs.lemmas.List.{length-append, length-reverse, reverse-append}
use Rattle.hic_word.specs.declared.Word.{Word}
use Rattle.hic_word.specs.Names.{named_id, names_in}

names_append : (xs ys : List Word) → names_in (xs ++ ys) ≡ names_in xs ++ names_in ys
names_append [] ys = refl
names_append (x ∷ xs) ys = ap (λ ns. option_to_list (named_id x) ++ ns) (names_append xs ys) ∙ sym (append_assoc (option_to_list (named_id x)) (names_in xs) (names_in ys))

turned : (o : Option ℕ) (ns : List ℕ) → reverse ns ++ (option_to_list o ++ []) ≡ reverse (option_to_list o ++ ns)
turned None ns = append-nil (reverse ns)
turned (Some n) ns = sym (reverse-append (n ∷ []) ns)

names_reverse : (xs : List Word) → names_in (reverse xs) ≡ reverse (names_in xs)
names_reverse [] = refl
names_reverse (x ∷ xs) =
    ap names_in (reverse-append (x ∷ []) xs)
    ∙ names_append (reverse xs) (x ∷ [])
    ∙ ap (λ ns. ns ++ names_in (x ∷ [])) (names_reverse xs)
    ∙ turned (named_id x) (names_in xs)

read_names : (ys : List (Bor Word)) → flat_map (λ (y : Bor Word). option_to_list (named_id y.now)) ys ≡ names_in (map (λ (y : Bor Word). y.now) ys)
read_names [] = refl
read_names (y ∷ ys) = ap (λ ns. option_to_list (named_id y.now) ++ ns) (read_names ys)

-- what is put behind others word by word, from the last one on
pub names_back : (ys : List (Bor Word)) (xs : List Word) → map (λ (y : Bor Word). y.now) ys ≡ reverse xs → flat_map (λ (y : Bor Word). option_to_list (named_id y.now)) ys ≡ reverse (names_in xs)
names_back ys xs e = read_names ys ∙ ap names_in e ∙ names_reverse xs

one_name : (o : Option ℕ) → length (option_to_list o) ≤ 1
one_name None = omega arith
one_name (Some n) = omega arith

pub names_few : (xs : List Word) → length (names_in xs) ≤ length xs
names_few [] = omega arith
names_few (x ∷ xs) = let a = one_name (named_id x) in let b = names_few xs in omega (arith, length-append (option_to_list (named_id x)) (names_in xs), a, b)

pub none_of : (o p : Option ℕ) → o ≡ p → is_some o ≡ false → p ≡ None
none_of None p e h = sym e
none_of (Some n) p e h = cc

pub some_of : (o p : Option ℕ) → o ≡ p → is_some o ≡ true → (n : ℕ) × (p ≡ Some n)
some_of None p e h = cc
some_of (Some n) p e h = (n, sym e)
