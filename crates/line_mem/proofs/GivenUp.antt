-- Holds that are given up one word after another.
use Rattle.std.proofs.Common.{◌≡◌, ℕ, suc, ◌+◌, ◌-◌, ◌<◌, ◌≤◌, cond, eqb, List, [], ◌∷◌, length, get_or, Option, Some, None, refl, sym, ◌∙◌, ap, subst, arith, inl, inr, ◌++◌, take, drop, add-one}
use Rattle.std.proofs.lemmas.Bool.{ne_eqb, eq-eqb, cases_eq}
use Rattle.std.specs.Prelude.{option_to_list}
use Rattle.hic_word.proofs.callers.Holds.{hit-same, count_after, count-without_hold, names-some, names-none}
use Rattle.hic_word.specs.declared.Word.{Word}
use Rattle.hic_word.specs.Lists.{times}
use Rattle.hic_word.specs.Memory.{Memory, count_at}
use Rattle.hic_word.specs.MemorySteps.{with_hold, without_hold, without_holds}
use Rattle.std.proofs.Math.Seq.{take-suc, drop-cons}
use Rattle.hic_word.specs.Names.{named_id, names_in}

pub count-more : (m : Memory) (k q n : ℕ) → n ≤ count_at m q → n ≤ count_at (with_hold m k) q
count-more m k q n h = elim (cases_eq q k) [
  | inl s ↦ let a = count_after m k (count_at m k + 1) q in let b : cond (eqb q k) (count_at m k + 1) (count_at m q) ≡ count_at m q + 1 = ap (λ t. cond t (count_at m k + 1) (count_at m q)) (eq-eqb q k s) ∙ ap (λ x. count_at m x + 1) (sym s) in omega (arith, a, b)
  | inr s ↦ let a = count_after m k (count_at m k + 1) q in let b : cond (eqb q k) (count_at m k + 1) (count_at m q) ≡ count_at m q = ap (λ t. cond t (count_at m k + 1) (count_at m q)) (ne_eqb q k s) in omega (arith, a, b)
]

pub without_holds-append : (m : Memory) (xs ys : List ℕ) → without_holds m (xs ++ ys) ≡ without_holds (without_holds m xs) ys
without_holds-append m [] ys = refl
without_holds-append m (x ∷ xs) ys = without_holds-append (without_hold m x) xs ys

pub names-snoc : (ws : List Word) (w : Word) → names_in (ws ++ w ∷ []) ≡ names_in ws ++ option_to_list (named_id w)
names-snoc [] w = go (named_id w)
  where
    go : (o : Option ℕ) → option_to_list o ++ [] ≡ option_to_list o
    go None = refl
    go (Some n) = refl
names-snoc (x ∷ ws) w = go (named_id x) (names-snoc ws w)
  where
    go : (o : Option ℕ) → names_in (ws ++ w ∷ []) ≡ names_in ws ++ option_to_list (named_id w) → option_to_list o ++ names_in (ws ++ w ∷ []) ≡ (option_to_list o ++ names_in ws) ++ option_to_list (named_id w)
    go None e = e
    go (Some n) e = ap (λ ns. n ∷ ns) e

pub given_next : (old now new : Memory) (ws : List Word) (i : ℕ) (d : Word) → i < length ws → now ≡ without_holds old (names_in (take i ws)) → new ≡ without_holds now (option_to_list (named_id (get_or ws i d))) → new ≡ without_holds old (names_in (take (i + 1) ws))
given_next old now new ws i d h e f =
    let w = get_or ws i d in
    f ∙ ap (λ m. without_holds m (option_to_list (named_id w))) e
    ∙ sym (without_holds-append old (names_in (take i ws)) (option_to_list (named_id w)))
    ∙ ap (without_holds old) (sym (names-snoc (take i ws) w))
    ∙ ap (λ xs. without_holds old (names_in xs)) (sym (take-suc ws i d h))
    ∙ ap (λ j. without_holds old (names_in (take j ws))) (sym (add-one i))

held_after : (now : Memory) (w : Word) (o : Option ℕ) (rest : List Word) → named_id w ≡ o → ((q : ℕ) → times q (names_in (w ∷ rest)) ≤ count_at now q) → (q : ℕ) → times q (names_in rest) ≤ count_at (without_holds now (option_to_list o)) q
held_after now w None rest e h q = let a = names-none q w rest e in let b = h q in omega (arith, a, b)
held_after now w (Some id) rest e h q =
    let a = names-some q id w rest e in
    let b = h q in
    let c = count-without_hold now id q in
    elim (cases_eq q id) [
      | inl k ↦
          let d : cond (eqb q id) (count_at now id - 1) (count_at now q) ≡ count_at now q - 1 = ap (λ t. cond t (count_at now id - 1) (count_at now q)) (eq-eqb q id k) ∙ ap (λ x. count_at now x - 1) (sym k) in
          let f = hit-same q id k in
          omega (arith, a, b, c, d, f)
      | inr k ↦
          let d : cond (eqb q id) (count_at now id - 1) (count_at now q) ≡ count_at now q = ap (λ t. cond t (count_at now id - 1) (count_at now q)) (ne_eqb q id k) in
          omega (arith, a, b, c, d)
    ]

pub held_next : (now new : Memory) (ws : List Word) (i : ℕ) (d : Word) → i < length ws → ((q : ℕ) → times q (names_in (drop i ws)) ≤ count_at now q) → new ≡ without_holds now (option_to_list (named_id (get_or ws i d))) → (q : ℕ) → times q (names_in (drop (i + 1) ws)) ≤ count_at new q
held_next now new ws i d h held f q =
    let w = get_or ws i d in
    let a : (x : ℕ) → times x (names_in (w ∷ drop (suc i) ws)) ≤ count_at now x = λ x. subst (λ xs. times x (names_in xs) ≤ count_at now x) (drop-cons ws i d h) (held x) in
    let b = held_after now w (named_id w) (drop (suc i) ws) refl a q in
    subst (λ m. times q (names_in (drop (i + 1) ws)) ≤ count_at m q) (sym f) (subst (λ j. times q (names_in (drop j ws)) ≤ count_at (without_holds now (option_to_list (named_id w))) q) (sym (add-one i)) b)
