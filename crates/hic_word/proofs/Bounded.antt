-- Counts in a balanced memory.
use Rattle.std.proofs.Common.{◌≡◌, ℕ, suc, ◌*◌, ◌≤◌, Bool, true, false, cond, List, [], ◌∷◌, ◌++◌, length, Option, Some, None, refl, ◌∙◌, ap, subst, inl, inr, arith, le_refl, ◌+◌}
use Rattle.std.specs.Prelude.{count_by, ◌==◌, option_to_list}
use Rattle.std.specs.FinMap as map_of
use Rattle.std.proofs.Math.Nat.{mul-le-mul}
use Rattle.std.proofs.lemmas.List.Sums.{sum_by-cons, sum_by-append}
use Rattle.hic_word.specs.declared.Word.{Word}
use Rattle.hic_word.specs.Lists.{In}
use Rattle.hic_word.specs.Values.{Value}
use Rattle.hic_word.specs.Entries.{Entries, LineValue, entries}
use Rattle.hic_word.specs.Names.{named_id, names_in}
use Rattle.hic_word.specs.Memory.{names_of}
use Rattle.hic_word.specs.Stands.{AWord, AnEntry, EntriesFor, IdFor, InnerAt, LeafAt, Lookup, NoEntries, NoWord, WordsFor}
use Rattle.hic_word.specs.BalanceLaws.{BalanceIsByCounts, CountsAreBounded}
use Rattle.hic_word.proofs.Fits.{LineFits, made_fits}
use Rattle.hic_word.proofs.Keys.{entry_line}
use Rattle.hic_word.proofs.Tells.{same_line}

one_at_most : (t : Bool) → cond t 1 0 ≤ 1
one_at_most true = omega arith
one_at_most false = omega arith

-- words name an id at most once each
count_in_words : (j : ℕ) (xs : List Word) → count_by (λ x. x == j) (names_in xs) ≤ length xs
count_in_words j [] = omega arith
count_in_words j (x ∷ xs) = go (named_id x) (count_in_words j xs)
  where
    go : (o : Option ℕ) → count_by (λ x. x == j) (names_in xs) ≤ length xs → count_by (λ x. x == j) (option_to_list o ++ names_in xs) ≤ suc (length xs)
    go None h = omega arith
    go (Some i) h = let first = sum_by-cons (λ x. cond (x == j) 1 0) i (names_in xs) in let one = one_at_most (i == j) in omega (arith, first, one, h)

count_in_lines : (w j : ℕ) (es : List (ℕ × List Word)) → ((e : ℕ × List Word) → In e es → length e.1 ≡ w) → count_by (λ x. x == j) (names_of es) ≤ w * length es
count_in_lines w j [] long = omega arith
count_in_lines w j (e ∷ es) long =
    let both = sum_by-append (λ x. cond (x == j) 1 0) (names_in e.1) (names_of es) in
    let first = count_in_words j e.1 in
    let wide = long e (inl refl) in
    let rest = count_in_lines w j es (λ d h. long d (inr h)) in
    omega (arith, both, first, wide, rest)

length-words : {w : ℕ} {m : Lookup} {xs : List Word} {vs : List Value} → WordsFor w m xs vs → length xs ≡ length vs
length-words NoWord = refl
length-words (AWord d ws) = ap suc (length-words ws)

length-entries : {w : ℕ} {m : Lookup} {xs : List Word} {es : Entries} → EntriesFor w m xs es → length xs ≡ length (entries es)
length-entries NoEntries = refl
length-entries (AnEntry d ds) = ap suc (length-entries ds)

-- a line that stands for a line value has w words
length-line : {w : ℕ} {m : Lookup} {id : ℕ} {L : LineValue} (line : List Word) → IdFor w m id L → LineFits w L → m id ≡ Some line → length line ≡ w
unfolding LineFits
length-line {m = m} {id = id} line (LeafAt {line = x} b e ws) f h = ap length (same_line m id line x h e) ∙ length-words ws ∙ f.0
length-line {m = m} {id = id} line (InnerAt {line = x} b e ds) f h = ap length (same_line m id line x h e) ∙ length-entries ds ∙ f.0

pub counts_are_bounded : CountsAreBounded
counts_are_bounded w m H id line width b room here =
    let es = map_of.entries m.lines in
    let long : (e : ℕ × List Word) → In e es → length e.1 ≡ w = λ e h.
    let there = entry_line m e h in
    let (L, i, made) = b.stands e.0 e.1 there in
    length-line e.1 i (made_fits width made) there in
    let live = count_in_lines w id es long in
    let held_names = count_in_words id H in
    let within : length es ≤ m.layout.cap = subst (λ n. n ≤ m.layout.cap) (map_of.len-entries m.lines) room in
    let scaled = mul-le-mul (le_refl w) within in
    let is = b.counted id line here in
    omega (arith, live, held_names, scaled, is)

pub balance_is_by_counts : BalanceIsByCounts
balance_is_by_counts w m H K same b = record {
  unique = b.unique;
  stands = b.stands;
  no_dead = b.no_dead;
  used = b.used;
  counted = λ id line here. b.counted id line here ∙ ap (λ n. count_by (λ x. x == id) (names_of (map_of.entries m.lines)) + n) (same id);
}
