-- The words of a text, one after the other.
use Rattle.std.proofs.Common.{◌≡◌, ◌≢◌, ℕ, suc, ◌+◌, ◌<◌, ◌≤◌, Bool, true, false, not, cond, List, [], ◌∷◌, length, take, drop, get_or, filter, Some, None, unwrap_or, refl, ap, sym, ◌∙◌, ⊎_elim, arith}
use Rattle.std.specs.List.{slice_split, position, position_or_len}
use Rattle.std.proofs.lemmas.Bool.{lt-ltb, le-ltb, cases_lt}
use Rattle.std.proofs.lemmas.List.{take_all, drop_all, at_drop_more, length-take, length-drop}
use Rattle.std.proofs.lemmas.List.Splits.{slice_split-cons_yes, slice_split_first, slice_split_none}
use Rattle.std.proofs.lemmas.List.Sums.{fails_before_first, passes_at_first, prefix_len-le-length}
use Rattle.hic_asm.specs.Words.{is_blank, is_some_word, words}

-- the first place that passes, or the end
pub first_or_end : {X : Type 0} (p : X → Bool) (xs : List X) → unwrap_or (position p xs) (length xs) ≡ position_or_len p xs
first_or_end p xs = ⊎_elim
    (λ l. ap (λ b. unwrap_or (cond b (Some (position_or_len p xs)) None) (length xs)) (lt-ltb _ _ l))
    (λ g. let bound : position_or_len p xs ≤ length xs = prefix_len-le-length (λ x. not (p x)) xs in ap (λ b. unwrap_or (cond b (Some (position_or_len p xs)) None) (length xs)) (le-ltb _ _ g) ∙ omega arith)
    (cases_lt (position_or_len p xs) (length xs))

-- blanks before a word are passed
pub words-blank : (b : ℕ) (xs : List ℕ) → is_blank b ≡ true → words (b ∷ xs) ≡ words xs
unfolding words
words-blank b xs is = ap (filter is_some_word) (slice_split-cons_yes is_blank b xs is)

skip_at : (blank : Bool) (b : ℕ) (xs : List ℕ) (n : ℕ) → is_blank b ≡ blank → words (drop n xs) ≡ words xs → words (drop (cond (not (not blank)) (1 + n) 0) (b ∷ xs)) ≡ words (b ∷ xs)
skip_at true b xs n is rest = let e : 1 + n ≡ suc n = omega arith in ap (λ k. words (drop k (b ∷ xs))) e ∙ rest ∙ sym (words-blank b xs is)
skip_at false b xs n is rest = refl

pub words-skip : (xs : List ℕ) → words (drop (position_or_len (λ b. not (is_blank b)) xs) xs) ≡ words xs
words-skip [] = refl
words-skip (b ∷ xs) = skip_at (is_blank b) b xs _ refl (words-skip xs)

some_at : (word : List ℕ) (rest : List (List ℕ)) → length word ≢ 0 → filter is_some_word (word ∷ rest) ≡ word ∷ filter is_some_word rest
some_at [] rest some = absurd (some refl)
some_at (b ∷ bs) rest some = refl

-- a text that does not begin with a blank is a word and the words after it
words-cut_at : (xs : List ℕ) (n : ℕ) → position_or_len is_blank xs ≡ n → 0 < n → n ≤ length xs → words xs ≡ take n xs ∷ words (drop n xs)
unfolding words
words-cut_at xs n is some bound = ⊎_elim
    (λ l.
    let cut = slice_split_first is_blank xs 0 (omega arith) in
    let blank = passes_at_first is_blank xs 0 (omega arith) in
    let parts : slice_split is_blank xs ≡ take n xs ∷ slice_split is_blank (drop (n + 1) xs) = cut ∙ ap (λ k. take k xs ∷ slice_split is_blank (drop (k + 1) xs)) is in
    let here : is_blank (get_or xs n 0) ≡ true = ap (λ k. is_blank (get_or xs k 0)) (sym is) ∙ blank in
    let rest : drop n xs ≡ get_or xs n 0 ∷ drop (n + 1) xs = at_drop_more (λ t. t) xs n 0 l in
    ap (filter is_some_word) parts
    ∙ some_at (take n xs) (slice_split is_blank (drop (n + 1) xs)) (λ e. omega (arith, length-take n xs))
    ∙ ap (λ ws. take n xs ∷ ws) (sym (ap words rest ∙ words-blank (get_or xs n 0) (drop (n + 1) xs) here)))
    (λ g.
    let all : take n xs ≡ xs = take_all n xs g in
    let none : drop n xs ≡ [] = drop_all n xs g in
    ap (filter is_some_word) (slice_split_none is_blank xs (λ k d within. fails_before_first is_blank xs k d (omega arith)))
    ∙ some_at xs [] (λ e. omega arith)
    ∙ ap (λ w. w ∷ []) (sym all)
    ∙ ap (λ t. take n xs ∷ words t) (sym none))
    (cases_lt n (length xs))

-- what is left after the blanks begins with no blank
some_word_at : (blank : Bool) (b : ℕ) (xs : List ℕ) (n : ℕ) → is_blank b ≡ blank → (length (drop n xs) ≢ 0 → 0 < position_or_len is_blank (drop n xs))
    → length (drop (cond (not (not blank)) (1 + n) 0) (b ∷ xs)) ≢ 0 → 0 < position_or_len is_blank (drop (cond (not (not blank)) (1 + n) 0) (b ∷ xs))
some_word_at true b xs n is rest = let e : suc n ≡ 1 + n = omega arith in rw (← e) rest
some_word_at false b xs n is rest = λ _. rw is (omega arith)

some_word : (xs : List ℕ) → length (drop (position_or_len (λ b. not (is_blank b)) xs) xs) ≢ 0 → 0 < position_or_len is_blank (drop (position_or_len (λ b. not (is_blank b)) xs) xs)
some_word [] some = absurd (some refl)
some_word (b ∷ xs) some = some_word_at (is_blank b) b xs _ refl (some_word xs) some

-- the first word of a text whose blanks are passed
pub words-next : (text left : List ℕ) (n : ℕ) → left ≡ drop (position_or_len (λ b. not (is_blank b)) text) text → n ≡ position_or_len is_blank left → length left ≢ 0 → words text ≡ take n left ∷ words (drop n left)
words-next text left n left_is n_is some =
    let begins : 0 < position_or_len is_blank left = rw left_is (some_word text (λ e. some (ap length left_is ∙ e))) in
    sym (words-skip text) ∙ ap words (sym left_is) ∙ words-cut_at left n (sym n_is) (omega arith) (omega (arith, prefix_len-le-length (λ x. not (is_blank x)) left))

pub words-end : (text left : List ℕ) → left ≡ drop (position_or_len (λ b. not (is_blank b)) text) text → length left ≡ 0 → words text ≡ []
unfolding words
words-end text [] left_is none = sym (words-skip text) ∙ ap words (sym left_is)
words-end text (b ∷ bs) left_is none = absurd (omega arith)

-- a word is taken off
pub words-shorter : (text left rest : List ℕ) (n : ℕ) → left ≡ drop (position_or_len (λ b. not (is_blank b)) text) text → n ≡ position_or_len is_blank left → rest ≡ drop n left → length left ≢ 0 → length rest < length text
words-shorter text left rest n left_is n_is rest_is some =
    let begins : 0 < position_or_len is_blank left = rw left_is (some_word text (λ e. some (ap length left_is ∙ e))) in
    let left_len = ap length left_is ∙ length-drop (position_or_len (λ b. not (is_blank b)) text) text in
    let rest_len = ap length rest_is ∙ length-drop n left in
    omega arith
