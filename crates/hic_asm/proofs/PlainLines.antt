-- Lines of plain words: what the disassembler writes is read back as its words.
use Rattle.std.proofs.Common.{◌≡◌, ℕ, ◌+◌, ◌-◌, ◌<◌, Bool, true, false, not, cond, ◌&&◌, eqb, leb, List, [], ◌∷◌, ◌++◌, length, take, get_or, filter, All, refl, ap, sym, ◌∙◌, arith}
use Rattle.std.specs.List.{AllByRecursion, list_all, slice_split, position_or_len}
use Rattle.std.specs.Str.Lines.{strip_carriage_return}
use Rattle.std.proofs.lemmas.Bool.Decides.{nat_tests}
use Rattle.std.proofs.lemmas.List.{append_assoc, append-nil, take_all}
use Rattle.std.proofs.lemmas.List.Elements.{All-from_recursion}
use Rattle.std.proofs.lemmas.List.Splits.{slice_split_at, slice_split_none}
use Rattle.text_lines.specs.Pieces.{is_line_feed, pieces}
use Rattle.text_lines.proofs.PieceLaws.{pieces-line}
use Rattle.hic_asm.specs.Words.{is_blank, is_semicolon, is_text_byte, is_text, uncommented, is_some_word, words, words_of_line}
use Rattle.hic_asm.specs.ObjectText.{spaced, text_line}

-- a byte from '!' to '~' but ';'
abbrev pub is_plain : ℕ → Bool
is_plain b = (leb 33 b && leb b 126) && not (eqb b 59)

-- a word of such bytes
pub record IsPlainWord (word : List ℕ) : Type 0 where
  pub some : 0 < length word
  pub plain : list_all is_plain word ≡ true

-- words of such bytes
abbrev pub ArePlain : List (List ℕ) → Type 0
ArePlain words = AllByRecursion IsPlainWord words

-- ---- bytes

-- what a byte of a line is: text, and no line feed, carriage return or semicolon
pub record IsQuiet (b : ℕ) : Type 0 where
  pub text : is_text_byte b ≡ true
  pub no_feed : is_line_feed b ≡ false
  pub no_return : eqb b 13 ≡ false
  pub no_comment : is_semicolon b ≡ false

quiet-plain : (b : ℕ) → is_plain b ≡ true → IsQuiet b
quiet-plain b h = record { text = grind (arith, nat_tests); no_feed = grind (arith, nat_tests); no_return = grind (arith, nat_tests); no_comment = grind (arith, nat_tests) }

no_blank-plain : (b : ℕ) → is_plain b ≡ true → is_blank b ≡ false
no_blank-plain b h = grind (arith, nat_tests)

both : (a b : Bool) → (a && b) ≡ true → (a ≡ true) × (b ≡ true)
both true b h = (refl, h)
both false b h = absurd (cc)

all_with : (P : ℕ → Type 0) (p : ℕ → Bool) → ((x : ℕ) → p x ≡ true → P x) → (xs : List ℕ) → list_all p xs ≡ true → AllByRecursion P xs
all_with P p each [] h = tt
all_with P p each (x ∷ xs) h = let tests = both (p x) (list_all p xs) h in (each x tests.0, all_with P p each xs tests.1)

all_append : (P : ℕ → Type 0) (xs ys : List ℕ) → AllByRecursion P xs → AllByRecursion P ys → AllByRecursion P (xs ++ ys)
all_append P [] ys front back = back
all_append P (x ∷ xs) ys front back = (front.0, all_append P xs ys front.1 back)

all_weaker : (P Q : ℕ → Type 0) → ((x : ℕ) → P x → Q x) → (xs : List ℕ) → AllByRecursion P xs → AllByRecursion Q xs
all_weaker P Q each [] all = tt
all_weaker P Q each (x ∷ xs) all = (each x all.0, all_weaker P Q each xs all.1)

-- a line of words, without its line feed
abbrev pub line_of : List ℕ → List (List ℕ) → List ℕ
line_of first operands = first ++ spaced operands

quiet-space : IsQuiet 32
quiet-space = record { text = refl; no_feed = refl; no_return = refl; no_comment = refl }

quiet-word : (word : List ℕ) → IsPlainWord word → AllByRecursion IsQuiet word
quiet-word word is = all_with IsQuiet is_plain quiet-plain word is.plain

quiet-spaced : (operands : List (List ℕ)) → ArePlain operands → AllByRecursion IsQuiet (spaced operands)
quiet-spaced [] all = tt
quiet-spaced (word ∷ operands) all = (quiet-space, all_append IsQuiet word (spaced operands) (quiet-word word all.0) (quiet-spaced operands all.1))

pub quiet-line : (first : List ℕ) (operands : List (List ℕ)) → IsPlainWord first → ArePlain operands → AllByRecursion IsQuiet (line_of first operands)
quiet-line first operands is all = all_append IsQuiet first (spaced operands) (quiet-word first is) (quiet-spaced operands all)

-- ---- a line of a text

list_all-true : (p : ℕ → Bool) (xs : List ℕ) → AllByRecursion (λ x. p x ≡ true) xs → list_all p xs ≡ true
list_all-true p [] all = refl
list_all-true p (x ∷ xs) all = ap (λ b. b && list_all p xs) all.0 ∙ list_all-true p xs all.1

pub is_text-quiet : (line : List ℕ) → AllByRecursion IsQuiet line → is_text line ≡ true
is_text-quiet line all = list_all-true is_text_byte line (all_weaker IsQuiet (λ b. is_text_byte b ≡ true) (λ b q. q.text) line all)

none_first : (p : ℕ → Bool) (xs : List ℕ) → AllByRecursion (λ x. p x ≡ false) xs → position_or_len p xs ≡ length xs
none_first p [] all = refl
none_first p (x ∷ xs) all = ap (λ b. cond (not b) (1 + position_or_len p xs) 0) all.0 ∙ omega (arith, none_first p xs all.1)

pub uncommented-quiet : (line : List ℕ) → AllByRecursion IsQuiet line → uncommented line ≡ line
uncommented-quiet line all =
    let end = none_first is_semicolon line (all_weaker IsQuiet (λ b. is_semicolon b ≡ false) (λ b q. q.no_comment) line all) in
    take_all (position_or_len is_semicolon line) line (omega arith)

last_quiet : (line : List ℕ) (b : ℕ) → AllByRecursion (λ x. eqb x 13 ≡ false) (b ∷ line) → eqb (get_or (b ∷ line) (length line) 0) 13 ≡ false
last_quiet [] b all = all.0
last_quiet (c ∷ line) b all = last_quiet line c all.1

pub strip-quiet : (line : List ℕ) → AllByRecursion IsQuiet line → strip_carriage_return line ≡ line
strip-quiet [] all = refl
strip-quiet (b ∷ line) all =
    let place : length (b ∷ line) - 1 ≡ length line = omega arith in
    let last = last_quiet line b (all_weaker IsQuiet (λ x. eqb x 13 ≡ false) (λ x q. q.no_return) (b ∷ line) all) in
    ap (λ n. cond (eqb (get_or (b ∷ line) n 0) 13) (take (length (b ∷ line) - 1) (b ∷ line)) (b ∷ line)) place
    ∙ ap (λ t. cond t (take (length (b ∷ line) - 1) (b ∷ line)) (b ∷ line)) last

-- a line of plain words is a piece of the text
pub pieces-text_line : (first : List ℕ) (operands : List (List ℕ)) (rest : List ℕ) → IsPlainWord first → ArePlain operands → pieces (text_line first operands ++ rest) ≡ line_of first operands ∷ pieces rest
pieces-text_line first operands rest is all =
    let quiet = quiet-line first operands is all in
    let line = line_of first operands in
    let shape : text_line first operands ++ rest ≡ line ++ 10 ∷ rest = ap (λ t. t ++ rest) (sym (append_assoc first (spaced operands) (10 ∷ []))) ∙ append_assoc line (10 ∷ []) rest in
    ap pieces shape
    ∙ pieces-line line rest (All-from_recursion (λ b. is_line_feed b ≡ false) line (all_weaker IsQuiet (λ b. is_line_feed b ≡ false) (λ b q. q.no_feed) line quiet))
    ∙ ap (λ piece. piece ∷ pieces rest) (strip-quiet line quiet)

-- ---- the words of a line

no_blanks : (word : List ℕ) → IsPlainWord word → All (λ b. is_blank b ≡ false) word
no_blanks word is = All-from_recursion (λ b. is_blank b ≡ false) word (all_with (λ b. is_blank b ≡ false) is_plain no_blank-plain word is.plain)

kept : (word : List ℕ) (rest : List (List ℕ)) → 0 < length word → filter is_some_word (word ∷ rest) ≡ word ∷ filter is_some_word rest
kept [] rest some = absurd (omega arith)
kept (b ∷ bs) rest some = refl

words-one : (word : List ℕ) → IsPlainWord word → words word ≡ word ∷ []
unfolding words
words-one word is = ap (filter is_some_word) (slice_split_none is_blank word (no_blanks word is)) ∙ kept word [] is.some

words-next : (word text : List ℕ) → IsPlainWord word → words (word ++ 32 ∷ text) ≡ word ∷ words text
unfolding words
words-next word text is = ap (filter is_some_word) (slice_split_at is_blank word 32 text (no_blanks word is) refl) ∙ kept word (slice_split is_blank text) is.some

words-line : (first : List ℕ) (operands : List (List ℕ)) → IsPlainWord first → ArePlain operands → words (line_of first operands) ≡ first ∷ operands
words-line first [] is all = ap words (append-nil first) ∙ words-one first is
words-line first (word ∷ operands) is all = words-next first (word ++ spaced operands) is ∙ ap (λ ws. first ∷ ws) (words-line word operands all.0 all.1)

pub words_of_line-plain : (first : List ℕ) (operands : List (List ℕ)) → IsPlainWord first → ArePlain operands → words_of_line (line_of first operands) ≡ first ∷ operands
words_of_line-plain first operands is all = ap words (uncommented-quiet (line_of first operands) (quiet-line first operands is all)) ∙ words-line first operands is all
