-- The pieces of a text, one after the other.
use Rattle.std.proofs.Common.{◌≡◌, ℕ, ◌+◌, Bool, true, false, cond, List, [], ◌∷◌, ◌++◌, length, take, drop, map, All, Some, None, refl, ap, sym, ◌∙◌, arith}
use Rattle.std.specs.List.{onto_first, position, position_or_len}
use Rattle.std.specs.Str.Lines.{strip_carriage_return}
use Rattle.std.proofs.lemmas.Bool.{ltb-false}
use Rattle.std.proofs.lemmas.List.Quantifiers.{position-Some}
use Rattle.std.proofs.lemmas.List.Splits.{slice_split_at, slice_split_first, slice_split_none}
use Rattle.std.proofs.lemmas.List.Sums.{position_or_len_is, fails_before_first}
use Rattle.text_lines.specs.Pieces.{is_line_feed, between_line_feeds, parts, pieces, without_empty_last}

-- a list has a first element
record HasFirst (all : List (List ℕ)) : Type 0 where
  first : List ℕ
  rest : List (List ℕ)
  is : all ≡ first ∷ rest

has_first_onto : (x : ℕ) (all : List (List ℕ)) → HasFirst (onto_first x all)
has_first_onto x [] = record { first = x ∷ []; rest = []; is = refl }
has_first_onto x (part ∷ rest) = record { first = x ∷ part; rest = rest; is = refl }

has_first_cond : (b : Bool) (x : ℕ) (all : List (List ℕ)) → HasFirst (cond b ([] ∷ all) (onto_first x all))
has_first_cond true x all = record { first = []; rest = all; is = refl }
has_first_cond false x all = has_first_onto x all

-- a text has at least one part
has_part : (text : List ℕ) → HasFirst (between_line_feeds text)
has_part [] = record { first = []; rest = []; is = refl }
has_part (x ∷ xs) = has_first_cond (is_line_feed x) x (between_line_feeds xs)

kept : (piece first : List ℕ) (rest : List (List ℕ)) → without_empty_last (piece ∷ first ∷ rest) ≡ piece ∷ without_empty_last (first ∷ rest)
kept [] first rest = refl
kept (x ∷ xs) first rest = refl

-- a part that is not the last is kept
kept_before : (piece : List ℕ) (text : List ℕ) → without_empty_last (piece ∷ parts text) ≡ piece ∷ pieces text
kept_before piece text =
    let has = has_part text in
    ap (λ all. without_empty_last (piece ∷ map strip_carriage_return all)) has.is
    ∙ kept piece (strip_carriage_return has.first) (map strip_carriage_return has.rest)
    ∙ ap (λ all. piece ∷ without_empty_last (map strip_carriage_return all)) (sym has.is)

cut_first : (text : List ℕ) (end : ℕ) → position is_line_feed text ≡ Some end → between_line_feeds text ≡ take end text ∷ between_line_feeds (drop (end + 1) text)
cut_first text end here =
    let at = position-Some is_line_feed text end 0 here in
    let is : position_or_len is_line_feed text ≡ end = position_or_len_is is_line_feed text end 0 (omega (arith, at.0)) at.2 (λ _. at.1) in
    slice_split_first is_line_feed text 0 (omega (arith, at.0))
    ∙ ap (λ n. take n text ∷ between_line_feeds (drop (n + 1) text)) is

-- what stands before the first line feed is the first piece
pub pieces-cut : (text : List ℕ) (end : ℕ) → position is_line_feed text ≡ Some end → pieces text ≡ strip_carriage_return (take end text) ∷ pieces (drop (end + 1) text)
pieces-cut text end here =
    ap (λ all. without_empty_last (map strip_carriage_return all)) (cut_first text end here)
    ∙ kept_before (strip_carriage_return (take end text)) (drop (end + 1) text)

no_some : (b : Bool) (n : ℕ) → cond b (Some n) None ≡ None → b ≡ false
no_some true n none = absurd (cc)
no_some false n none = refl

-- without a line feed the one part is the last
pub pieces-last : (text : List ℕ) → position is_line_feed text ≡ None → pieces text ≡ without_empty_last (strip_carriage_return text ∷ [])
pieces-last text none =
    let past = ltb-false _ _ (no_some _ _ none) in
    ap (λ all. without_empty_last (map strip_carriage_return all)) (slice_split_none is_line_feed text (λ k d within. fails_before_first is_line_feed text k d (omega (arith, past))))

last_kept : (piece : List ℕ) → (length piece ≡ 0 → ⊥) → without_empty_last (piece ∷ []) ≡ piece ∷ []
last_kept [] some = absurd (some refl)
last_kept (x ∷ xs) some = refl

pub pieces-one : (text piece : List ℕ) → position is_line_feed text ≡ None → piece ≡ strip_carriage_return text → (length piece ≡ 0 → ⊥) → pieces text ≡ piece ∷ []
pieces-one text piece none is some = pieces-last text none ∙ ap (λ p. without_empty_last (p ∷ [])) (sym is) ∙ last_kept piece some

-- a part without a line feed, and the text after its line feed
pub pieces-line : (part text : List ℕ) → All (λ byte. is_line_feed byte ≡ false) part → pieces (part ++ 10 ∷ text) ≡ strip_carriage_return part ∷ pieces text
pieces-line part text none =
    ap (λ all. without_empty_last (map strip_carriage_return all)) (slice_split_at is_line_feed part 10 text none refl)
    ∙ kept_before (strip_carriage_return part) text
