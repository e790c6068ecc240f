-- A text that grows by one numbered piece after the other.
use Rattle.std.proofs.Common.{◌≡◌, ℕ, zero, suc, ◌+◌, ◌/◌, ◌%◌, ◌≤◌, List, [], ◌∷◌, ◌++◌, length, map, take, flat_map, Some, refl, sym, ◌∙◌, ap, subst, append_assoc, append-nil, arith}
use Rattle.std.specs.Prelude.{slice_get}
use Rattle.std.proofs.lemmas.List.{flat_map_more, length-take-le, take_all, take_more}
use Rattle.std.proofs.lemmas.Option.{get_or_from_slice_get, slice_get_within}
use Rattle.hic_list.specs.Texts.{numbered, text_line}
use Rattle.hic_list.specs.Words.{digits_in}

numbered-last : {X : Type 0} (text : ℕ → X → List ℕ) (i n : ℕ) (xs : List X) (x : X) → n ≡ i + length xs → numbered text i (xs ++ x ∷ []) ≡ numbered text i xs ++ text n x
numbered-last text i n [] x e = let same : i ≡ n = omega (arith, e) in append-nil (text i x) ∙ ap (λ k. text k x) same
numbered-last text i n (y ∷ xs) x e = ap (λ t. text i y ++ t) (numbered-last text (i + 1) n xs x (omega (arith, e))) ∙ sym (append_assoc (text i y) (numbered text (i + 1) xs) (text n x))

-- the piece at this place is the next one
pub numbered-place : {X : Type 0} (text : ℕ → X → List ℕ) (xs : List X) (i : ℕ) (x : X) (start so_far next : List ℕ) → slice_get xs i ≡ Some x → so_far ≡ start ++ numbered text 0 (take i xs) → next ≡ so_far ++ text i x → next ≡ start ++ numbered text 0 (take (i + 1) xs)
numbered-place text xs i x start so_far next here is more =
    let low = slice_get_within xs i x here in
    let at : take (i + 1) xs ≡ take i xs ++ x ∷ [] = take_more xs i x low ∙ ap (λ y. take i xs ++ y ∷ []) (get_or_from_slice_get xs i x x here) in
    let count : i ≡ 0 + length (take i xs) = omega (arith, length-take-le i xs (omega (arith, low))) in
    more ∙ ap (λ t. t ++ text i x) is ∙ append_assoc start (numbered text 0 (take i xs)) (text i x)
    ∙ ap (λ t. start ++ t) (sym (numbered-last text 0 i (take i xs) x count)) ∙ ap (λ ys. start ++ numbered text 0 ys) (sym at)

-- ---- digits that are written one by one

pub digits-turn : (f : ℕ → List ℕ) (b k j left : ℕ) (so_far next whole : List ℕ) → k ≡ suc j → so_far ++ flat_map f (digits_in b k left) ≡ whole → next ≡ so_far ++ f (left % b) → next ++ flat_map f (digits_in b j (left / b)) ≡ whole
digits-turn f b k j left so_far next whole e is more =
    ap (λ t. t ++ flat_map f (digits_in b j (left / b))) more
    ∙ append_assoc so_far (f (left % b)) (flat_map f (digits_in b j (left / b)))
    ∙ subst (λ n. so_far ++ flat_map f (digits_in b n left) ≡ whole) e is

-- ---- pieces that are not numbered

pub flat-place : {X : Type 0} (f : X → List ℕ) (xs : List X) (i : ℕ) (x : X) (start so_far next : List ℕ) → slice_get xs i ≡ Some x → so_far ≡ start ++ flat_map f (take i xs) → next ≡ so_far ++ f x → next ≡ start ++ flat_map f (take (i + 1) xs)
flat-place f xs i x start so_far next here is more =
    let at : take (i + 1) xs ≡ take i xs ++ x ∷ [] = take_more xs i x (slice_get_within xs i x here) ∙ ap (λ y. take i xs ++ y ∷ []) (get_or_from_slice_get xs i x x here) in
    more ∙ ap (λ t. t ++ f x) is ∙ flat_map_more f start (take i xs) x ∙ ap (λ front. start ++ flat_map f front) (sym at)

flat_words : {X : Type 0} (f : X → List ℕ) (xs : List X) → flat_map (λ x. 32 ∷ f x) xs ≡ flat_map (λ (word : List ℕ). 32 ∷ word) (map f xs)
flat_words f [] = refl
flat_words f (x ∷ xs) = ap (λ t. (32 ∷ f x) ++ t) (flat_words f xs)

-- a line whose words were written
pub line-whole : {X : Type 0} (f : X → List ℕ) (xs : List X) (i : ℕ) (start first second so_far next : List ℕ) → length xs ≤ i → so_far ≡ (start ++ (first ++ 32 ∷ second)) ++ flat_map (λ x. 32 ∷ f x) (take i xs) → next ≡ so_far ++ 10 ∷ [] → next ≡ start ++ text_line first (second ∷ map f xs)
line-whole f xs i start first second so_far next low is more =
    let words = flat_map (λ (word : List ℕ). 32 ∷ word) (map f xs) in
    let all : so_far ≡ (start ++ (first ++ 32 ∷ second)) ++ words = is ∙ ap (λ ys. (start ++ (first ++ 32 ∷ second)) ++ flat_map (λ x. 32 ∷ f x) ys) (take_all i xs low) ∙ ap (λ t. (start ++ (first ++ 32 ∷ second)) ++ t) (flat_words f xs) in
    more ∙ ap (λ t. t ++ 10 ∷ []) all
    ∙ append_assoc (start ++ (first ++ 32 ∷ second)) words (10 ∷ [])
    ∙ append_assoc start (first ++ 32 ∷ second) (words ++ 10 ∷ [])
    ∙ ap (λ t. start ++ t) (append_assoc first (32 ∷ second) (words ++ 10 ∷ []) ∙ ap (λ t. first ++ t) (sym (append_assoc (32 ∷ second) words (10 ∷ []))))
