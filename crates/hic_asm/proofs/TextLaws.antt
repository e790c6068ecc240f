-- The text of a line is read at once with the end of what stands before its comment.
use Rattle.std.proofs.Common.{◌≡◌, ℕ, suc, ◌+◌, Bool, true, false, not, cond, ◌&&◌, List, [], ◌∷◌, take, drop, Some, None, refl, ap, sym, ◌∙◌, arith}
use Rattle.std.specs.List.{position_or_len}
use Rattle.hic_asm.specs.Text.{is_plain, uncommented_text}
use Rattle.hic_asm.specs.Words.{is_semicolon, is_text_byte, is_text, uncommented}

-- how many bytes a line begins with that are text and no semicolon
abbrev plain_len : List ℕ → ℕ
plain_len line = position_or_len (λ byte. not (is_plain byte)) line

rest_at : (text semicolon : Bool) (b : ℕ) (bs : List ℕ) (n : ℕ) → is_text_byte b ≡ text → is_text bs ≡ is_text (drop n bs)
    → (text && is_text bs) ≡ is_text (drop (cond (not (not (text && not semicolon))) (1 + n) 0) (b ∷ bs))
rest_at true false b bs n is rest = let e : suc n ≡ 1 + n = omega arith in rest ∙ ap (λ k. is_text (drop k (b ∷ bs))) e
rest_at true true b bs n is rest = ap (λ t. t && is_text bs) (sym is)
rest_at false semicolon b bs n is rest = ap (λ t. t && is_text bs) (sym is)

-- what is left after them tells whether all of the line is text
is_text-rest : (line : List ℕ) → is_text line ≡ is_text (drop (plain_len line) line)
is_text-rest [] = refl
is_text-rest (b ∷ bs) = rest_at (is_text_byte b) (is_semicolon b) b bs _ refl (is_text-rest bs)

end_at : (text semicolon : Bool) (m n : ℕ) (rest : Bool) → (text && rest) ≡ true → (rest ≡ true → m ≡ n) → cond (not semicolon) (1 + m) 0 ≡ cond (not (not (text && not semicolon))) (1 + n) 0
end_at true false m n rest all same = ap (λ k. 1 + k) (same all)
end_at true true m n rest all same = refl
end_at false semicolon m n rest all same = absurd (cc)

-- in a text they end where the comment begins
comment-start : (line : List ℕ) → is_text line ≡ true → position_or_len is_semicolon line ≡ plain_len line
comment-start [] all = refl
comment-start (b ∷ bs) all = end_at (is_text_byte b) (is_semicolon b) _ _ (is_text bs) all (comment-start bs)

-- the rest is text
pub uncommented_text-some : (line code rest : List ℕ) (n : ℕ) → n ≡ position_or_len (λ byte. not (is_plain byte)) line → code ≡ take n line → rest ≡ drop n line → is_text rest ≡ true → Some code ≡ uncommented_text line
uncommented_text-some line code rest n len code_is rest_is all =
    let text = is_text-rest line ∙ ap (λ k. is_text (drop k line)) (sym len) ∙ ap is_text (sym rest_is) ∙ all in
    ap Some (code_is ∙ ap (λ k. take k line) (len ∙ sym (comment-start line text))) ∙ sym (ap (λ b. cond b (Some (uncommented line)) None) text)

-- the rest is no text
pub uncommented_text-none : (line rest : List ℕ) (n : ℕ) → n ≡ position_or_len (λ byte. not (is_plain byte)) line → rest ≡ drop n line → is_text rest ≡ false → None ≡ uncommented_text line
uncommented_text-none line rest n len rest_is other =
    sym (ap (λ b. cond b (Some (uncommented line)) None) (is_text-rest line ∙ ap (λ k. is_text (drop k line)) (sym len) ∙ ap is_text (sym rest_is) ∙ other))
